-- What a verdict says of the sky: at that place and minute the exact value that was asked for lies on that side of zero.
use Rattle.std.specs.Prelude.{◌≡◌, ℕ, ℤ, pos, ◌*ℤ◌}
use Rattle.fixed_interval.specs.Fraction.{over}
use Rattle.fixed_interval.specs.Enclosure.{Enclosure}
use Rattle.fixed_interval.specs.Grid.{enclosure_of_range}
use Rattle.solar_terms.specs.SunLaws.{SunSource}
use Rattle.altitude_test.specs.Conditions.{Spot, IsAbove, IsBelow, IsWithin, altitude_at, meridian_at}
use Rattle.asr_test.specs.AsrLaws.{asr_at}
use Rattle.meeus_terms.specs.Suns.{exact_sun_of}
use Rattle.sun_verdict.specs.Verdict.{angle_of, verdict_of}
use Rattle.sun_verdict.specs.declared.request.Question.{Question}
use Rattle.sun_verdict.specs.declared.request.Question.TheVariants.{Altitude, Meridian, Shadow}
use Rattle.sun_verdict.specs.declared.request.Request.{Request}
use Rattle.sun_verdict.specs.declared.verdict.Verdict.TheVariants.{Above, Below, Open}

-- the place of a request, in place units
unfoldable pub spot_of : Request → Spot
spot_of r = record { x = over (r.lon *ℤ pos 128) 1; y = over (r.lat *ℤ pos 128) 1 }

-- the value that is asked for by this sun at one place and minute, enclosed at every depth
unfoldable pub asked_at : SunSource → Question → ℤ → Spot → ℕ → Enclosure
asked_at sun (Altitude angle) k p = altitude_at sun k p (enclosure_of_range (angle_of angle))
asked_at sun Meridian k p = meridian_at sun k p
asked_at sun (Shadow factor) k p = asr_at sun k p factor

-- the tolerance of a value: 2^-24 for the altitude and the meridian, 2^-14 for Asr
abbrev pub tolerance_bits : Question → ℕ
tolerance_bits (Altitude angle) = 24
tolerance_bits Meridian = 24
tolerance_bits (Shadow factor) = 14

-- the value that a request asks for, by its sun
abbrev pub asked_in : Request → ℕ → Enclosure
asked_in r = asked_at (exact_sun_of r.sun) r.question r.minute (spot_of r)

-- where the verdict is above, the value is above zero there, where it is below, below, and where it is open, within
-- the tolerance
pub record IsTrueOfSky (r : Request) : Type 0 where
  pub above : verdict_of r ≡ Above → IsAbove (asked_in r)
  pub below : verdict_of r ≡ Below → IsBelow (asked_in r)
  pub undecided : verdict_of r ≡ Open → IsWithin (tolerance_bits r.question) (asked_in r)
