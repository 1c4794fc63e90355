-- The verdict on one question at one place and one minute: on which side of zero the enclosure of the value lies.
use Rattle.std.specs.Prelude.{ℤ, pos, ◌*ℤ◌, int_lt, if◌then◌else◌, List, ℕ, codes}
use Rattle.fixed_interval.specs.Grid.{Ends, Range}
use Rattle.solar_terms.specs.Sun.{SunTerms}
use Rattle.altitude_test.specs.Values.{Box, grid_altitude_value, grid_meridian_value}
use Rattle.asr_test.specs.Asr.{grid_asr_value}
use Rattle.meeus_terms.specs.Suns.{grid_sun_of}
use Rattle.sun_verdict.specs.declared.request.Question.{Question}
use Rattle.sun_verdict.specs.declared.request.Question.TheVariants.{Altitude, Meridian, Shadow}
use Rattle.sun_verdict.specs.declared.request.Request.{Request}
use Rattle.sun_verdict.specs.declared.verdict.Verdict.{Verdict}
use Rattle.sun_verdict.specs.declared.verdict.Verdict.TheVariants.{Above, Below, Open}

abbrev pub point : ℤ → Range
point z = record { lo = z; hi = z }

-- one place, from microdegrees to place units of 1/128 microdegree
abbrev pub place_of : ℤ → ℤ → Box
place_of lon lat = record { x = point (lon *ℤ pos 128); y = point (lat *ℤ pos 128) }

-- one angle, from microdegrees to angle units of 1/144,000 microdegree
abbrev pub angle_of : ℤ → Range
angle_of angle = point (angle *ℤ pos 144_000)

-- the enclosure of the value that is asked for by this sun, over minutes and places: above zero where the sun is above the angle
-- below the horizon, past the meridian, or so low that the shadow is longer than at Asr
unfoldable pub value_at : (Range → SunTerms) → Question → Range → Box → Ends
value_at sun (Altitude angle) minutes places = grid_altitude_value (sun minutes) minutes places (angle_of angle)
value_at sun Meridian minutes places = grid_meridian_value (sun minutes) minutes places
value_at sun (Shadow factor) minutes places = grid_asr_value (sun minutes) minutes places factor

unfoldable pub value_of : Request → Ends
value_of r = value_at (grid_sun_of r.sun) r.question (point r.minute) (place_of r.lon r.lat)

-- an enclosure that lies neither above zero nor below leaves the verdict open
abbrev pub side_of : Ends → Verdict
side_of e = if int_lt (pos 0) e.lo then Above else (if int_lt e.hi (pos 0) then Below else Open)

unfoldable pub verdict_of : Request → Verdict
verdict_of r = side_of (value_of r)

-- a value above zero is said as `above` of an angle, and as `after` of the meridian and of Asr
abbrev pub word_of : Question → Verdict → List ℕ
word_of (Altitude angle) Above = codes "above"
word_of (Altitude angle) Below = codes "below"
word_of question Open = codes "open"
word_of question Above = codes "after"
word_of question Below = codes "before"
