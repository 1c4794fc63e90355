-- What the condition of a prayer says at one place and one minute, after the manual of PrayTimes.org: the exact value of its kind
-- lies on one side of zero there.
use Rattle.std.specs.Prelude.{ℕ, ℤ, unsigned_abs, Bool, true, false, MatchBool}
use Rattle.fixed_interval.specs.Fraction.{over}
use Rattle.fixed_interval.specs.Enclosure.{Enclosure}
use Rattle.fixed_interval.specs.Grid.{Range, enclosure_of_range}
use Rattle.solar_terms.specs.SunLaws.{SunSource}
use Rattle.altitude_test.specs.Conditions.{Spot, IsAbove, IsBelow, IsWithin, altitude_at, meridian_at}
use Rattle.asr_test.specs.AsrLaws.{asr_at}
use Rattle.method_table.specs.declared.problem.Kind.{Kind}
use Rattle.method_table.specs.declared.problem.Kind.TheVariants.{Above, Below, Past, Shadow}
use Rattle.plane_edges.specs.Plane.{Place}

-- the place as two fractions
unfoldable pub spot_of : Place → Spot
spot_of p = record { x = over p.a (unsigned_abs p.d); y = over p.b (unsigned_abs p.d) }

abbrev pub angles : ℤ → ℤ → Range
angles low high = record { lo = low; hi = high }

-- the value of a kind at one place and minute, enclosed at every depth
unfoldable pub value_at : SunSource → Kind → ℤ → Spot → ℕ → Enclosure
value_at sun (Above low high) k p = altitude_at sun k p (enclosure_of_range (angles low high))
value_at sun (Below low high) k p = altitude_at sun k p (enclosure_of_range (angles low high))
value_at sun Past k p = meridian_at sun k p
value_at sun (Shadow factor) k p = asr_at sun k p factor

-- the condition holds where the value is above zero, but for the sun below an angle, where it is below zero
abbrev pub holds_above : Kind → Bool
holds_above (Below low high) = false
holds_above kind = true

-- the tolerance of a value: 2^-24 for the altitude and the meridian, 2^-14 for Asr
abbrev pub tolerance_bits : Kind → ℕ
tolerance_bits (Shadow factor) = 14
tolerance_bits kind = 24

-- the condition holds at this minute and place; it fails there; its value is within the tolerance of zero there
unfoldable pub Holds : SunSource → Kind → ℤ → Place → Type 0
Holds sun kind k p = MatchBool (holds_above kind) (IsAbove (value_at sun kind k (spot_of p))) (IsBelow (value_at sun kind k (spot_of p)))

unfoldable pub Fails : SunSource → Kind → ℤ → Place → Type 0
Fails sun kind k p = MatchBool (holds_above kind) (IsBelow (value_at sun kind k (spot_of p))) (IsAbove (value_at sun kind k (spot_of p)))

unfoldable pub IsNear : SunSource → Kind → ℤ → Place → Type 0
IsNear sun kind k p = IsWithin (tolerance_bits kind) (value_at sun kind k (spot_of p))
