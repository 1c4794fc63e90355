-- How close an undecided value is to zero: over one minute and a box of 16 place units each way the value on the grid is at
-- most 2^-24 wide, so where its ends lie on both sides of zero, the value is within 2^-24 of zero.
use Rattle.std.specs.Prelude.{◌≡◌, ℕ, ◌*◌, ◌^◌, ℤ, pos, ◌+ℤ◌, ◌≤ℤ◌}
use Rattle.fixed_interval.specs.Bound.{IsBounded}
use Rattle.fixed_interval.specs.Enclosure.{Enclosure, IsOrdered, LiesIn}
use Rattle.fixed_interval.specs.Grid.{Ends, Range, UNIT, enclosure_of_range}
use Rattle.solar_terms.specs.Sun.{SunTerms}
use Rattle.solar_terms.specs.SunLaws.{SunSource, IsSunSource, GridHoldsSun}
use Rattle.solar_terms.specs.SunWidths.{IsNarrowSun}
use Rattle.altitude_test.specs.Values.{Box, grid_altitude_value, grid_meridian_value}
use Rattle.altitude_test.specs.Conditions.{Spot, IsWithin, altitude_at, meridian_at}
use Rattle.altitude_test.specs.Verdicts.{IsAmong}

-- at most n units wide
pub record IsNarrowRange (n : ℕ) (r : Range) : Type 0 where
  pub ordered : r.lo ≤ℤ r.hi
  pub narrow : r.hi ≤ℤ (r.lo +ℤ pos n)

-- one minute, and a box of at most 16 place units each way
pub record IsSmallest (r : Range) (c : Box) : Type 0 where
  pub one_minute : r.hi ≡ r.lo
  pub x : IsNarrowRange 16 c.x
  pub y : IsNarrowRange 16 c.y

-- ends on both sides of zero show that the value is within 2^-bits of zero
pub record ShowsNear (bits : ℕ) (e : Ends) (value : ℕ → Enclosure) : Type 0 where
  pub near : e.lo ≤ℤ pos 0 → pos 0 ≤ℤ e.hi → IsWithin bits value

abbrev pub AltitudeIsClose : Type 0
AltitudeIsClose =
    (t : SunTerms) (r : Range) (c : Box) (angle : Range) → IsNarrowSun t → IsSmallest r c → IsNarrowRange 1 angle →
    IsBounded (grid_altitude_value t r c angle) (record { reach = 10 * UNIT; width = 2 ^ 32 })

abbrev pub MeridianIsClose : Type 0
MeridianIsClose =
    (t : SunTerms) (r : Range) (c : Box) → IsNarrowSun t → IsSmallest r c →
    IsBounded (grid_meridian_value t r c) (record { reach = 10 * UNIT; width = 2 ^ 32 })

abbrev pub OpenAltitudeIsNear : Type 0
OpenAltitudeIsNear =
    (sun : SunSource) (grid : Range → SunTerms) → IsSunSource sun → GridHoldsSun sun grid →
    (k : ℤ) (p : Spot) (r : Range) (c : Box) → IsAmong k p r c → IsNarrowSun (grid r) → IsSmallest r c →
    (a : Enclosure) (angle : Range) → IsOrdered a → LiesIn a (enclosure_of_range angle) → IsNarrowRange 1 angle →
    ShowsNear 24 (grid_altitude_value (grid r) r c angle) (altitude_at sun k p a)

abbrev pub OpenMeridianIsNear : Type 0
OpenMeridianIsNear =
    (sun : SunSource) (grid : Range → SunTerms) → IsSunSource sun → GridHoldsSun sun grid →
    (k : ℤ) (p : Spot) (r : Range) (c : Box) → IsAmong k p r c → IsNarrowSun (grid r) → IsSmallest r c →
    ShowsNear 24 (grid_meridian_value (grid r) r c) (meridian_at sun k p)
