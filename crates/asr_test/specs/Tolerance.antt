-- How close an undecided Asr value is to zero: over one minute and a box of 16 place units each way the value on the grid is
-- at most 2^-14 wide, so where its ends lie on both sides of zero, the value is within 2^-14 of zero.
use Rattle.std.specs.Prelude.{ℕ, ◌*◌, ◌^◌, ℤ}
use Rattle.fixed_interval.specs.Bound.{IsBounded}
use Rattle.fixed_interval.specs.Grid.{Range, UNIT}
use Rattle.solar_terms.specs.Sun.{SunTerms}
use Rattle.solar_terms.specs.SunLaws.{SunSource, IsSunSource, GridHoldsSun}
use Rattle.solar_terms.specs.SunWidths.{IsNarrowSun}
use Rattle.altitude_test.specs.Values.{Box}
use Rattle.altitude_test.specs.Conditions.{Spot}
use Rattle.altitude_test.specs.Verdicts.{IsAmong}
use Rattle.altitude_test.specs.Tolerance.{IsSmallest, ShowsNear}
use Rattle.asr_test.specs.Asr.{grid_asr_value}
use Rattle.asr_test.specs.AsrLaws.{asr_at}

abbrev pub AsrIsClose : Type 0
AsrIsClose =
    (t : SunTerms) (r : Range) (c : Box) (factor : ℕ) → IsNarrowSun t → IsSmallest r c →
    IsBounded (grid_asr_value t r c factor) (record { reach = 4_096 * UNIT; width = 2 ^ 42 })

abbrev pub OpenAsrIsNear : Type 0
OpenAsrIsNear =
    (sun : SunSource) (grid : Range → SunTerms) → IsSunSource sun → GridHoldsSun sun grid →
    (k : ℤ) (p : Spot) (r : Range) (c : Box) → IsAmong k p r c → IsNarrowSun (grid r) → IsSmallest r c → (factor : ℕ) →
    ShowsNear 14 (grid_asr_value (grid r) r c factor) (asr_at sun k p factor)
