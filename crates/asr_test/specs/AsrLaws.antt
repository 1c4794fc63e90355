-- What is true of the Asr value, as sentences: over less of the sky or at a greater depth it lies in what it was before,
-- it is never both above and below zero, and the value on the grid shows its side. They hold for every sun that is a source.
use Rattle.std.specs.Prelude.{ℕ, ◌≤◌, ℤ}
use Rattle.fixed_interval.specs.Enclosure.{Enclosure, LiesIn}
use Rattle.fixed_interval.specs.Grid.{Range, DEPTH, enclosure_of, enclosure_of_range}
use Rattle.solar_terms.specs.Sun.{ExactSun, SunTerms}
use Rattle.solar_terms.specs.SunLaws.{SunSource, IsSunSource, GridHoldsSun, exact_terms}
use Rattle.altitude_test.specs.Values.{ExactBox, Box}
use Rattle.altitude_test.specs.ValueLaws.{IsPartOf, exact_box}
use Rattle.altitude_test.specs.Conditions.{Spot, box_at, minute_at}
use Rattle.altitude_test.specs.Verdicts.{IsAmong, IsOneSided, ShowsSide}
use Rattle.asr_test.specs.Asr.{exact_asr_value, grid_asr_value}

-- at one place and one minute: where it is above zero the shadow is longer than at Asr or the sun is below the horizon
unfoldable pub asr_at : SunSource → ℤ → Spot → ℕ → ℕ → Enclosure
asr_at sun k p factor n = exact_asr_value n (sun n (minute_at k)) (minute_at k) (box_at p) factor

abbrev pub AsrNarrows : Type 0
AsrNarrows =
    (n n' : ℕ) (s s' : ExactSun) (m m' : Enclosure) (b b' : ExactBox) (factor : ℕ) → n' ≤ n →
    IsPartOf s s' m m' b b' → LiesIn (exact_asr_value n s m b factor) (exact_asr_value n' s' m' b' factor)

-- the value on the grid holds the exact value of a part
abbrev pub GridAsrHolds : Type 0
GridAsrHolds =
    (s : ExactSun) (t : SunTerms) (m : Enclosure) (r : Range) (b : ExactBox) (c : Box) (factor : ℕ) →
    IsPartOf s (exact_terms t) m (enclosure_of_range r) b (exact_box c) →
    LiesIn (exact_asr_value DEPTH s m b factor) (enclosure_of (grid_asr_value t r c factor))

abbrev pub AsrIsOneSided : Type 0
AsrIsOneSided =
    (sun : SunSource) → IsSunSource sun → (k : ℤ) (p : Spot) (factor : ℕ) → IsOneSided (asr_at sun k p factor)

abbrev pub GridShowsAsr : Type 0
GridShowsAsr =
    (sun : SunSource) (grid : Range → SunTerms) → IsSunSource sun → GridHoldsSun sun grid →
    (k : ℤ) (p : Spot) (r : Range) (c : Box) → IsAmong k p r c → (factor : ℕ) →
    ShowsSide (grid_asr_value (grid r) r c factor) (asr_at sun k p factor)
