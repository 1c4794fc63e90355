-- What is true of the value of every kind of condition, as sentences.
use Rattle.std.specs.Prelude.{ℕ, ◌≤◌}
use Rattle.fixed_interval.specs.Enclosure.{Enclosure, LiesIn}
use Rattle.fixed_interval.specs.Grid.{Range, DEPTH, enclosure_of, enclosure_of_range}
use Rattle.solar_terms.specs.Sun.{ExactSun, SunTerms}
use Rattle.solar_terms.specs.SunLaws.{exact_terms}
use Rattle.altitude_test.specs.Values.{Box, ExactBox, exact_altitude_value, exact_meridian_value}
use Rattle.altitude_test.specs.ValueLaws.{IsPartOf, exact_box}
use Rattle.asr_test.specs.Asr.{exact_asr_value}
use Rattle.method_table.specs.declared.problem.Kind.{Kind}
use Rattle.method_table.specs.declared.problem.Kind.TheVariants.{Above, Below, Past, Shadow}
use Rattle.method_table.specs.Kind.{IsKind}
use Rattle.cell_judge.specs.Conditions.{angles}
use Rattle.cell_judge.specs.Skies.{grid_value}

-- the exact value of a kind over minutes and places, at depth n
unfoldable pub exact_value : ℕ → ExactSun → Kind → Enclosure → ExactBox → Enclosure
exact_value n s (Above low high) m places = exact_altitude_value n s m places (enclosure_of_range (angles low high))
exact_value n s (Below low high) m places = exact_altitude_value n s m places (enclosure_of_range (angles low high))
exact_value n s Past m places = exact_meridian_value n s m places
exact_value n s (Shadow factor) m places = exact_asr_value n s m places factor

-- over less of the sky or at a greater depth the value lies in what it was before
abbrev pub ValuesOfEveryKindNarrow : Type 0
ValuesOfEveryKindNarrow =
    (kind : Kind) → IsKind kind → (n n' : ℕ) (s s' : ExactSun) (m m' : Enclosure) (b b' : ExactBox) → n' ≤ n →
    IsPartOf s s' m m' b b' → LiesIn (exact_value n s kind m b) (exact_value n' s' kind m' b')

-- the value on the grid holds the exact value of each part of its sun, minutes and places
abbrev pub GridHoldsEveryKind : Type 0
GridHoldsEveryKind =
    (kind : Kind) → IsKind kind → (grid : Range → SunTerms) (s : ExactSun) (m : Enclosure) (r : Range) (b : ExactBox) (c : Box) →
    IsPartOf s (exact_terms (grid r)) m (enclosure_of_range r) b (exact_box c) →
    LiesIn (exact_value DEPTH s kind m b) (enclosure_of (grid_value grid kind r c))
