-- What the quarters of a cell share, and the value that it makes.
use Rattle.std.proofs.Common.{◌≡◌, [], ◌∷◌, refl, sym, ◌∙◌, subst}
use Rattle.std.specs.List.{AllByRecursion as Every}
use Rattle.fixed_interval.specs.Grid.{Ends, Range}
use Rattle.fixed_interval.specs.Interval.{ends}
use Rattle.trig_series.specs.Sine.{grid_sine, grid_cosine}
use Rattle.solar_terms.specs.Sun.{SunTerms}
use Rattle.altitude_test.specs.declared.directions.Direction.{Direction}
use Rattle.altitude_test.specs.Values.{Box, grid_altitude_sine, grid_altitude_value, grid_latitude, grid_meridian_value, grid_sidereal_time, meridian_by}
use Rattle.asr_test.specs.Asr.{grid_asr_shadow, grid_asr_value, grid_noon_cosine, grid_noon_sine}
use Rattle.method_table.specs.declared.problem.Kind.{Kind}
use Rattle.method_table.specs.declared.problem.Kind.TheVariants.{Above, Below, Past, Shadow}
use Rattle.cell_split.specs.declared.cell.Cell.{Cell}
use Rattle.cell_split.specs.Cells.{IsCellOf}
use Rattle.cell_split.specs.Laws.{IsChildOf}
use Rattle.cell_split.specs.Split.{children_of}
use Rattle.cell_split.proofs.Every.{Every-weaker}
use Rattle.cell_split.proofs.LeafLemmas.{children_are}
use Rattle.cell_judge.specs.Shared.{value_by}
use Rattle.cell_judge.specs.Skies.{grid_value}

-- quarters are cells of the root
pub are_cells : (root cell a b c d : Cell) → IsCellOf root cell → a ∷ b ∷ c ∷ d ∷ [] ≡ children_of cell → Every (IsCellOf root) (a ∷ b ∷ c ∷ d ∷ [])
are_cells root cell a b c d is same =
    subst (Every (IsCellOf root)) (sym same) (Every-weaker (IsChildOf root cell) (IsCellOf root) (children_of cell) (λ e h. h.is_cell) (children_are root cell is))

-- the value of each kind by the latitudes and the sidereal times of a box
by_kind : (grid : Range → SunTerms) (kind : Kind) (m : Range) (b : Box)
    → value_by (grid m) kind (grid_sine (grid_latitude b)) (grid_cosine (grid_latitude b)) (grid_sine (grid_sidereal_time (grid m) m b)) (grid_cosine (grid_sidereal_time (grid m) m b)) ≡ grid_value grid kind m b
unfolding value_by grid_value grid_altitude_value grid_altitude_sine grid_meridian_value grid_asr_value grid_asr_shadow grid_noon_cosine grid_noon_sine
by_kind grid (Above low high) m b = refl
by_kind grid (Below low high) m b = refl
by_kind grid Past m b = refl
by_kind grid (Shadow factor) m b = refl

pub value_is : (grid : Range → SunTerms) (kind : Kind) (t : SunTerms) (m : Range) (b : Box) (phi theta : Direction) (e : Ends) → t ≡ grid m
    → ends phi.sine ≡ grid_sine (grid_latitude b) → ends phi.cosine ≡ grid_cosine (grid_latitude b)
    → ends theta.sine ≡ grid_sine (grid_sidereal_time t m b) → ends theta.cosine ≡ grid_cosine (grid_sidereal_time t m b)
    → e ≡ value_by t kind (ends phi.sine) (ends phi.cosine) (ends theta.sine) (ends theta.cosine) → e ≡ grid_value grid kind m b
value_is grid kind t m b phi theta e same sin_φ cos_φ sin_θ cos_θ is =
    is ∙ rw (sin_φ, cos_φ, sin_θ, cos_θ, same) (by_kind grid kind m b)

-- the meridian value asks for no latitude
pub meridian_is : (grid : Range → SunTerms) (kind : Kind) (t : SunTerms) (m : Range) (b : Box) (theta : Direction) (e : Ends) → t ≡ grid m → kind ≡ Past
    → ends theta.sine ≡ grid_sine (grid_sidereal_time t m b) → ends theta.cosine ≡ grid_cosine (grid_sidereal_time t m b)
    → e ≡ meridian_by t (ends theta.sine) (ends theta.cosine) → e ≡ grid_value grid kind m b
unfolding grid_value grid_meridian_value
meridian_is grid kind t m b theta e same past sin_θ cos_θ is = is ∙ rw (sin_θ, cos_θ, same, past) refl
