-- The judge of the sky keeps the law of judges.
use Rattle.std.specs.Prelude.{◌≡◌, Bool, true, false, if◌then◌else◌, Option, Some, None, refl}
use Rattle.std.proofs.lemmas.Bool.{false≢true}
use Rattle.fixed_interval.specs.Grid.{Range}
use Rattle.solar_terms.specs.Sun.{SunTerms}
use Rattle.meeus_terms.specs.Suns.{grid_sun_of}
use Rattle.method_table.specs.Row.{Row}
use Rattle.plane_edges.specs.declared.points.Point.{Point}
use Rattle.plane_edges.specs.Plane.{Place}
use Rattle.region.specs.Named.{named}
use Rattle.cell_split.specs.declared.cell.Cell.{Cell}
use Rattle.cell_split.specs.declared.verdict.Verdict.{Verdict}
use Rattle.cell_split.specs.declared.verdict.Verdict.TheVariants.{Proved, Refuted, Split, Open}
use Rattle.cell_split.specs.Cells.{is_smallest}
use Rattle.cell_split.specs.Laws.{box_of}
use Rattle.cell_split.specs.Verdicts.{is_open, is_split}
use Rattle.cell_judge.specs.Points.{point_of}
use Rattle.cell_judge.specs.Skies.{grid_value, minutes_at, places_at, row_at, shows_failed, shows_held, verdict_at, verdict_by, verdict_on, verdict_with}
use Rattle.cell_judge.specs.SkyLaws.{SkiesAreLawful}

abbrev by_tests : Bool → Bool → Bool → Point → Verdict
by_tests held failed smallest p =
    if held then Proved
    else if failed then Refuted p
    else if smallest then Open p
    else Split

never_split : (held failed smallest : Bool) (p : Point) → smallest ≡ true → is_split (by_tests held failed smallest p) ≡ false
never_split true failed smallest p e = refl
never_split false true smallest p e = refl
never_split false false true p e = refl
never_split false false false p e = absurd (false≢true e)

open_smallest : (held failed smallest : Bool) (p : Point) → is_open (by_tests held failed smallest p) ≡ true → smallest ≡ true
open_smallest true failed smallest p e = absurd (false≢true e)
open_smallest false true smallest p e = absurd (false≢true e)
open_smallest false false true p e = refl
open_smallest false false false p e = absurd (false≢true e)

-- whatever place is named, a smallest cell is not split, and only a smallest cell is open
ends : (grid : Range → SunTerms) (row : Row) (cell : Cell) (p : Option Place) → is_smallest cell ≡ true → is_split (verdict_by grid row cell p) ≡ false
unfolding verdict_with verdict_at
ends grid row cell None e = refl
ends grid row cell (Some p) e =
    let value = grid_value grid row.kind (minutes_at row cell) (places_at cell) in
    never_split (shows_held row.kind value) (shows_failed row.kind value) (is_smallest cell) (point_of p) e

opens : (grid : Range → SunTerms) (row : Row) (cell : Cell) (p : Option Place) → is_open (verdict_by grid row cell p) ≡ true → is_smallest cell ≡ true
unfolding verdict_with verdict_at
opens grid row cell None e = absurd (false≢true e)
opens grid row cell (Some p) e =
    let value = grid_value grid row.kind (minutes_at row cell) (places_at cell) in
    open_smallest (shows_held row.kind value) (shows_failed row.kind value) (is_smallest cell) (point_of p) e

pub skies_are_lawful : SkiesAreLawful
unfolding verdict_on
skies_are_lawful sun polygons rows root is = record {
  root = is;
  ends = λ t task smallest. ends (grid_sun_of sun) (row_at rows t.problem) t.cell (named (box_of t.cell) polygons) smallest;
  open_last = λ t task open'. opens (grid_sun_of sun) (row_at rows t.problem) t.cell (named (box_of t.cell) polygons) open';
}
