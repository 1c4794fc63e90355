-- How the parts of a judgement make the verdict.
use Rattle.std.proofs.Common.{◌≡◌, ℕ, ◌<◌, List, length, map, get_or, Some, None, sym, ap, ◌∙◌}
use Rattle.std.proofs.lemmas.List.{get_or-map}
use Rattle.fixed_interval.specs.Grid.{Ends, Range}
use Rattle.solar_terms.specs.Sun.{SunTerms}
use Rattle.altitude_test.specs.Values.{Box}
use Rattle.method_table.specs.declared.problem.Problem.{Problem}
use Rattle.method_table.specs.Row.{Row, row_of}
use Rattle.plane_edges.specs.declared.points.Point.{Point}
use Rattle.ring_survey.specs.Polygons.{Polygon}
use Rattle.region.specs.Named.{named}
use Rattle.plane_edges.specs.Views.{place_of}
use Rattle.cell_split.specs.declared.cell.Cell.{Cell}
use Rattle.cell_split.specs.declared.verdict.Verdict.{Verdict}
use Rattle.cell_split.specs.declared.verdict.Verdict.TheVariants.{Outside}
use Rattle.cell_split.specs.Laws.{box_of}
use Rattle.cell_judge.specs.Skies.{grid_value, minutes_at, places_at, row_at, verdict_at, verdict_by, verdict_on, verdict_with}
use Rattle.cell_judge.proofs.PointLemmas.{point_of_place}

-- the verdict by the parts of the enclosure
pub made_verdict : (grid : Range → SunTerms) (row : Row) (cell : Cell) (p : Point) (e : Ends) (m : Range) (places : Box) (v : Verdict)
    → v ≡ verdict_at row.kind e cell p → e ≡ grid_value grid row.kind m places → m ≡ minutes_at row cell → places ≡ places_at cell
    → v ≡ verdict_with grid row cell p
unfolding verdict_with
made_verdict grid row cell p e m places v is value minutes box =
    is
    ∙ ap (λ (x : Ends). verdict_at row.kind x cell p) value
    ∙ ap (λ (x : Range). verdict_at row.kind (grid_value grid row.kind x places) cell p) minutes
    ∙ ap (λ (x : Box). verdict_at row.kind (grid_value grid row.kind (minutes_at row cell) x) cell p) box

-- no place of the box is in the district
pub judged_outside : (grid : Range → SunTerms) (row : Row) (polygons : List Polygon) (cell : Cell)
    → None ≡ named (box_of cell) polygons → Outside ≡ verdict_on grid row polygons cell
unfolding verdict_on
judged_outside grid row polygons cell none = ap (verdict_by grid row cell) none

-- the verdict with the place that is named
pub judged : (grid : Range → SunTerms) (row : Row) (polygons : List Polygon) (cell : Cell) (p : Point) (v : Verdict)
    → Some (place_of p) ≡ named (box_of cell) polygons → v ≡ verdict_with grid row cell p → v ≡ verdict_on grid row polygons cell
unfolding verdict_on
judged grid row polygons cell p v is made =
    made ∙ ap (verdict_with grid row cell) (point_of_place p) ∙ ap (verdict_by grid row cell) is

-- the row of the problem that is read
pub read_row : (problems : List Problem) (k : ℕ) (d : Problem) → k < length problems → row_of (get_or problems k d) ≡ row_at (map row_of problems) k
read_row problems k d inside = sym (get_or-map row_of problems k d _ inside)
