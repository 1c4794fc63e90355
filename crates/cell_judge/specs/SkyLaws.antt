-- What is true of the judge of the sky, as sentences.
use Rattle.std.specs.Prelude.{◌≡◌, ℕ, ◌<◌, pos, ◌+ℤ◌, List, length, map, None, Some}
use Rattle.fixed_interval.specs.Grid.{Range}
use Rattle.solar_terms.specs.Sun.{SunTerms}
use Rattle.solar_terms.specs.SunLaws.{SunSource}
use Rattle.method_table.specs.declared.sun.SunChoice.{SunChoice}
use Rattle.meeus_terms.specs.Suns.{IsSun, exact_sun_of}
use Rattle.method_table.specs.declared.problem.Problem.{Problem}
use Rattle.method_table.specs.Kind.{IsKind}
use Rattle.method_table.specs.Row.{Row, row_of}
use Rattle.plane_edges.specs.Plane.{Place}
use Rattle.ring_survey.specs.Polygons.{Polygon}
use Rattle.region.specs.Named.{named}
use Rattle.plane_edges.specs.Views.{place_of}
use Rattle.ring_survey.specs.Faults.{first_fault}
use Rattle.cell_split.specs.declared.cell.Cell.{Cell}
use Rattle.cell_split.specs.Cells.{IsCell, IsRoot}
use Rattle.cell_split.specs.Judges.{IsLawful}
use Rattle.cell_split.specs.Laws.{box_of}
use Rattle.cell_judge.specs.EntryLaws.{LiesInRoot, TellsTruth}
use Rattle.cell_judge.specs.Limits.{AreInLimits, IsInLimits, IsOver}
use Rattle.cell_judge.specs.Points.{point_of}
use Rattle.cell_judge.specs.Scenes.{Scene, IsTrueVerdict}
use Rattle.cell_judge.specs.Skies.{row_at, sky_content, verdict_on}

-- a row like those of the table: its condition in range, and a frame of 720 minutes within the limits of the sun
pub record IsRow (row : Row) : Type 0 where
  pub kind : IsKind row.kind
  pub framed : row.last ≡ row.first +ℤ pos 720
  pub limits : IsInLimits row

-- under every sun the verdict on each cell is true
abbrev pub VerdictsOfEverySunAreTrue : Type 0
VerdictsOfEverySunAreTrue =
    (sun : SunSource) (grid : Range → SunTerms) → IsSun sun grid → (row : Row) → IsRow row →
    (polygons : List Polygon) → first_fault polygons ≡ None → (cell : Cell) → IsCell cell →
    IsTrueVerdict (record { sun = sun; row = row; polygons = polygons }) cell (verdict_on grid row polygons cell)

-- a problem over a district under the sun of this choice
abbrev pub scene_at : SunChoice → List Polygon → List Row → ℕ → Scene
scene_at sun polygons rows k = record { sun = exact_sun_of sun; row = row_at rows k; polygons = polygons }

-- the verdicts of a sky are true
abbrev pub SkiesTellTheTruth : Type 0
SkiesTellTheTruth =
    (sun : SunChoice) (polygons : List Polygon) (rows : List Row) (root : Cell) → first_fault polygons ≡ None → IsRoot root →
    (k : ℕ) → k < length rows → IsRow (row_at rows k) →
    TellsTruth (sky_content sun polygons rows root) k (scene_at sun polygons rows k)

-- a smallest cell is never split by a sky, and only a smallest cell is open
abbrev pub SkiesAreLawful : Type 0
SkiesAreLawful = (sun : SunChoice) (polygons : List Polygon) (rows : List Row) (root : Cell) → IsRoot root → IsLawful (sky_content sun polygons rows root)

-- the problems of a sky are such rows
abbrev pub ProblemsAreRows : Type 0
ProblemsAreRows =
    (problems : List Problem) → AreInLimits problems →
    (k : ℕ) → k < length (map row_of problems) → IsRow (row_at (map row_of problems) k)

-- every place of a district lies in the box of a root that is over its positions
abbrev pub DistrictsLieInRootsOverThem : Type 0
DistrictsLieInRootsOverThem = (s : Scene) (root : Cell) → first_fault s.polygons ≡ None → IsOver root s.polygons → LiesInRoot s root

-- the place that is named for a root's cell is within the limits of points, so that its point is at the place itself
abbrev pub NamedPlacesArePoints : Type 0
NamedPlacesArePoints =
    (polygons : List Polygon) → first_fault polygons ≡ None → (cell : Cell) → IsCell cell → (p : Place) →
    named (box_of cell) polygons ≡ Some p → place_of (point_of p) ≡ p
