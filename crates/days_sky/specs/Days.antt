-- The judge of several days over one district.
use Rattle.std.specs.Prelude.{◌≡◌, ℕ, ◌+◌, ◌*◌, ◌<◌, List, length, map, flat_map, slice_index_or, All}
use Rattle.method_table.specs.declared.sun.SunChoice.{SunChoice}
use Rattle.method_table.specs.Row.{Row, row_of}
use Rattle.ring_survey.specs.Polygons.{Polygon}
use Rattle.cell_split.specs.declared.cell.Cell.{Cell}
use Rattle.cell_split.specs.Cells.{IsRoot}
use Rattle.cell_split.specs.Judges.{Content}
use Rattle.cell_split.specs.Renumbered.{HasTreeOf}
use Rattle.cell_judge.specs.Skies.{sky_content}
use Rattle.days_sky.specs.declared.day.Day.{Day}

abbrev pub rows_of_day : Day → List Row
rows_of_day day = map row_of day.problems

-- the rows of all days, day by day
abbrev pub all_rows : List (List Row) → List Row
all_rows days = flat_map (λ rows. rows) days

-- the judge of the rows of several days over a district, under the sun of this choice
abbrev pub days_content : SunChoice → List Polygon → List (List Row) → Cell → Content
days_content sun polygons days root = sky_content sun polygons (all_rows days) root

-- of days of seven rows each, problem 7 i + k has the tree of problem k of the sky of day i
abbrev pub DaysHaveTheirOwnTrees : Type 0
DaysHaveTheirOwnTrees =
    (sun : SunChoice) (polygons : List Polygon) (root : Cell) → IsRoot root → (days : List (List Row)) → All (λ rows. length rows ≡ 7) days →
    (i : ℕ) (rows : List Row) → i < length days → slice_index_or days i rows ≡ rows → (k : ℕ) → k < 7 →
    HasTreeOf (days_content sun polygons days root) (7 * i + k) (sky_content sun polygons rows root) k
