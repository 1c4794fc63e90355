-- What is true of the entry of districts taken together, as sentences.
use Rattle.std.specs.Prelude.{◌≡◌, List, All, flat_map, map}
use Rattle.solar_terms.specs.SunLaws.{SunSource, IsSunSource}
use Rattle.method_table.specs.Kind.{IsKind}
use Rattle.method_table.specs.Row.{Row}
use Rattle.ring_survey.specs.Polygons.{Polygon}
use Rattle.cell_split.specs.declared.cell.Cell.{Cell}
use Rattle.cell_split.specs.declared.verdict.Entry.{Entry}
use Rattle.cell_judge.specs.RightEntries.{IsRight, IsDecided}
use Rattle.cell_judge.specs.Scenes.{Scene}
use Rattle.district_set.specs.Joins.{join_entries}

-- one problem over a district, under a sun
abbrev pub scene_over : SunSource → Row → List Polygon → Scene
scene_over sun row polygons = record { sun = sun; row = row; polygons = polygons }

-- districts with an entry each: all their polygons, and all their entries
abbrev pub polygons_of : List (List Polygon × Entry) → List Polygon
polygons_of parts = flat_map (λ x. x.0) parts

abbrev pub entries_of : List (List Polygon × Entry) → List Entry
entries_of parts = map (λ x. x.1) parts

-- each entry is right for its district, or open as said
abbrev pub AreRightParts : SunSource → Row → Cell → List (List Polygon × Entry) → Type 0
AreRightParts sun row root parts = All (λ x. IsRight (scene_over sun row x.0) root x.1) parts

-- the join of right entries is right for the district of all polygons, or open as said
abbrev pub JoinsAreRight : Type 0
JoinsAreRight =
    (sun : SunSource) (row : Row) (root : Cell) (parts : List (List Polygon × Entry)) → AreRightParts sun row root parts →
    IsRight (scene_over sun row (polygons_of parts)) root (join_entries (entries_of parts))

-- where it and a right entry of that district are both decided, they are equal
abbrev pub JoinsAgree : Type 0
JoinsAgree =
    (sun : SunSource) (row : Row) (root : Cell) (parts : List (List Polygon × Entry)) → IsSunSource sun → IsKind row.kind → AreRightParts sun row root parts →
    (whole : Entry) → IsRight (scene_over sun row (polygons_of parts)) root whole → IsDecided whole → IsDecided (join_entries (entries_of parts)) →
    join_entries (entries_of parts) ≡ whole
