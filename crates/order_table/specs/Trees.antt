-- The table of an order: the entry of each row is that of its tree, over all leaves.
use Rattle.std.specs.Prelude.{ℕ, List, [], ◌∷◌, Option, None, Some, map}
use Rattle.cell_split.specs.declared.cell.Cell.{Cell}
use Rattle.cell_split.specs.declared.verdict.Entry.{Entry}
use Rattle.cell_split.specs.Cells.{root_at}
use Rattle.cell_split.specs.Entries.{entry_of}
use Rattle.cell_split.specs.Judges.{Content}
use Rattle.cell_split.specs.Tree.{leaves, root_task}
use Rattle.cell_judge.specs.Skies.{sky_content}
use Rattle.method_table.specs.Row.{Row}
use Rattle.order_rule.specs.Asked.{Asked}
use Rattle.ring_survey.specs.Extent.{latitudes, least, longitudes}
use Rattle.ring_survey.specs.Polygons.{Polygon}
use Rattle.method_table.specs.declared.sun.SunChoice.{SunChoice}
use Rattle.order_table.specs.Days.{DayRows, NightRows, days_of}
use Rattle.order_table.specs.Table.{DayTable, day_found, days_undecided, table_text}

-- the entry of a problem, over all leaves of its tree
abbrev pub entry_at : Content → ℕ → Entry
entry_at c k = entry_of (leaves c (root_task c k))

-- one for each column
abbrev pub columns : List ℕ
columns = 0 ∷ 1 ∷ 2 ∷ 3 ∷ 4 ∷ 5 ∷ 6 ∷ []

-- the entries of a day's rows over a district, under a sun
unfoldable pub entries_of : SunChoice → List Polygon → Cell → List Row → List Entry
entries_of sun polygons root rows = map (entry_at (sky_content sun polygons rows root)) columns

-- sunrise and sunset
abbrev pub night_columns : List ℕ
night_columns = 0 ∷ 1 ∷ []

-- the entries of a night's rows
unfoldable pub night_entries_of : SunChoice → List Polygon → Cell → List Row → List Entry
night_entries_of sun polygons root rows = map (entry_at (sky_content sun polygons rows root)) night_columns

abbrev pub tree_night : SunChoice → List Polygon → Cell → Option NightRows → Option (List Entry)
tree_night sun polygons root (Some night) = Some (night_entries_of sun polygons root night.rows)
tree_night sun polygons root None = None

-- the rows of a day and of its night with their entries
abbrev pub tree_day : SunChoice → List Polygon → Cell → DayRows → DayTable
tree_day sun polygons root day = day_found day (entries_of sun polygons root day.rows) (tree_night sun polygons root day.night)

-- the root at the least longitude and the least latitude
abbrev pub root_over : List Polygon → Cell
root_over polygons = root_at (least (longitudes polygons)) (least (latitudes polygons))

unfoldable pub table_of_trees : Asked → List DayTable
table_of_trees o = map (tree_day o.sun o.district (root_over o.district)) (days_of o)

-- how many entries of the table are undecided
unfoldable pub undecided : Asked → ℕ
undecided o = days_undecided (table_of_trees o)

-- the table's text
unfoldable pub table_of : Asked → List ℕ
table_of o = table_text o (table_of_trees o)
