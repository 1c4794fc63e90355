-- The table of a set: the entry of each row in each district is that of its tree, over all leaves and over the root of the whole.
use Rattle.std.specs.Prelude.{ℕ, List, map}
use Rattle.cell_split.specs.declared.cell.Cell.{Cell}
use Rattle.cell_split.specs.declared.verdict.Entry.{Entry}
use Rattle.method_table.specs.Row.{Row}
use Rattle.order_table.specs.Days.{DayRows, days_of}
use Rattle.order_table.specs.Trees.{entries_of, root_over}
use Rattle.ring_survey.specs.Polygons.{Polygon}
use Rattle.set_reader.specs.Asked.{SetAsked}
use Rattle.method_table.specs.declared.sun.SunChoice.{SunChoice}
use Rattle.set_table.specs.Table.{SetDay, set_day, set_days_undecided, set_text}

-- the entries of a day's rows in each district
abbrev pub entries_in : SunChoice → List (List Polygon) → Cell → List Row → List (List Entry)
entries_in sun parts root rows = map (λ polygons. entries_of sun polygons root rows) parts

abbrev pub tree_set_day : SunChoice → List (List Polygon) → Cell → DayRows → SetDay
tree_set_day sun parts root day = set_day day (entries_in sun parts root day.rows)

unfoldable pub set_of_trees : SetAsked → List SetDay
set_of_trees s = map (tree_set_day s.whole.sun s.parts (root_over s.whole.district)) (days_of s.whole)

-- how many entries of the districts are undecided
unfoldable pub undecided : SetAsked → ℕ
undecided s = set_days_undecided (set_of_trees s)

-- the table's text
unfoldable pub table_of : SetAsked → List ℕ
table_of s = set_text s (set_of_trees s)
