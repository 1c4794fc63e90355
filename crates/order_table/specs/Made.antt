-- Days and searches as the code keeps them.
use Rattle.std.specs.Prelude.{◌≡◌, ℕ, pos, ◌+ℤ◌, List, map, option_map, slice_index_or}
use Rattle.cell_split.specs.declared.cell.Cell.{Cell}
use Rattle.method_table.specs.Row.{Row, row_of}
use Rattle.order_rule.specs.Asked.{Asked}
use Rattle.ring_survey.specs.Polygons.{Polygon}
use Rattle.method_table.specs.declared.sun.SunChoice.{SunChoice}
use Rattle.order_table.specs.Days.{DayRows, NightRows, day_with}
use Rattle.order_table.specs.Table.{DayTable}
use Rattle.order_table.specs.Trees.{tree_day}
use Rattle.order_table.specs.declared.day.Day.{Day}
use Rattle.order_table.specs.declared.day.Night.{Night}

abbrev pub night_of : Night → NightRows
night_of night = record { rule = night.rule; method = night.method; rows = map row_of night.problems }

abbrev pub rows_of : Day → List Row
rows_of day = map row_of day.problems

abbrev pub day_of : Day → DayRows
day_of day = record { number = day.number; rows = rows_of day; night = option_map night_of day.night }

-- the day of this number in the order, from 0
abbrev pub IsDayAt : Asked → ℕ → DayRows → Type 0
IsDayAt o i day = day ≡ day_with o (o.from_day +ℤ pos i) (slice_index_or o.offsets i (pos 0))

-- the day with the entries of a sky over a district
unfoldable pub searched : SunChoice → List Polygon → Cell → Day → DayTable
searched sun polygons root day = tree_day sun polygons root (day_of day)
