-- Days and what is shown of them, as the code keeps them.
use Rattle.std.specs.Prelude.{ℕ, ◌+◌, List, ◌++◌, Option, None, Some, map, sum_by}
use Rattle.cell_split.specs.declared.cell.Cell.{Cell}
use Rattle.order_table.specs.Made.{day_of}
use Rattle.order_table.specs.Table.{days_text}
use Rattle.order_table.specs.declared.day.Day.{Day}
use Rattle.order_table.specs.declared.day.Night.{Night}
use Rattle.order_table.specs.declared.ready.Ready.{Ready}
use Rattle.ring_survey.specs.Polygons.{Polygon}
use Rattle.method_table.specs.declared.sun.SunChoice.{SunChoice}
use Rattle.shown_table.specs.Shown.{ShownDays, days_shown, lines_of}

-- what the lines from the second one on show of days
abbrev pub days_in : SunChoice → List Polygon → Cell → List Day → List ℕ → ShownDays
days_in sun polygons root days text = days_shown sun polygons root (map day_of days) 2 text

-- the number of the line behind those of days
abbrev pub number_behind : List Day → ℕ
number_behind days = sum_by lines_of (map day_of days) + 2

-- how many lines are those of a night
abbrev pub night_lines_by : Option Night → ℕ
night_lines_by None = 0
night_lines_by (Some night) = 2

-- the head and the days that are shown
abbrev pub front_in : Ready → List ℕ → List ℕ
front_in r text = r.head.items ++ days_text (days_in r.sky.sun r.sky.district r.sky.root r.days.items text).days
