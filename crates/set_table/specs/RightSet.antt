-- When the table of a set is right, whoever found its entries: each says of every rational place of its district, at every minute
-- to its frame's end, what is so, and that of all districts together says so of every place of each of them.
use Rattle.std.specs.Prelude.{◌≡◌, List, All, map, zip}
use Rattle.cell_split.specs.declared.cell.Cell.{Cell}
use Rattle.order_table.specs.Days.{DayRows, days_of}
use Rattle.order_table.specs.RightTable.{AreRightEntries}
use Rattle.order_table.specs.Table.{DayTable, rows_in}
use Rattle.order_table.specs.Trees.{root_over}
use Rattle.ring_survey.specs.Polygons.{Polygon}
use Rattle.set_reader.specs.Asked.{SetAsked}
use Rattle.method_table.specs.declared.sun.SunChoice.{SunChoice}
use Rattle.set_table.specs.Table.{SetDay}
use Rattle.set_table.specs.Trees.{set_of_trees}

-- a day in one district: the rows that are asked for, each with an entry that is right there
pub record IsRightPart (sun : SunChoice) (root : Cell) (rows : DayRows) (polygons : List Polygon) (part : DayTable) : Type 0 where
  pub whole : rows_in part ≡ rows
  pub entries : AreRightEntries sun polygons root part.found

-- a day in each district, and in the district of all polygons
pub record IsRightSetDay (s : SetAsked) (rows : DayRows) (day : SetDay) : Type 0 where
  pub one_each : map (λ x. x.0) (zip s.parts day.parts) ≡ s.parts
  pub parts : All (λ x. IsRightPart s.whole.sun (root_over s.whole.district) rows x.0 x.1) (zip s.parts day.parts)
  pub whole : IsRightPart s.whole.sun (root_over s.whole.district) rows s.whole.district day.whole

-- the table has the days that the order asks for, and each is right
pub record IsRightFor (s : SetAsked) (days : List SetDay) : Type 0 where
  pub whole : map (λ day. rows_in day.whole) days ≡ days_of s.whole
  pub right : All (λ day. IsRightSetDay s (rows_in day.whole) day) days

abbrev pub IsRightSet : SetAsked → Type 0
IsRightSet s = IsRightFor s (set_of_trees s)
