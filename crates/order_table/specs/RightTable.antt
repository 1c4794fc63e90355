-- When a table is right, whoever found its entries: each says of every rational place of the district, at every minute to its
-- frame's end, what is so.
use Rattle.std.specs.Prelude.{◌≡◌, List, All, IfSome, map}
use Rattle.cell_split.specs.declared.cell.Cell.{Cell}
use Rattle.cell_split.specs.declared.verdict.Entry.{Entry}
use Rattle.cell_judge.specs.RightEntries.{IsDecided, IsRight}
use Rattle.cell_judge.specs.Scenes.{Scene}
use Rattle.meeus_terms.specs.Suns.{exact_sun_of}
use Rattle.method_table.specs.Row.{Row}
use Rattle.night_portion.specs.SafeNights.{IsSafeNight}
use Rattle.order_rule.specs.Asked.{Asked}
use Rattle.ring_survey.specs.Polygons.{Polygon}
use Rattle.method_table.specs.declared.sun.SunChoice.{SunChoice}
use Rattle.order_table.specs.Days.{days_of}
use Rattle.order_table.specs.Table.{DayTable, NightTable, night_in, rows_in}
use Rattle.order_table.specs.Trees.{root_over, table_of_trees}

-- a row over a district, under a sun
abbrev pub scene_of : SunChoice → List Polygon → Row → Scene
scene_of sun polygons row = record { sun = exact_sun_of sun; row = row; polygons = polygons }

-- the entry is right, or open as said; beside a decided one no other decided one is right
pub record IsRightEntry (s : Scene) (root : Cell) (e : Entry) : Type 0 where
  pub right : IsRight s root e
  pub alone : IsDecided e → (other : Entry) → IsDecided other → IsRight s root other → other ≡ e

-- each of these rows' entries, over a district and with this root of its cells
abbrev pub AreRightEntries : SunChoice → List Polygon → Cell → List (Row × Entry) → Type 0
AreRightEntries sun polygons root found = All (λ x. IsRightEntry (scene_of sun polygons x.0) root x.1) found

-- the entries of sunrise and sunset are right, and the night's two minutes are safe at every place of the district
pub record IsRightNight (sun : SunChoice) (polygons : List Polygon) (root : Cell) (found : List (Row × Entry)) (night : NightTable) : Type 0 where
  pub entries : AreRightEntries sun polygons root night.found
  pub safe : IsSafeNight (exact_sun_of sun) polygons night.rule night.method (night_in found night)

-- the entries of a day are right, and so is its night, where the order has a rule
pub record IsRightDay (sun : SunChoice) (polygons : List Polygon) (root : Cell) (day : DayTable) : Type 0 where
  pub entries : AreRightEntries sun polygons root day.found
  pub night : IfSome day.night (IsRightNight sun polygons root day.found)

-- the table has the days and the rows that the order asks for, and each entry is right
pub record IsRightFor (o : Asked) (days : List DayTable) : Type 0 where
  pub whole : map rows_in days ≡ days_of o
  pub right : All (IsRightDay o.sun o.district (root_over o.district)) days

abbrev pub IsRightTable : Asked → Type 0
IsRightTable o = IsRightFor o (table_of_trees o)
