-- What is ready before the first line of a table is written.
use Rattle.std.specs.Prelude.{◌≡◌, List, map}
use Rattle.order_rule.specs.Asked.{Asked}
use Rattle.order_table.specs.Days.{days_of}
use Rattle.order_table.specs.Made.{day_of, searched}
use Rattle.order_table.specs.Table.{DayTable, head_of}
use Rattle.order_table.specs.Trees.{root_over}
use Rattle.order_table.specs.declared.ready.Ready.{Ready}

pub record IsReady (o : Asked) (r : Ready) : Type 0 where
  pub head : r.head.items ≡ head_of o
  pub days : map day_of r.days.items ≡ days_of o
  pub sun : r.sky.sun ≡ o.sun
  pub district : r.sky.district ≡ o.district
  pub root : r.sky.root ≡ root_over o.district

-- the days with the entries that a search finds
abbrev pub found_in : Ready → List DayTable
found_in r = map (searched r.sky.sun r.sky.district r.sky.root) r.days.items
