-- What is ready before the first line of a set's table is written.
use Rattle.std.specs.Prelude.{◌≡◌, ℕ, List, ◌++◌, map}
use Rattle.order_table.specs.Days.{days_of}
use Rattle.order_table.specs.Made.{day_of}
use Rattle.order_table.specs.Trees.{root_over}
use Rattle.set_reader.specs.Asked.{SetAsked}
use Rattle.set_search.specs.Scopes.{scope_of, scope_over}
use Rattle.set_table.specs.Made.{searched}
use Rattle.set_table.specs.Table.{SetDay, head_of, set_days_text}
use Rattle.set_table.specs.declared.ready.Ready.{Ready}

pub record IsReady (s : SetAsked) (r : Ready) : Type 0 where
  pub head : r.head.items ≡ head_of s
  pub days : map day_of r.days.items ≡ days_of s.whole
  pub skies : map scope_of r.skies.items ≡ map (scope_over s.whole.sun (root_over s.whole.district)) s.parts

-- the days with the entries that a search finds
abbrev pub found_in : Ready → List SetDay
found_in r = map (searched r.skies.items) r.days.items

-- the head and the days
abbrev pub front_of : Ready → List ℕ
front_of r = r.head.items ++ set_days_text (found_in r)
