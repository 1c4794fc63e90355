-- What is true of the table that a covering shows, whoever made it.
use Rattle.std.specs.Prelude.{◌≡◌, List, ℕ, All, None, length, map, take}
use Rattle.order_rule.specs.Asked.{Asked}
use Rattle.order_table.specs.Days.{days_of}
use Rattle.order_table.specs.RightTable.{IsRightDay, IsRightFor}
use Rattle.order_table.specs.Table.{rows_in}
use Rattle.order_table.specs.Trees.{root_over}
use Rattle.order_rule.specs.Rule.{IsOrder}
use Rattle.shown_table.specs.Shown.{ShownTable, shown_table}

-- the days are the order's first ones, and all where no line is bad; and each of their entries is right, or open as said
pub record IsRightShown (o : Asked) (s : ShownTable) : Type 0 where
  pub first : map rows_in s.days ≡ take (length s.days) (days_of o)
  pub right : All (IsRightDay o.sun o.district (root_over o.district)) s.days
  pub whole : s.bad ≡ None → IsRightFor o s.days

-- every text shows such a table
abbrev pub ShownTablesAreRight : Type 0
ShownTablesAreRight = (o : Asked) → IsOrder o → (lines : List ℕ) → IsRightShown o (shown_table o lines)
