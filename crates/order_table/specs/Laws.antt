-- What is true of the tables of orders.
use Rattle.order_rule.specs.Asked.{Asked}
use Rattle.order_rule.specs.Rule.{IsOrder}
use Rattle.order_table.specs.RightTable.{IsRightTable}

-- the table of every order is right
abbrev pub TablesAreRight : Type 0
TablesAreRight = (o : Asked) → IsOrder o → IsRightTable o
