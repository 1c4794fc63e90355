use Rattle.order_table.proofs.RightLemmas.{tables_are_right}
use Rattle.order_table.proofs.laws.tables_are_right.Goals as goal

pub returns : goal.returns
returns c = tables_are_right
