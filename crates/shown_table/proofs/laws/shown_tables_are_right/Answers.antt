use Rattle.shown_table.proofs.OrderLemmas.{shown_tables_are_right}
use Rattle.shown_table.proofs.laws.shown_tables_are_right.Goals as goal

pub returns : goal.returns
returns c = shown_tables_are_right
