use Rattle.std.proofs.Common.{rules, append_assoc}
use Rattle.year_table.proofs.head.order_string.Goals as goal

pub returns : goal.returns
returns c = simp append_assoc (search rules)
