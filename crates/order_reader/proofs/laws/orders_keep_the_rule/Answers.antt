use Rattle.order_reader.proofs.RuleKept.{orders_keep_the_rule}
use Rattle.order_reader.proofs.laws.orders_keep_the_rule.Goals as goal

pub returns : goal.returns
returns c = orders_keep_the_rule
