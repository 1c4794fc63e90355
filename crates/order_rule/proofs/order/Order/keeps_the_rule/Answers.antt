use Rattle.order_rule.proofs.RuleLemmas.{is_order}
use Rattle.order_rule.proofs.order.Order.keeps_the_rule.Goals as goal

pub returns : goal.returns
returns c = is_order c.args.self.now c.has_no_fault.ensures
