use Rattle.std.proofs.Common.{◌∙◌}
use Rattle.order_rule.specs.Asked.{asked_of}
use Rattle.demo_summary.proofs.DemoLemmas.{read_is}
use Rattle.demo_summary.proofs.order.demo_order.Goals as goal

pub returns-in-Ok : goal.returns-in-Ok
returns-in-Ok c = read_is c.args.number c.deref.result.now (asked_of c.in-Ok.order) (c.deref.ensures.value ∙ c.in_ok-line.ensures) c.in-Ok.ensures.ok
