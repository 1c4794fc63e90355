use Rattle.border_input.proofs.ReadLemmas.{order_refused}
use Rattle.border_input.proofs.parts.order_value.Goals as goal

pub returns-in-Err : goal.returns-in-Err
returns-in-Err c = order_refused c.of_order.result c.in-Err.fault _ c.of_order.ensures c.in-Err.ensures
