use Rattle.timetable.proofs.ExampleLemmas.{long_is_refused, order_alone}
use Rattle.timetable.proofs.examples.long_order.Goals as goal

pub returns : goal.returns
returns c = long_is_refused _ _ _ _ _ c.run_in_memory.ensures (order_alone _ c.in_ok-from_str.ensures.ok) (rw (c.new-source.ensures) c.requires)
