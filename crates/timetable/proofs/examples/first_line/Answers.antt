use Rattle.timetable.proofs.ExampleLemmas.{line_is_done, line_is_written, order_alone}
use Rattle.timetable.proofs.examples.first_line.Goals as goal

pub returns-clause-status : goal.returns-clause-status
returns-clause-status c = line_is_done _ _ _ _ _ c.run_in_memory.ensures c.in_ok-source.ensures (order_alone _ c.in_ok-from_str.ensures.ok)

pub returns-clause-written : goal.returns-clause-written
returns-clause-written c = line_is_written _ _ _ _ _ c.run_in_memory.ensures c.in_ok-source.ensures (order_alone _ c.in_ok-from_str.ensures.ok)
