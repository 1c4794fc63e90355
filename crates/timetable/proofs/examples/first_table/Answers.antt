use Rattle.timetable.proofs.ExampleLemmas.{plain_alone, table_is_answered, table_is_written}
use Rattle.timetable.proofs.examples.first_table.Goals as goal

pub returns-clause-status : goal.returns-clause-status
returns-clause-status c = table_is_answered _ _ _ _ _ c.run_in_memory.ensures c.in_ok-source.ensures (plain_alone _ c.in_ok-from_str.ensures.ok)

pub returns-clause-written : goal.returns-clause-written
returns-clause-written c = table_is_written _ _ _ _ _ c.run_in_memory.ensures c.in_ok-source.ensures (plain_alone _ c.in_ok-from_str.ensures.ok)
