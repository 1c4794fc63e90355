use Rattle.timetable.proofs.ExampleLemmas.{agenda_alone, long_is_no_calendar}
use Rattle.timetable.proofs.examples.long_calendar.Goals as goal

pub returns : goal.returns
returns c = long_is_no_calendar _ _ _ _ _ c.run_in_memory.ensures (agenda_alone _ c.in_ok-from_str.ensures.ok) (rw (c.new-source.ensures) c.requires)
