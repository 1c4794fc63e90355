use Rattle.timetable.proofs.LawLemmas.{calendars_are_read_again}
use Rattle.timetable.proofs.laws.calendars_are_read_again.Goals as goal

pub returns : goal.returns
returns c = calendars_are_read_again
