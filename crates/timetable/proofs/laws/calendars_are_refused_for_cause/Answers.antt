use Rattle.timetable.proofs.LawLemmas.{calendars_are_refused_for_cause}
use Rattle.timetable.proofs.laws.calendars_are_refused_for_cause.Goals as goal

pub returns : goal.returns
returns c = calendars_are_refused_for_cause
