use Rattle.timetable.proofs.LawLemmas.{wrong_calendars_are_refused}
use Rattle.timetable.proofs.laws.wrong_calendars_are_refused.Goals as goal

pub returns : goal.returns
returns c = wrong_calendars_are_refused
