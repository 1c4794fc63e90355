use Rattle.timetable.proofs.LawLemmas.{orders_are_refused_for_cause}
use Rattle.timetable.proofs.laws.orders_are_refused_for_cause.Goals as goal

pub returns : goal.returns
returns c = orders_are_refused_for_cause
