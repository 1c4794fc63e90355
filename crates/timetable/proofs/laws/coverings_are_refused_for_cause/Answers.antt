use Rattle.timetable.proofs.LawLemmas.{coverings_are_refused_for_cause}
use Rattle.timetable.proofs.laws.coverings_are_refused_for_cause.Goals as goal

pub returns : goal.returns
returns c = coverings_are_refused_for_cause
