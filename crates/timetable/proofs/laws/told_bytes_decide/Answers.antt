use Rattle.timetable.proofs.LawLemmas.{told_bytes_decide}
use Rattle.timetable.proofs.laws.told_bytes_decide.Goals as goal

pub returns : goal.returns
returns c = told_bytes_decide
