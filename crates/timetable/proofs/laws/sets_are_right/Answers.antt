use Rattle.timetable.proofs.LawLemmas.{sets_are_right}
use Rattle.timetable.proofs.laws.sets_are_right.Goals as goal

pub returns : goal.returns
returns c = sets_are_right
