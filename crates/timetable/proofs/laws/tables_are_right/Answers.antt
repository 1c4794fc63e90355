use Rattle.timetable.proofs.LawLemmas.{tables_are_right}
use Rattle.timetable.proofs.laws.tables_are_right.Goals as goal

pub returns : goal.returns
returns c = tables_are_right
