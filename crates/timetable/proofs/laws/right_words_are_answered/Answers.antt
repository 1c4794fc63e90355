use Rattle.timetable.proofs.LawLemmas.{right_words_are_answered}
use Rattle.timetable.proofs.laws.right_words_are_answered.Goals as goal

pub returns : goal.returns
returns c = right_words_are_answered
