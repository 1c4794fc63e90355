use Rattle.timetable.proofs.LawLemmas.{usage_is_for_wrong_words}
use Rattle.timetable.proofs.laws.usage_is_for_wrong_words.Goals as goal

pub returns : goal.returns
returns c = usage_is_for_wrong_words
