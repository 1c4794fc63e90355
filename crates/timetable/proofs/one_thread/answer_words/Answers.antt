use Rattle.timetable.proofs.AnswerLemmas.{dry_answers}
use Rattle.timetable.proofs.one_thread.answer_words.Goals as goal

pub returns-in-Ok : goal.returns-in-Ok
returns-in-Ok g c = rw (← c.in-Ok.ensures.value) c.answer.ensures

pub returns-in-Err : goal.returns-in-Err
returns-in-Err g c = dry_answers _ _ _
