use Rattle.std.proofs.Common.{string_bytes, sym}
use Rattle.border_answer.proofs.AnswerLemmas.{answers_read, answers_unfit, answers_words, no_words, some_words}
use Rattle.border_answer.proofs.answers.answer.Goals as goal

pub returns-then-not-is_empty : goal.returns-then-not-is_empty
returns-then-not-is_empty g c = answers_words _ c.usage.result _ _ (some_words string_bytes c.args.words.now (sym c.if-not-is_empty.ensures)) c.usage.ensures

pub returns-in-Ok : goal.returns-in-Ok
returns-in-Ok g c =
    answers_read _ c.in-Ok.request c.write_verdict.result c.ending_of.result _ _ _ _ (no_words string_bytes c.args.words.now (sym c.if-not-is_empty.ensures))
    c.in-Ok.ensures c.are_sound.ensures c.write_verdict.ensures.writes c.write_verdict.ensures.count c.ending_of.ensures

pub returns-in-Err : goal.returns-in-Err
returns-in-Err g c =
    answers_unfit _ c.in-Err.ending _ _ _ (no_words string_bytes c.args.words.now (sym c.if-not-is_empty.ensures)) c.in-Err.ensures
