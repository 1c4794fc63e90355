use Rattle.std.proofs.Common.{map, refl, string_bytes, subst}
use Rattle.command_words.proofs.RangeLemmas.{commands_are_in_range}
use Rattle.command_words.specs.Words.{IsCommand}
use Rattle.sun_verdict.proofs.TruthLemmas.{is_true_of_sky}
use Rattle.timetable.proofs.AnswerLemmas.{ended_by}
use Rattle.timetable.proofs.HeadlineLemmas.{checked, headline, published, together}
use Rattle.timetable.proofs.top_calls.run.Goals as goal

pub returns-clause-headline : goal.returns-clause-headline
returns-clause-headline g c =
    headline _ _ _ _ (ended_by _ c.answer_words-ending.result c.report.result _ _ _ c.answer_words-ending.ensures c.report.ensures.status refl c.report.ensures.reports)

pub returns-clause-published : goal.returns-clause-published
returns-clause-published g c =
    published _ _ _ _ (ended_by _ c.answer_words-ending.result c.report.result _ _ _ c.answer_words-ending.ensures c.report.ensures.status refl c.report.ensures.reports)

pub returns-clause-together : goal.returns-clause-together
returns-clause-together g c =
    together _ _ _ _ (ended_by _ c.answer_words-ending.result c.report.result _ _ _ c.answer_words-ending.ensures c.report.ensures.status refl c.report.ensures.reports)

pub returns-clause-checked : goal.returns-clause-checked
returns-clause-checked g c =
    checked _ _ _ _ (ended_by _ c.answer_words-ending.result c.report.result _ _ _ c.answer_words-ending.ensures c.report.ensures.status refl c.report.ensures.reports)

pub returns-clause-ended : goal.returns-clause-ended
returns-clause-ended g c =
    ended_by _ c.answer_words-ending.result c.report.result _ _ _ c.answer_words-ending.ensures c.report.ensures.status refl c.report.ensures.reports

pub returns-clause-truth : goal.returns-clause-truth
returns-clause-truth g c = λ r is_sun. is_true_of_sky r (subst IsCommand is_sun (commands_are_in_range (map string_bytes c.args.words.now)))
