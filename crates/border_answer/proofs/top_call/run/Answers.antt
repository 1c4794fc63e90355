use Rattle.std.proofs.Common.{refl}
use Rattle.border_answer.proofs.AnswerLemmas.{ended_by}
use Rattle.border_answer.proofs.HeadlineLemmas.{headline}
use Rattle.border_answer.proofs.top_call.run.Goals as goal

pub returns-clause-ended : goal.returns-clause-ended
returns-clause-ended g c = ended_by _ c.answer-ending.result c.report.result _ _ _ c.answer-ending.ensures c.report.ensures.status refl c.report.ensures.reports

pub returns-clause-headline : goal.returns-clause-headline
returns-clause-headline g c =
    headline _ _ _ _ (ended_by _ c.answer-ending.result c.report.result _ _ _ c.answer-ending.ensures c.report.ensures.status refl c.report.ensures.reports)
