use Rattle.std.proofs.Common.{sym, ◌∙◌}
use Rattle.fixed_interval.specs.Interval.{ends}
use Rattle.cell_judge.proofs.VerdictLemmas.{is_proved, is_refuted, is_open, is_split}
use Rattle.cell_judge.proofs.verdicts.verdict_at.Goals as goal

pub returns-then-shows_held : goal.returns-then-shows_held
returns-then-shows_held c =
    is_proved c.args.kind (ends c.args.value) c.args.cell.now c.args.p (sym c.shows_held.ensures ∙ c.if-shows_held.true)

pub returns-then-shows_failed : goal.returns-then-shows_failed
returns-then-shows_failed c =
    is_refuted c.args.kind (ends c.args.value) c.args.cell.now c.args.p
    (sym c.shows_held.ensures ∙ c.if-shows_held.false) (sym c.shows_failed.ensures ∙ c.if-shows_failed.true)

pub returns-then-is_smallest : goal.returns-then-is_smallest
returns-then-is_smallest c =
    is_open c.args.kind (ends c.args.value) c.args.cell.now c.args.p
    (sym c.shows_held.ensures ∙ c.if-shows_held.false) (sym c.shows_failed.ensures ∙ c.if-shows_failed.false)
    (sym c.is_smallest.ensures ∙ c.if-is_smallest.true)

pub returns-else-is_smallest : goal.returns-else-is_smallest
returns-else-is_smallest c =
    is_split c.args.kind (ends c.args.value) c.args.cell.now c.args.p
    (sym c.shows_held.ensures ∙ c.if-shows_held.false) (sym c.shows_failed.ensures ∙ c.if-shows_failed.false)
    (sym c.is_smallest.ensures ∙ c.if-is_smallest.false)
