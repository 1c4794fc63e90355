use Rattle.std.proofs.Common.{rules, sym, ◌∙◌, arith}
use Rattle.plain_search.specs.Harvests.{ordinal_of}
use Rattle.plain_search.proofs.TreeFacts.{child_at, quarter_at}
use Rattle.covering_check.specs.Left.{left}
use Rattle.covering_check.proofs.Taking.{quarter_fault, quarter_more, quarter_uncut, quarters_all, same_order, walk_cut, walk_ended, walk_leaf, walk_not_cut, walk_not_shown, walk_split, walked_all, walked_fault, walked_more}
use Rattle.covering_check.proofs.walk.+walks.Goals as goal

pub walk-returns-in-Err-clause-walks : goal.walk-returns-in-Err-clause-walks
walk-returns-in-Err-clause-walks g t c =
    walk_ended (g.J.Judge.content c.args.judge.now) (ordinal_of c.args.refuted) c.args.task c.args.known (left c.args.letters.now) (left c.args.letters.now) _ c.in-Err.ensures

pub walk-returns-then-mark-eq107-clause-walks : goal.walk-returns-then-mark-eq107-clause-walks
walk-returns-then-mark-eq107-clause-walks g t c =
    walk_cut (g.J.Judge.content c.args.judge.now) (ordinal_of c.args.refuted) c.args.task c.args.known _ _ _ c.in-Ok.ensures (sym c.is_cut.ensures ∙ c.if-not-is_cut.false) c.if-mark-eq107.true

pub walk-returns-else-mark-eq107-clause-walks : goal.walk-returns-else-mark-eq107-clause-walks
walk-returns-else-mark-eq107-clause-walks g t c =
    walk_not_cut (g.J.Judge.content c.args.judge.now) (ordinal_of c.args.refuted) c.args.task c.args.known _ _ _ c.in-Ok.ensures (sym c.is_cut.ensures ∙ c.if-not-is_cut.false) c.if-mark-eq107.false

pub walk_judged-returns-in-Err-clause-walks : goal.walk_judged-returns-in-Err-clause-walks
walk_judged-returns-in-Err-clause-walks g t c =
    walk_ended (g.J.Judge.content c.args.judge.now) (ordinal_of c.args.refuted) c.args.task c.args.known (left c.args.letters.now) (left c.args.letters.now) _ c.in-Err.ensures

pub walk_judged-returns-then-not-is_shown_by-clause-walks : goal.walk_judged-returns-then-not-is_shown_by-clause-walks
walk_judged-returns-then-not-is_shown_by-clause-walks g t c =
    walk_not_shown (g.J.Judge.content c.args.judge.now) (ordinal_of c.args.refuted) c.args.task c.args.verdict c.args.known _ _ _ c.requires.verdict c.in-Ok.ensures c.requires.uncut (sym c.is_shown_by.ensures ∙ c.if-not-is_shown_by.true)

pub walk_judged-returns-then-not-splits-clause-walks : goal.walk_judged-returns-then-not-splits-clause-walks
walk_judged-returns-then-not-splits-clause-walks g t c =
    rw c.later_open.ensures (walk_leaf (g.J.Judge.content c.args.judge.now) (ordinal_of c.args.refuted) c.args.task c.args.verdict c.args.known _ _ _ c.requires.verdict c.in-Ok.ensures c.requires.uncut (sym c.is_shown_by.ensures ∙ c.if-not-is_shown_by.false) (sym c.splits.ensures ∙ c.if-not-splits.true))

pub walk_judged-returns-then-below-eq4-clause-walks : goal.walk_judged-returns-then-below-eq4-clause-walks
walk_judged-returns-then-below-eq4-clause-walks g t c =
    walk_split (g.J.Judge.content c.args.judge.now) (ordinal_of c.args.refuted) c.args.task c.args.verdict c.args.known _ _ _ _ _ c.requires.verdict c.in-Ok.ensures c.requires.uncut (sym c.is_shown_by.ensures ∙ c.if-not-is_shown_by.false) (sym c.splits.ensures ∙ c.if-not-splits.false) c.walk_quarters.ensures.walks

pub walk_judged-returns-else-below-eq4-clause-walks : goal.walk_judged-returns-else-below-eq4-clause-walks
walk_judged-returns-else-below-eq4-clause-walks g t c =
    walk_split (g.J.Judge.content c.args.judge.now) (ordinal_of c.args.refuted) c.args.task c.args.verdict c.args.known _ _ _ _ _ c.requires.verdict c.in-Ok.ensures c.requires.uncut (sym c.is_shown_by.ensures ∙ c.if-not-is_shown_by.false) (sym c.splits.ensures ∙ c.if-not-splits.false) c.walk_halves.ensures.walks

pub walk_quarters-walk_judged-requires : goal.walk_quarters-walk_judged-requires
walk_quarters-walk_judged-requires g t c κs within =
    let content = g.J.Judge.content c.args.judge.now in
    let child = quarter_at content c.args.task _ c.loop-quarter.quarter-index _ c.requires.task (same_order _ _ c.loop-quarter.invariant.cells) (omega (arith, c.loop-quarter-test.true, c.loop-quarter.invariant.four)) in
    let fewer = child.1 in
    let uncut = quarter_uncut (ordinal_of c.args.refuted) c.args.task _ c.loop-quarter.quarter-index _ c.requires.quartered c.loop-quarter.invariant.cells (omega (arith, c.loop-quarter-test.true, c.loop-quarter.invariant.four)) c.requires.uncut in
    let verdict = c.loop-quarter.invariant.verdicts c.loop-quarter.quarter-index _ (omega (arith, c.loop-quarter-test.true, c.loop-quarter.invariant.four)) in
    (search (rules, fewer, c.decreases), (search (rules, within), (search (rules, within), (child.0, (c.loop-quarter.invariant.in_frame, (uncut, verdict.is))))))

pub walk_quarters-returns-in-Err-clause-walks : goal.walk_quarters-returns-in-Err-clause-walks
walk_quarters-returns-in-Err-clause-walks g t c =
    quarter_fault (g.J.Judge.content c.args.judge.now) (ordinal_of c.args.refuted) c.args.task _ c.loop-quarter.quarter-index _ c.args.known _ _ _ _ c.loop-quarter.invariant.cells (omega (arith, c.loop-quarter-test.true, c.loop-quarter.invariant.four)) c.loop-quarter.invariant.walked c.in-Err.ensures.walks

pub walk_quarters-loop-quarter-preserved : goal.walk_quarters-loop-quarter-preserved
walk_quarters-loop-quarter-preserved g t c = record {
  four = c.loop-quarter.invariant.four;
  cells = c.loop-quarter.invariant.cells;
  verdicts = c.loop-quarter.invariant.verdicts;
  walked = quarter_more (g.J.Judge.content c.args.judge.now) (ordinal_of c.args.refuted) c.args.task _ c.loop-quarter.quarter-index _ c.args.known _ _ _ _ _ (omega (arith, c.loop-quarter-test.true, c.loop-quarter.invariant.four)) c.loop-quarter.invariant.walked c.in-Ok.ensures.walks;
  in_frame = c.in-Ok.ensures.in_frame;
}

pub walk_quarters-returns-clause-walks : goal.walk_quarters-returns-clause-walks
walk_quarters-returns-clause-walks g t c =
    quarters_all (g.J.Judge.content c.args.judge.now) (ordinal_of c.args.refuted) c.args.task _ c.loop-quarter.quarter-index c.args.known _ _ _ c.loop-quarter.invariant.cells (omega (arith, c.loop-quarter-test.false, c.loop-quarter.invariant.four)) c.loop-quarter.invariant.walked

pub walk_halves-walk-requires : goal.walk_halves-walk-requires
walk_halves-walk-requires g t c κs within =
    let child = child_at (g.J.Judge.content c.args.judge.now) c.args.task _ c.loop-cell.cell-index _ c.requires.task c.requires.halves c.loop-cell-test.true in
    let fewer = child.1 in
    (search (rules, fewer, c.decreases), (search (rules, within), (search (rules, within), (child.0, c.loop-cell.invariant.in_frame))))

pub walk_halves-returns-in-Err-clause-walks : goal.walk_halves-returns-in-Err-clause-walks
walk_halves-returns-in-Err-clause-walks g t c =
    walked_fault (g.J.Judge.content c.args.judge.now) (ordinal_of c.args.refuted) c.args.task _ c.loop-cell.cell-index _ c.args.known _ _ _ _ c.requires.halves c.loop-cell-test.true c.loop-cell.invariant.walked c.in-Err.ensures.walks

pub walk_halves-loop-cell-preserved : goal.walk_halves-loop-cell-preserved
walk_halves-loop-cell-preserved g t c = record {
  walked = walked_more (g.J.Judge.content c.args.judge.now) (ordinal_of c.args.refuted) c.args.task _ c.loop-cell.cell-index _ c.args.known _ _ _ _ _ c.loop-cell-test.true c.loop-cell.invariant.walked c.in-Ok.ensures.walks;
  in_frame = c.in-Ok.ensures.in_frame;
}

pub walk_halves-returns-clause-walks : goal.walk_halves-returns-clause-walks
walk_halves-returns-clause-walks g t c =
    walked_all (g.J.Judge.content c.args.judge.now) (ordinal_of c.args.refuted) c.args.task _ c.loop-cell.cell-index c.args.known _ _ _ c.requires.halves c.loop-cell-test.false c.loop-cell.invariant.walked
