use Rattle.std.proofs.Common.{◌≡◌, ◌<◌, ◌≤◌, false, rules, sym, ap, ◌∙◌, arith}
use Rattle.std.proofs.lemmas.Result.{on_ok_weaker}
use Rattle.cell_split.specs.Verdicts.{is_split}
use Rattle.plain_search.specs.Harvests.{ordinal_of}
use Rattle.plain_search.proofs.Collecting.{collects-child, collects-leaf, collects-none, collects-quarter, collects-quarters, collects-cut, collects-split}
use Rattle.plain_search.proofs.TreeFacts.{child_at, quarter_at}
use Rattle.plain_search.proofs.plain.+visits.Goals as goal

pub visit-returns-then-is_cut : goal.visit-returns-then-is_cut
visit-returns-then-is_cut g t c =
    let low : c.args.task.cell.last < ordinal_of c.args.refuted.now = search rules in
    collects-cut (g.J.Judge.content c.args.judge.now) c.args.task _ _ c.requires low

pub visit_judged-returns-then-is_cut : goal.visit_judged-returns-then-is_cut
visit_judged-returns-then-is_cut g t c =
    let low : c.args.task.cell.last < ordinal_of c.args.refuted.now = search rules in
    collects-cut (g.J.Judge.content c.args.judge.now) c.args.task _ _ c.requires.task low

pub visit_judged-returns-then-not-splits : goal.visit_judged-returns-then-not-splits
visit_judged-returns-then-not-splits g t c =
    let content = g.J.Judge.content c.args.judge.now in
    let same = c.requires.verdict in
    let low : ordinal_of c.args.refuted.now ≤ c.args.task.cell.last = search rules in
    let leaf : is_split (content.verdict c.args.task) ≡ false = ap is_split (sym same) ∙ (sym c.splits.ensures ∙ c.if-not-splits.true) in
    on_ok_weaker c.keep.result (λ e. collects-leaf content c.args.task _ _ _ _ leaf low (rw (sym same) c.keep.ensures.refuted) (rw (sym same) e)) c.keep.ensures.found

pub visit_quarters-visit_judged-requires : goal.visit_quarters-visit_judged-requires
visit_quarters-visit_judged-requires g t c κs within =
    let child = quarter_at (g.J.Judge.content c.args.judge.now) c.args.task _ c.loop-quarter.quarter-index _ c.requires.task c.loop-quarter.invariant.cells (omega (arith, c.loop-quarter-test.true, c.loop-quarter.invariant.four)) in
    let fewer = child.1 in
    let verdict = c.loop-quarter.invariant.verdicts c.loop-quarter.quarter-index _ (omega (arith, c.loop-quarter-test.true, c.loop-quarter.invariant.four)) in
    (search (rules, fewer, c.decreases), (search (rules, within), (search (rules, within), (child.0, verdict.is))))

pub visit_quarters-loop-quarter-init : goal.visit_quarters-loop-quarter-init
visit_quarters-loop-quarter-init g t c = record {
  four = search rules;
  cells = c.quarters_in_turn.ensures.cells;
  verdicts = c.quarters_in_turn.ensures.verdicts;
  searched = collects-none _ _ _;
}

pub visit_quarters-loop-quarter-preserved : goal.visit_quarters-loop-quarter-preserved
visit_quarters-loop-quarter-preserved g t c = record {
  four = c.loop-quarter.invariant.four;
  cells = c.loop-quarter.invariant.cells;
  verdicts = c.loop-quarter.invariant.verdicts;
  searched = collects-quarter _ _ _ _ _ _ _ _ _ _ _ (omega (arith, c.loop-quarter-test.true, c.loop-quarter.invariant.four)) c.loop-quarter.invariant.searched c.in_ok-visit_judged.ensures;
}

pub visit_quarters-returns : goal.visit_quarters-returns
visit_quarters-returns g t c =
    collects-quarters (g.J.Judge.content c.args.judge.now) c.args.task _ c.loop-quarter.quarter-index _ _ _ _ c.requires.split c.loop-quarter.invariant.cells (omega (arith, c.loop-quarter-test.false, c.loop-quarter.invariant.four)) c.loop-quarter.invariant.searched

pub visit_halves-visit-requires : goal.visit_halves-visit-requires
visit_halves-visit-requires g t c κs within =
    let child = child_at (g.J.Judge.content c.args.judge.now) c.args.task _ c.loop-cell.cell-index _ c.requires.task c.requires.halves c.loop-cell-test.true in
    let fewer = child.1 in
    (search (rules, fewer, c.decreases), (search (rules, within), (search (rules, within), child.0)))

pub visit_halves-loop-cell-preserved : goal.visit_halves-loop-cell-preserved
visit_halves-loop-cell-preserved g t c = record {
  searched = collects-child _ _ _ _ _ _ _ _ _ _ _ c.loop-cell-test.true c.loop-cell.invariant.searched c.in_ok-visit.ensures;
}

pub visit_halves-returns : goal.visit_halves-returns
visit_halves-returns g t c =
    collects-split (g.J.Judge.content c.args.judge.now) c.args.task _ c.loop-cell.cell-index _ _ _ _ c.requires.split c.requires.halves c.loop-cell-test.false c.loop-cell.invariant.searched
