use Rattle.std.proofs.Common.{◌≡◌, ◌<◌, ◌≤◌, false, rules, sym, ap, ◌∙◌, arith}
use Rattle.cell_split.specs.Verdicts.{is_split}
use Rattle.plain_search.specs.Harvests.{ordinal_of}
use Rattle.plain_search.proofs.Rising.{rises-child, rises-leaf, rises-quarter, rises-quarters, rises-cut, rises-split}
use Rattle.plain_search.proofs.TreeFacts.{child_at, quarter_at}
use Rattle.plain_search.proofs.ranks_alone.+rises.Goals as goal

pub rise-returns-then-is_cut : goal.rise-returns-then-is_cut
rise-returns-then-is_cut g t c =
    let low : c.args.task.cell.last < ordinal_of c.args.found.now.refuted = search rules in
    rises-cut (g.J.Judge.content c.args.judge.now) c.args.task _ _ c.requires low

pub rise_judged-returns-then-is_cut : goal.rise_judged-returns-then-is_cut
rise_judged-returns-then-is_cut g t c =
    let low : c.args.task.cell.last < ordinal_of c.args.found.now.refuted = search rules in
    rises-cut (g.J.Judge.content c.args.judge.now) c.args.task _ _ c.requires.task low

pub rise_judged-returns-then-not-splits : goal.rise_judged-returns-then-not-splits
rise_judged-returns-then-not-splits g t c =
    let content = g.J.Judge.content c.args.judge.now in
    let same = c.requires.verdict in
    let low : ordinal_of c.args.found.now.refuted ≤ c.args.task.cell.last = search rules in
    let leaf : is_split (content.verdict c.args.task) ≡ false = ap is_split (sym same) ∙ (sym c.splits.ensures ∙ c.if-not-splits.true) in
    rises-leaf content c.args.task (ordinal_of c.args.found.now.refuted) (ordinal_of c.args.found.now.left_open) (ordinal_of c.take_in.new.found.refuted) (ordinal_of c.take_in.new.found.left_open) leaf low (rw (sym same) c.take_in.ensures.refuted) (rw (sym same) c.take_in.ensures.opened)

pub rise_quarters-rise_judged-requires : goal.rise_quarters-rise_judged-requires
rise_quarters-rise_judged-requires g t c κs within =
    let child = quarter_at (g.J.Judge.content c.args.judge.now) c.args.task _ c.loop-quarter.quarter-index _ c.requires.task c.loop-quarter.invariant.cells (omega (arith, c.loop-quarter-test.true, c.loop-quarter.invariant.four)) in
    let fewer = child.1 in
    let verdict = c.loop-quarter.invariant.verdicts c.loop-quarter.quarter-index _ (omega (arith, c.loop-quarter-test.true, c.loop-quarter.invariant.four)) in
    (search (rules, fewer, c.decreases), (search (rules, within), (search (rules, within), (child.0, verdict.is))))

pub rise_quarters-loop-quarter-preserved : goal.rise_quarters-loop-quarter-preserved
rise_quarters-loop-quarter-preserved g t c = record {
  four = c.loop-quarter.invariant.four;
  cells = c.loop-quarter.invariant.cells;
  verdicts = c.loop-quarter.invariant.verdicts;
  taken = rises-quarter _ _ _ _ _ _ _ _ _ _ _ (omega (arith, c.loop-quarter-test.true, c.loop-quarter.invariant.four)) c.loop-quarter.invariant.taken c.rise_judged.ensures;
}

pub rise_quarters-returns : goal.rise_quarters-returns
rise_quarters-returns g t c =
    rises-quarters (g.J.Judge.content c.args.judge.now) c.args.task _ c.loop-quarter.quarter-index _ _ _ _ c.requires.split c.loop-quarter.invariant.cells (omega (arith, c.loop-quarter-test.false, c.loop-quarter.invariant.four)) c.loop-quarter.invariant.taken

pub rise_halves-rise-requires : goal.rise_halves-rise-requires
rise_halves-rise-requires g t c κs within =
    let child = child_at (g.J.Judge.content c.args.judge.now) c.args.task _ c.loop-cell.cell-index _ c.requires.task c.requires.halves c.loop-cell-test.true in
    let fewer = child.1 in
    (search (rules, fewer, c.decreases), (search (rules, within), (search (rules, within), child.0)))

pub rise_halves-loop-cell-preserved : goal.rise_halves-loop-cell-preserved
rise_halves-loop-cell-preserved g t c = record {
  taken = rises-child _ _ _ _ _ _ _ _ _ _ _ c.loop-cell-test.true c.loop-cell.invariant.taken c.rise.ensures;
}

pub rise_halves-returns : goal.rise_halves-returns
rise_halves-returns g t c =
    rises-split (g.J.Judge.content c.args.judge.now) c.args.task _ c.loop-cell.cell-index _ _ _ _ c.requires.split c.requires.halves c.loop-cell-test.false c.loop-cell.invariant.taken
