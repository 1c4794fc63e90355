use Rattle.std.proofs.Common.{rules, sym, ◌∙◌}
use Rattle.plain_search.proofs.TreeFacts.{child_at}
use Rattle.covering.proofs.Walking.{beyond, found_below, found_here, none_below, none_below_more, none_beyond, not_found_here}
use Rattle.covering.proofs.leaf_walk.+finds.Goals as goal

pub first_leaf-returns-then-not-has_rank : goal.first_leaf-returns-then-not-has_rank
first_leaf-returns-then-not-has_rank g t c =
    let task = c.args.task in
    sym (none_beyond (g.J.Judge.content c.args.judge.now) task c.args.sought c.args.rank c.requires (beyond c.has_rank.result c.args.rank task c.has_rank.ensures c.if-not-has_rank.true))

pub first_leaf-returns-then-task-rank : goal.first_leaf-returns-then-task-rank
first_leaf-returns-then-task-rank g t c =
    found_here (g.J.Judge.content c.args.judge.now) c.args.task c.args.sought c.args.rank c.judge-verdict.result c.judge-verdict.ensures (sym c.splits.ensures ∙ c.if-splits.false) (sym c.fits.ensures ∙ c.if-fits.true) c.if-task-rank.true

pub first_leaf-returns-else-fits : goal.first_leaf-returns-else-fits
first_leaf-returns-else-fits g t c =
    not_found_here (g.J.Judge.content c.args.judge.now) c.args.task c.args.sought c.args.rank c.judge-verdict.result c.judge-verdict.ensures (sym c.splits.ensures ∙ c.if-splits.false) (rw c.fits.ensures at c.else-fits.either)

pub first_leaf_below-first_leaf-found-requires : goal.first_leaf_below-first_leaf-found-requires
first_leaf_below-first_leaf-found-requires g t c κs within =
    let child = child_at (g.J.Judge.content c.args.judge.now) c.args.task _ c.loop-cell.cell-index _ c.requires.task c.loop-cell.invariant.children c.loop-cell-test.true in
    let fewer = child.1 in
    (search (rules, fewer, c.decreases), (search (rules, within), (search (rules, within), child.0)))

pub first_leaf_below-returns-then-is_some : goal.first_leaf_below-returns-then-is_some
first_leaf_below-returns-then-is_some g t c =
    found_below (g.J.Judge.content c.args.judge.now) c.args.task c.args.sought c.args.rank _ c.loop-cell.cell-index _ c.first_leaf-found.result c.requires.split c.loop-cell.invariant.children c.loop-cell-test.true c.loop-cell.invariant.none c.first_leaf-found.ensures (sym c.is_some.ensures ∙ c.if-is_some.true)

pub first_leaf_below-loop-cell-preserved : goal.first_leaf_below-loop-cell-preserved
first_leaf_below-loop-cell-preserved g t c = record {
  children = c.loop-cell.invariant.children;
  none = none_below_more (g.J.Judge.content c.args.judge.now) c.args.task c.args.sought c.args.rank _ c.loop-cell.cell-index _ c.first_leaf-found.result c.loop-cell-test.true c.loop-cell.invariant.none c.first_leaf-found.ensures (sym c.is_some.ensures ∙ c.if-is_some.false);
}

pub first_leaf_below-returns : goal.first_leaf_below-returns
first_leaf_below-returns g t c =
    none_below (g.J.Judge.content c.args.judge.now) c.args.task c.args.sought c.args.rank _ c.loop-cell.cell-index c.requires.split c.loop-cell.invariant.children c.loop-cell-test.false c.loop-cell.invariant.none
