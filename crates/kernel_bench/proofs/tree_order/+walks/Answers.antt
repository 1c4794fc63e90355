use Rattle.std.proofs.Common.{rules}
use Rattle.plain_search.proofs.TreeFacts.{child_at}
use Rattle.kernel_bench.proofs.tree_order.+walks.Goals as goal

pub walk_below-walk-requires : goal.walk_below-walk-requires
walk_below-walk-requires g t c κs within =
    let child = child_at (g.J.Judge.content c.args.judge.now) c.args.task _ c.loop-cell.cell-index _ c.requires.task c.requires.cells c.loop-cell-test.true in
    let fewer = child.1 in
    (search (rules, fewer, c.decreases), (search (rules, within), (search (rules, within), child.0)))
