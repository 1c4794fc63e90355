use Rattle.cell_split.proofs.LeafLemmas.{root_is_task}
use Rattle.kernel_bench.proofs.tree_order.walk_problem.Goals as goal

pub walk-requires : goal.walk-requires
walk-requires g c =
    let content = g.J.Judge.content c.args.judge.now in
    rw c.root.ensures (root_is_task content (g.met.J.Judge.lawful c.args.judge.now) c.args.k c.requires)
