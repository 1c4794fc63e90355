use Rattle.std.proofs.Common.{◌-◌, ◌*◌}
use Rattle.cell_split.specs.Tree.{levels}
use Rattle.kernel_bench.proofs.tree_order.+walks.Given as goal

abbrev pub decreases-walk : goal.decreases-walk
decreases-walk g l = 2 * levels l.task.cell

abbrev pub decreases-walk_below : goal.decreases-walk_below
decreases-walk_below g l = 2 * levels l.task.cell - 1
