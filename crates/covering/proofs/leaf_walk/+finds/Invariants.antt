use Rattle.std.proofs.Common.{◌≡◌, ◌-◌, ◌*◌}
use Rattle.cell_split.specs.Split.{children_of}
use Rattle.cell_split.specs.Tree.{levels}
use Rattle.covering.proofs.Walking.{NoneSoFar}
use Rattle.covering.proofs.leaf_walk.+finds.Given as goal

abbrev pub decreases-first_leaf : goal.decreases-first_leaf
decreases-first_leaf g l = 2 * levels l.task.cell

abbrev pub decreases-first_leaf_below : goal.decreases-first_leaf_below
decreases-first_leaf_below g l = 2 * levels l.task.cell - 1

-- no leaf below the children before this one is sought
abbrev pub invariant-first_leaf_below-loop-cell : goal.invariant-first_leaf_below-loop-cell
invariant-first_leaf_below-loop-cell g l = record {
  children : l.cell-items ≡ children_of l.task.cell;
  none : NoneSoFar (g.J.Judge.content l.judge) l.task l.sought l.rank l.cell-items l.cell-index;
}
