use Rattle.std.proofs.Common.{◌-◌, ◌≤◌}
use Rattle.cell_judge.proofs.tiles.least_size.Given as goal

abbrev pub invariant-loop-size : goal.invariant-loop-size
invariant-loop-size l = record {
  not_small : 4 ≤ l.size;
  not_large : l.size ≤ 24;
}

abbrev pub decreases-loop-size : goal.decreases-loop-size
decreases-loop-size l = 24 - l.size
