use Rattle.std.proofs.Common.{◌≡◌, ◌-◌, ◌*◌, length, map, take}
use Rattle.std.specs.List.{flat_map}
use Rattle.std.specs.List.Sorted.{IsPermutation}
use Rattle.std.specs.Prelude.{All}
use Rattle.cell_split.specs.Split.{children_of}
use Rattle.cell_split.specs.Tree.{leaves, levels, task_of}
use Rattle.plain_search.specs.Harvests.{ordinal_of}
use Rattle.plain_search.specs.Quarters.{IsJudged, cells_of}
use Rattle.plain_search.specs.TopRanks.{Rises}
use Rattle.plain_search.proofs.ranks_alone.+rises.Given as goal

abbrev pub decreases-rise : goal.decreases-rise
decreases-rise g l = 4 * levels l.task.cell

abbrev pub decreases-rise_judged : goal.decreases-rise_judged
decreases-rise_judged g l = 4 * levels l.task.cell - 1

abbrev pub decreases-rise_quarters : goal.decreases-rise_quarters
decreases-rise_quarters g l = 4 * levels l.task.cell - 2

abbrev pub decreases-rise_halves : goal.decreases-rise_halves
decreases-rise_halves g l = 4 * levels l.task.cell - 2

-- the quarters before this one are taken in
abbrev pub invariant-rise_quarters-loop-quarter : goal.invariant-rise_quarters-loop-quarter
invariant-rise_quarters-loop-quarter g l = record {
  four : length l.quarter-items ≡ 4;
  cells : IsPermutation (children_of l.task.cell) (cells_of l.quarter-items);
  verdicts : All (IsJudged (g.J.Judge.content l.judge) l.task.problem) l.quarter-items;
  taken : Rises (flat_map (leaves (g.J.Judge.content l.judge)) (map (task_of l.task.problem) (take l.quarter-index (cells_of l.quarter-items))))
      (ordinal_of l.initial.found.refuted) (ordinal_of l.initial.found.left_open) (ordinal_of l.found.refuted) (ordinal_of l.found.left_open);
}

-- the halves before this one are taken in
abbrev pub invariant-rise_halves-loop-cell : goal.invariant-rise_halves-loop-cell
invariant-rise_halves-loop-cell g l = record {
  taken : Rises (flat_map (leaves (g.J.Judge.content l.judge)) (map (task_of l.task.problem) (take l.cell-index l.halves)))
      (ordinal_of l.initial.found.refuted) (ordinal_of l.initial.found.left_open) (ordinal_of l.found.refuted) (ordinal_of l.found.left_open);
}
