use Rattle.std.proofs.Common.{◌≡◌, ◌-◌, ◌*◌, length, map, take}
use Rattle.std.specs.List.{flat_map}
use Rattle.std.specs.List.Sorted.{IsPermutation}
use Rattle.std.specs.Prelude.{All}
use Rattle.cell_split.specs.Split.{children_of}
use Rattle.cell_split.specs.Tree.{leaves, levels, task_of}
use Rattle.plain_search.specs.Collected.{Collects}
use Rattle.plain_search.specs.Harvests.{ordinal_of}
use Rattle.plain_search.specs.Quarters.{IsJudged, cells_of}
use Rattle.plain_search.proofs.plain.+visits.Given as goal

abbrev pub decreases-visit : goal.decreases-visit
decreases-visit g l = 4 * levels l.task.cell

abbrev pub decreases-visit_judged : goal.decreases-visit_judged
decreases-visit_judged g l = 4 * levels l.task.cell - 1

abbrev pub decreases-visit_quarters : goal.decreases-visit_quarters
decreases-visit_quarters g l = 4 * levels l.task.cell - 2

abbrev pub decreases-visit_halves : goal.decreases-visit_halves
decreases-visit_halves g l = 4 * levels l.task.cell - 2

-- the quarters before this one are searched
abbrev pub invariant-visit_quarters-loop-quarter : goal.invariant-visit_quarters-loop-quarter
invariant-visit_quarters-loop-quarter g l = record {
  four : length l.quarter-items ≡ 4;
  cells : IsPermutation (children_of l.task.cell) (cells_of l.quarter-items);
  verdicts : All (IsJudged (g.J.Judge.content l.judge) l.task.problem) l.quarter-items;
  searched : Collects l.task.problem (flat_map (leaves (g.J.Judge.content l.judge)) (map (task_of l.task.problem) (take l.quarter-index (cells_of l.quarter-items))))
      (ordinal_of l.initial.refuted) (ordinal_of l.refuted) l.initial.found.items l.found.items;
}

-- the halves before this one are searched
abbrev pub invariant-visit_halves-loop-cell : goal.invariant-visit_halves-loop-cell
invariant-visit_halves-loop-cell g l = record {
  searched : Collects l.task.problem (flat_map (leaves (g.J.Judge.content l.judge)) (map (task_of l.task.problem) (take l.cell-index l.halves)))
      (ordinal_of l.initial.refuted) (ordinal_of l.refuted) l.initial.found.items l.found.items;
}
