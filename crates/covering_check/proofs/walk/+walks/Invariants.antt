use Rattle.std.proofs.Common.{◌≡◌, ◌-◌, ◌*◌, length}
use Rattle.std.specs.Prelude.{All}
use Rattle.cell_split.specs.Split.{children_of}
use Rattle.cell_split.specs.Tree.{levels}
use Rattle.plain_search.specs.Harvests.{ordinal_of}
use Rattle.plain_search.specs.Quarters.{IsJudged, cells_of}
use Rattle.covering_check.specs.Left.{left}
use Rattle.covering_check.specs.Visits.{IsInFrame}
use Rattle.covering_check.proofs.Taking.{AreWalked}
use Rattle.covering_check.proofs.walk.+walks.Given as goal

abbrev pub decreases-walk : goal.decreases-walk
decreases-walk g l = 3 * levels l.task.cell

abbrev pub decreases-walk_judged : goal.decreases-walk_judged
decreases-walk_judged g l = 3 * levels l.task.cell - 1

abbrev pub decreases-walk_quarters : goal.decreases-walk_quarters
decreases-walk_quarters g l = 3 * levels l.task.cell - 2

abbrev pub decreases-walk_halves : goal.decreases-walk_halves
decreases-walk_halves g l = 3 * levels l.task.cell - 2

-- the cells below the quarters before this one have taken their letters
abbrev pub invariant-walk_quarters-loop-quarter : goal.invariant-walk_quarters-loop-quarter
invariant-walk_quarters-loop-quarter g l = record {
  four : length l.quarter-items ≡ 4;
  cells : cells_of l.quarter-items ≡ children_of l.task.cell;
  verdicts : All (IsJudged (g.J.Judge.content l.judge) l.task.problem) l.quarter-items;
  walked : AreWalked (g.J.Judge.content l.judge) (ordinal_of l.refuted) l.task (cells_of l.quarter-items) l.quarter-index l.fn.known l.found (left l.initial.letters) (left l.letters);
  in_frame : IsInFrame l.found;
}

-- the cells below the halves before this one have taken their letters
abbrev pub invariant-walk_halves-loop-cell : goal.invariant-walk_halves-loop-cell
invariant-walk_halves-loop-cell g l = record {
  walked : AreWalked (g.J.Judge.content l.judge) (ordinal_of l.refuted) l.task l.halves l.cell-index l.fn.known l.found (left l.initial.letters) (left l.letters);
  in_frame : IsInFrame l.found;
}
