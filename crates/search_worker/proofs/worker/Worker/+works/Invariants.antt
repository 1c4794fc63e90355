use Rattle.std.proofs.Common.{◌+◌, ◌-◌, ◌*◌, take}
use Rattle.cell_split.specs.Tree.{levels}
use Rattle.plain_search.specs.Quarters.{cells_of}
use Rattle.search_worker.specs.Workers.{HasLeft, IsSameWorker}
use Rattle.search_worker.proofs.worker.Worker.+works.Given as goal

abbrev pub decreases-work : goal.decreases-work
decreases-work g l = 6 * levels l.job.task.cell

abbrev pub decreases-work_judged : goal.decreases-work_judged
decreases-work_judged g l = 6 * levels l.task.cell - 1

abbrev pub decreases-hand_on_children : goal.decreases-hand_on_children
decreases-hand_on_children g l = 6 * levels l.task.cell - 2

abbrev pub decreases-hand_on_quarters : goal.decreases-hand_on_quarters
decreases-hand_on_quarters g l = 6 * levels l.task.cell - 3

abbrev pub decreases-hand_on_halves : goal.decreases-hand_on_halves
decreases-hand_on_halves g l = 6 * levels l.task.cell - 3

abbrev pub decreases-hand_on_quarter : goal.decreases-hand_on_quarter
decreases-hand_on_quarter g l = 6 * levels l.task.cell + 2

abbrev pub decreases-hand_on : goal.decreases-hand_on
decreases-hand_on g l = 6 * levels l.job.task.cell + 1

-- the quarters before this one are left
abbrev pub invariant-hand_on_quarters-loop-i : goal.invariant-hand_on_quarters-loop-i
invariant-hand_on_quarters-loop-i g l = record {
  same : IsSameWorker l.bound l.fn.self l.self;
  left : HasLeft g.C.Case.case (g.S.Store.keeps g.C.Case.case.problems) l.fn.self l.self l.task (take l.i (cells_of l.quarters));
}

-- the halves before this one are left
abbrev pub invariant-hand_on_halves-loop-i : goal.invariant-hand_on_halves-loop-i
invariant-hand_on_halves-loop-i g l = record {
  same : IsSameWorker l.bound l.initial.self l.self;
  left : HasLeft g.C.Case.case (g.S.Store.keeps g.C.Case.case.problems) l.initial.self l.self l.task (take l.i l.halves);
}
