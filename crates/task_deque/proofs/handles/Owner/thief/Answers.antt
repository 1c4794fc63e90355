use Rattle.task_deque.proofs.Moves.{forks}
use Rattle.task_deque.proofs.handles.Owner.thief.Goals as goal

pub another-pass-requires : goal.another-pass-requires
another-pass-requires g c = forks g.C.Case.case _ _ c.requires
