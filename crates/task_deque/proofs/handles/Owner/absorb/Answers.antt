use Rattle.task_deque.proofs.Moves.{merges}
use Rattle.task_deque.proofs.handles.Owner.absorb.Goals as goal

pub absorb-requires-clause-rule : goal.absorb-requires-clause-rule
absorb-requires-clause-rule g c = merges g.C.Case.case _ _ _ _
