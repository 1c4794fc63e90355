use Rattle.task_deque.proofs.Moves.{takes}
use Rattle.task_deque.proofs.handles.Thief.steal.Goals as goal

pub steal_as-requires-clause-takes : goal.steal_as-requires-clause-takes
steal_as-requires-clause-takes g c = takes g.C.Case.case _ _ c.requires
