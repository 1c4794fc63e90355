use Rattle.task_deque.proofs.Moves.{finds, pops}
use Rattle.task_deque.proofs.handles.Owner.pop.Goals as goal

pub pop_as-requires-clause-lifo : goal.pop_as-requires-clause-lifo
pop_as-requires-clause-lifo g c = λ _. pops g.C.Case.case _ _ c.requires

pub pop_as-requires-clause-empty : goal.pop_as-requires-clause-empty
pop_as-requires-clause-empty g c = finds g.C.Case.case _ _
