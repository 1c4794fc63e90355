use Rattle.std.proofs.Common.{[], ◌∷◌}
use Rattle.std.proofs.lemmas.List.Elements.{All-from_recursion}
use Rattle.task_deque.specs.Rule.{IsJob}
use Rattle.task_deque.proofs.Moves.{puts}
use Rattle.task_deque.proofs.handles.Owner.push.Goals as goal

pub push_as-requires-clause-pushes : goal.push_as-requires-clause-pushes
push_as-requires-clause-pushes g c =
    let case = g.C.Case.case in
    puts case _ _ (c.args.job ∷ []) c.requires.part (All-from_recursion (IsJob case) (c.args.job ∷ []) (c.requires.job, tt))
