use Rattle.std.proofs.lemmas.Result.{on_ok_weaker}
use Rattle.search_worker.proofs.Law.{owes-leaf}
use Rattle.search_worker.proofs.worker.Worker.keep.Goals as goal

pub returns-clause-owes : goal.returns-clause-owes
returns-clause-owes g c =
    let case = g.C.Case.case in
    on_ok_weaker c.keep.result
    (λ kept logs given hand splits owes.
    owes-leaf case _ given _ _ _ _ hand c.args.leaf splits c.requires.leaf c.requires.task.known (kept case.problems) c.tell.ensures.risen c.tell.ensures.told owes)
    c.keep.ensures
