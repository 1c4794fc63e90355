use Rattle.std.proofs.Common.{[], arith}
use Rattle.search_worker.proofs.Law.{owes-risen}
use Rattle.search_worker.proofs.member.Member.work_while_it_finds.Goals as goal

pub returns-clause-owes : goal.returns-clause-owes
returns-clause-owes g c = λ given owes.
    let case = g.C.Case.case in
    owes-risen case _ given _ _ _ [] (λ k. omega (arith, c.finish.ensures.same k)) (c.in_ok-work_on.ensures.owes given (owes-risen case _ given _ _ _ [] (λ k. omega (arith, c.begin.ensures.same k)) owes))
