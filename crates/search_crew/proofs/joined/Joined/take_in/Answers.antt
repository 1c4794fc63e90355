use Rattle.search_crew.proofs.Joining.{owes-both}
use Rattle.search_crew.proofs.joined.Joined.take_in.Goals as goal

pub returns-clause-owes : goal.returns-clause-owes
returns-clause-owes g c = λ logs others given more first second.
    let case = g.C.Case.case in
    let keeps = g.S.Store.keeps case.problems in
    owes-both case _ _ _ _ _ _ logs others given more c.join.ensures.both (c.in_ok-join.ensures case.problems) first second
