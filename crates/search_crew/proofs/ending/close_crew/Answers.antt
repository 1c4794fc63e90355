use Rattle.std.proofs.Common.{◌≡◌, ℕ, [], ap, ◌∙◌, subst}
use Rattle.cell_split.specs.Judges.{Content}
use Rattle.search_crew.specs.Crews.{roots_to}
use Rattle.search_crew.specs.Endings.{JoinedOwes}
use Rattle.search_crew.proofs.ending.close_crew.Goals as goal

pub returns-clause-owes : goal.returns-clause-owes
returns-clause-owes g c = λ roots.
    let case = g.C.Case.case in
    let problems : c.problems.result ≡ case.problems = c.problems.ensures ∙ ap (λ (j : Content). j.problems) c.requires.case in
    let owes = c.in_ok-joined.ensures.owes _ (c.in_ok-ended.ensures.owes roots) in
    subst (λ (n : ℕ). JoinedOwes case (g.S.Store.keeps case.problems) c.in_ok-joined.joined [] (roots_to n case)) problems owes
