use Rattle.std.proofs.Common.{◌≡◌, ◌++◌, drop, length, rules, take}
use Rattle.std.proofs.lemmas.List.Elements.{All-weaker}
use Rattle.search_worker.specs.Workers.{IsMemberOf}
use Rattle.search_crew.specs.Crews.{IsOfCrew, owners_in}
use Rattle.search_crew.proofs.Places.{written_over}
use Rattle.steal_pool.proofs.Running.{crew_after, member_of, roots_after}
use Rattle.steal_pool.proofs.threads.run_crew.Goals as goal

pub run-requires-clause-members : goal.run-requires-clause-members
run-requires-clause-members g c κs within =
    let owners = owners_in c.args.members.now.items in
    rw c.as_mut_slice.ensures.value (All-weaker (IsOfCrew c.args.bound.now owners) (IsMemberOf c.args.bound.now) (member_of c.args.bound.now owners) c.args.members.now.items c.requires.crew)

pub returns-clause-crew : goal.returns-clause-crew
returns-clause-crew g c =
    let old = c.args.members.now.items in
    let new = c.run.new.members in
    let long : length new ≡ length old = search rules in
    let whole : take c.args.members.now.len (new ++ drop (length new) old) ≡ new = written_over new old c.args.members.now.len long (search rules) in
    rw whole (crew_after c.args.bound.now old new long (rw c.as_mut_slice.ensures.value at c.run.ensures.same) c.requires.crew)

pub returns-clause-owes : goal.returns-clause-owes
returns-clause-owes g c =
    let old = c.args.members.now.items in
    let new = c.run.new.members in
    let long : length new ≡ length old = search rules in
    let whole : take c.args.members.now.len (new ++ drop (length new) old) ≡ new = written_over new old c.args.members.now.len long (search rules) in
    let case = g.C.Case.case in
    rw whole (roots_after c.args.bound.now case (g.S.Store.keeps case.problems) old new long (rw c.as_mut_slice.ensures.value at c.run.ensures.owes))
