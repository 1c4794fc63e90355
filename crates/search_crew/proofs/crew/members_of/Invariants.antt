use Rattle.std.proofs.Common.{◌≡◌, ◌+◌, ◌++◌, [], All, length}
use Rattle.std.specs.Vec.Iter.{into_iter_items, into_iter_len}
use Rattle.bound_word.specs.Bounds.{IsSeatOf}
use Rattle.search_crew.specs.Crews.{AreThievesOf, EachOwes, IsOfCrew, owners_in}
use Rattle.search_crew.proofs.Dealing.{pushed_at}
use Rattle.task_deque.specs.Ends.{thief_log}
use Rattle.task_deque.specs.Rule.{log}
use Rattle.search_crew.proofs.crew.members_of.Given as goal

-- the deques before this one have their workers
abbrev pub invariant-loop-owner : goal.invariant-loop-owner
invariant-loop-owner g l =
    let case = g.C.Case.case in
    let all = into_iter_items l.initial.owner-iterator in
    record {
      yields : l.yielded ++ into_iter_items l.owner-iterator ≡ all;
      counted : into_iter_len l.owner-iterator ≡ length (into_iter_items l.owner-iterator);
      seat : IsSeatOf l.bound l.seat;
      lists : length l.all.items + length l.yielded ≡ length all;
      thieves : All (λ thieves. AreThievesOf all thieves.items × All (λ t. thief_log t ≡ log 1 [] []) thieves.items) l.all.items;
      owners : owners_in l.members.items ≡ l.yielded;
      crew : All (IsOfCrew l.bound all) l.members.items;
      owes : EachOwes case (g.S.Store.keeps case.problems) l.members.items (pushed_at all);
    }
