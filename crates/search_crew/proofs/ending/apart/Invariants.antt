use Rattle.std.proofs.Common.{◌≡◌, ℕ, List, ◌++◌, All, length}
use Rattle.std.specs.List.{flat_map}
use Rattle.std.specs.Vec.Iter.{into_iter_items, into_iter_len}
use Rattle.bound_word.specs.Bounds.{IsSeatOf}
use Rattle.search_worker.specs.Workers.{logs_of}
use Rattle.search_crew.specs.Crews.{AreThievesOf, EachOwes, IsPartOfOne, given_to, owner_logs, owners_in}
use Rattle.search_crew.specs.Endings.{JoinedOwes}
use Rattle.task_deque.specs.declared.job.Job.{Job}
use Rattle.search_crew.proofs.ending.apart.Given as goal

-- the workers before this one are taken apart
abbrev pub invariant-loop-member : goal.invariant-loop-member
invariant-loop-member g l =
    let case = g.C.Case.case in
    let keeps = g.S.Store.keeps case.problems in
    let all = into_iter_items l.initial.member-iterator in
    record {
      yields : l.yielded ++ into_iter_items l.member-iterator ≡ all;
      counted : into_iter_len l.member-iterator ≡ length (into_iter_items l.member-iterator);
      seat : IsSeatOf l.bound l.joined.seat;
      owners : l.owners.items ≡ owners_in l.yielded;
      lists : length l.thieves.items ≡ length l.yielded;
      thieves : All (λ thieves. AreThievesOf (owners_in all) thieves.items × All IsPartOfOne thieves.items) l.thieves.items;
      owes : (given : ℕ → List Job) → EachOwes case keeps all given
          → JoinedOwes case keeps l.joined (owner_logs l.owners.items ++ flat_map (λ thieves. logs_of thieves.items) l.thieves.items) (given_to given (length l.yielded));
    }
