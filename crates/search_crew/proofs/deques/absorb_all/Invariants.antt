use Rattle.std.proofs.Common.{◌≡◌, ◌+◌, ◌++◌, All, length}
use Rattle.std.specs.List.{flat_map}
use Rattle.std.specs.Vec.Iter.{into_iter_items, into_iter_len}
use Rattle.search_worker.specs.Workers.{logs_of}
use Rattle.search_crew.specs.Crews.{AreThievesOf, IsPartOfOne, SameOwners, WeighAs, owner_logs}
use Rattle.task_deque.specs.Ends.{owner_log}
use Rattle.task_deque.specs.Rule.{all_parts}
use Rattle.search_crew.proofs.deques.absorb_all.Given as goal

-- the lists before this one are taken in
abbrev pub invariant-loop-thieves : goal.invariant-loop-thieves
invariant-loop-thieves g l =
    let left = into_iter_items l.thieves-iterator in
    record {
      counted : into_iter_len l.thieves-iterator ≡ length left;
      same : SameOwners l.initial.owners.items l.owners.items;
      thieves : All (λ thieves. AreThievesOf l.initial.owners.items thieves.items × All IsPartOfOne thieves.items) left;
      parts : All (λ o. (owner_log o).parts + length left ≡ all_parts) l.owners.items;
      weigh : WeighAs (owner_logs l.owners.items ++ flat_map (λ thieves. logs_of thieves.items) left)
          (owner_logs l.initial.owners.items ++ flat_map (λ thieves. logs_of thieves.items) (into_iter_items l.initial.thieves-iterator));
    }
