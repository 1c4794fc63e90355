use Rattle.std.proofs.Common.{◌≡◌, ◌-◌, ◌≤◌, [], All, length}
use Rattle.search_crew.specs.Crews.{AreThievesOf, SameOwners}
use Rattle.task_deque.specs.Ends.{owner_log, thief_log}
use Rattle.task_deque.specs.Rule.{all_parts, log}
use Rattle.search_crew.proofs.deques.thieves_for_all.Given as goal

abbrev pub invariant-loop : goal.invariant-loop
invariant-loop g l = record {
  few : l.counter ≤ length l.initial.owners.items;
  counted : length l.all.items ≡ l.counter;
  same : SameOwners l.initial.owners.items l.owners.items;
  thieves : All (λ thieves. AreThievesOf l.initial.owners.items thieves.items × All (λ t. thief_log t ≡ log 1 [] []) thieves.items) l.all.items;
  owners : All (λ o. owner_log o ≡ log (all_parts - l.counter) [] []) l.owners.items;
}
