use Rattle.std.proofs.Common.{◌≡◌, ◌≤◌, [], All, length}
use Rattle.task_deque.specs.Ends.{owner_log}
use Rattle.task_deque.specs.Rule.{all_parts, log}
use Rattle.search_crew.proofs.deques.owners_of.Given as goal

abbrev pub invariant-loop : goal.invariant-loop
invariant-loop g l = record {
  few : l.counter ≤ l.workers;
  counted : length l.owners.items ≡ l.counter;
  blank : All (λ o. owner_log o ≡ log all_parts [] []) l.owners.items;
}
