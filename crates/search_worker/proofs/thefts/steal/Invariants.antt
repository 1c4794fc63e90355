use Rattle.std.proofs.Common.{◌≡◌, length, map}
use Rattle.crossbeam_deque.specs.Handles.{stealer_deque}
use Rattle.search_worker.specs.Workers.{logs_of, parts_of}
use Rattle.search_worker.proofs.thefts.steal.Given as goal

-- nothing was taken so far
abbrev pub invariant-loop-i : goal.invariant-loop-i
invariant-loop-i g l = record {
  counted : length l.thieves.items ≡ length l.initial.thieves.items;
  deques : map (λ t. stealer_deque t.stealer) l.thieves.items ≡ map (λ t. stealer_deque t.stealer) l.initial.thieves.items;
  parts : parts_of l.thieves.items ≡ parts_of l.initial.thieves.items;
  logs : logs_of l.thieves.items ≡ logs_of l.initial.thieves.items;
}
