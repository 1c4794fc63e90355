use Rattle.std.proofs.Common.{◌≡◌, ℕ, ◌<◌, ◌≤◌, length, max}
use Rattle.plain_search.specs.Harvests.{ordinals_of}
use Rattle.search_worker.proofs.open_ranks.OpenRanksStore.join.Given as goal

-- the ranks of the problems before this one are taken in
abbrev pub invariant-loop-problem : goal.invariant-loop-problem
invariant-loop-problem l = record {
  counted : length l.self.ranks.items ≡ length l.initial.self.ranks.items;
  before : (k : ℕ) → k < l.problem → k < length l.initial.self.ranks.items → ordinals_of l.self.ranks.items k ≡ max (ordinals_of l.initial.self.ranks.items k) (ordinals_of l.fn.other.ranks.items k);
  behind : (k : ℕ) → l.problem ≤ k → ordinals_of l.self.ranks.items k ≡ ordinals_of l.initial.self.ranks.items k;
}
