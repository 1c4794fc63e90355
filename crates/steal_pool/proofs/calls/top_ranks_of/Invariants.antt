use Rattle.std.proofs.Common.{◌≡◌, ℕ, ◌<◌, ◌≤◌, None, length, slice_index_or}
use Rattle.plain_search.specs.declared.ranks_alone.TopRanks.{TopRanks}
use Rattle.steal_pool.proofs.Finding.{IsTopOf}
use Rattle.steal_pool.proofs.calls.top_ranks_of.Given as goal

-- the problems before this one have their ranks
abbrev pub invariant-loop-problem : goal.invariant-loop-problem
invariant-loop-problem g l = record {
  end : l.problem ≤ (g.J.Judge.content l.judge).problems;
  counted : length l.tops.items ≡ l.problem;
  each : (k : ℕ) (d : TopRanks) → k < l.problem → IsTopOf (slice_index_or l.found.ranks.items k None) (slice_index_or l.found.store.ranks.items k None) (slice_index_or l.tops.items k d);
}
