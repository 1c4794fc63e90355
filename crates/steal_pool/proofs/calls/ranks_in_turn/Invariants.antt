use Rattle.std.proofs.Common.{◌≡◌, ℕ, ◌<◌, ◌≤◌, length, slice_index_or}
use Rattle.cell_split.specs.Tree.{leaves, root_task}
use Rattle.plain_search.specs.declared.ranks_alone.TopRanks.{TopRanks}
use Rattle.plain_search.specs.Harvests.{ordinal_of}
use Rattle.plain_search.specs.TopRanks.{AreTopOrdinals}
use Rattle.steal_pool.proofs.calls.ranks_in_turn.Given as goal

-- the problems before this one have their ranks
abbrev pub invariant-loop-problem : goal.invariant-loop-problem
invariant-loop-problem g l =
    let content = g.J.Judge.content l.judge in
    record {
      end : l.problem ≤ content.problems;
      counted : length l.found.items ≡ l.problem;
      each : (k : ℕ) (d : TopRanks) → k < l.problem → AreTopOrdinals (leaves content (root_task content k)) (ordinal_of (slice_index_or l.found.items k d).refuted) (ordinal_of (slice_index_or l.found.items k d).left_open);
    }
