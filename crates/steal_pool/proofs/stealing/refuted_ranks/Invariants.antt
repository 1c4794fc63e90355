use Rattle.std.proofs.Common.{◌≡◌, ℕ, ◌<◌, ◌≤◌, length}
use Rattle.bound_word.specs.Bounds.{IsSeatOf, seen}
use Rattle.cell_split.specs.Entries.{refuted_ordinal}
use Rattle.cell_split.specs.Tree.{leaves, root_task}
use Rattle.plain_search.specs.Harvests.{ordinals_of}
use Rattle.steal_pool.proofs.stealing.refuted_ranks.Given as goal

-- the problems before this one have what was seen of them, and of the others no more was seen
abbrev pub invariant-loop-problem : goal.invariant-loop-problem
invariant-loop-problem g l =
    let case = g.C.Case.case in
    record {
      end : l.problem ≤ case.problems;
      seat : IsSeatOf l.bound l.seat;
      counted : length l.ranks.items ≡ l.problem;
      unread : (k : ℕ) → l.problem ≤ k → seen l.seat k ≡ seen l.initial.seat k;
      seen : (k : ℕ) → k < l.problem → seen l.initial.seat k ≤ ordinals_of l.ranks.items k;
      facts : (k : ℕ) → k < l.problem → ordinals_of l.ranks.items k ≤ refuted_ordinal (leaves case (root_task case k));
    }
