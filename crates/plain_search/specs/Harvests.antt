-- What a search gives for the trees of a judge: for each problem the greatest refuted rank, and the leaves above it.
use Rattle.std.specs.Prelude.{◌≡◌, ℕ, ◌+◌, ◌<◌, nat_lt, Bool, List, length, filter, sum_by, All, Contains, Option, Some, None, slice_index_or}
use Rattle.cell_split.specs.declared.verdict.Leaf.{Leaf}
use Rattle.cell_split.specs.Judges.{Content}
use Rattle.cell_split.specs.Tree.{root_task, leaves, all_leaves}
use Rattle.cell_split.specs.Entries.{last_ordinal, refuted_ordinal}

-- a rank as an ordinal: one more than the rank, 0 for none
abbrev pub ordinal_of : Option ℕ → ℕ
ordinal_of None = 0
ordinal_of (Some rank) = rank + 1

-- the ordinal of each problem, where these are their ranks
abbrev pub ordinals_of : List (Option ℕ) → ℕ → ℕ
ordinals_of ranks k = ordinal_of (slice_index_or ranks k None)

-- the leaf's last rank is above the rank of its problem
abbrev pub is_above : (ℕ → ℕ) → Leaf → Bool
is_above ordinals x = nat_lt (ordinals x.task.problem) (last_ordinal x)

pub record IsHarvest (c : Content) (ranks : List (Option ℕ)) (found : List Leaf) : Type 0 where
  pub counted : length ranks ≡ c.problems
  -- each problem has the greatest refuted rank of its tree
  pub refuted : (k : ℕ) → k < c.problems → ordinals_of ranks k ≡ refuted_ordinal (leaves c (root_task c k))
  -- Each leaf above it stands here as often as in the trees, with its verdict: whatever the leaves weigh, they weigh the same.
  pub above : (weight : Leaf → ℕ) → sum_by weight (filter (is_above (ordinals_of ranks)) found) ≡ sum_by weight (filter (is_above (ordinals_of ranks)) (all_leaves c))
  -- the others are leaves of the trees too
  pub others : All (Contains (all_leaves c)) found
