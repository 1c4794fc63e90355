-- What is kept of a part of a tree, and of the trees of problems that follow each other.
use Rattle.std.specs.Prelude.{◌≡◌, ℕ, ◌<◌, ◌≤◌, ◌++◌, max, List, length, filter, sum_by, All, Contains, Option}
use Rattle.cell_split.specs.declared.verdict.Leaf.{Leaf}
use Rattle.cell_split.specs.Judges.{Content}
use Rattle.cell_split.specs.Tree.{all_leaves_to, leaves, root_task}
use Rattle.cell_split.specs.Entries.{refuted_ordinal}
use Rattle.plain_search.specs.Harvests.{is_above, ordinals_of}

-- Of these leaves of problem k some were kept in any order, behind those found earlier. The ordinal of the refuted rank was `before`, and is `after`.
pub record Collects (k : ℕ) (all : List Leaf) (before after : ℕ) (earlier found : List Leaf) : Type 0 where
  pub kept : List Leaf
  pub behind : found ≡ earlier ++ kept
  -- the refuted rank is raised to the greatest one of the leaves
  pub ordinal : after ≡ max before (refuted_ordinal all)
  -- above it none was left out, and none kept twice: whatever the leaves weigh, they weigh the same
  pub above : (ordinals : ℕ → ℕ) → after ≤ ordinals k → (weight : Leaf → ℕ) → sum_by weight (filter (is_above ordinals) kept) ≡ sum_by weight (filter (is_above ordinals) all)
  pub part : All (Contains all) kept

-- the first n problems are searched
pub record Searched (c : Content) (n : ℕ) (ranks : List (Option ℕ)) (found : List Leaf) : Type 0 where
  pub counted : length ranks ≡ n
  pub refuted : (k : ℕ) → k < n → ordinals_of ranks k ≡ refuted_ordinal (leaves c (root_task c k))
  pub above : (ordinals : ℕ → ℕ) → ((k : ℕ) → k < n → ordinals_of ranks k ≤ ordinals k) → (weight : Leaf → ℕ) → sum_by weight (filter (is_above ordinals) found) ≡ sum_by weight (filter (is_above ordinals) (all_leaves_to n c))
  pub part : All (Contains (all_leaves_to n c)) found
