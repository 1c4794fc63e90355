-- The greatest open rank of each problem among leaves.
use Rattle.std.specs.Prelude.{◌≡◌, ℕ, ◌<◌, ◌==◌, ◌&&◌, Bool, List, length, Option}
use Rattle.cell_split.specs.declared.verdict.Leaf.{Leaf}
use Rattle.cell_split.specs.Entries.{greatest_ordinal}
use Rattle.cell_split.specs.Verdicts.{is_open}
use Rattle.plain_search.specs.Harvests.{ordinals_of}

-- the leaf is an open one of problem k
abbrev pub is_open_at : ℕ → Leaf → Bool
is_open_at k l = (l.task.problem == k) && is_open l.verdict

pub record AreOpenRanks (problems : ℕ) (ranks : List (Option ℕ)) (kept : List Leaf) : Type 0 where
  pub counted : length ranks ≡ problems
  pub greatest : (k : ℕ) → k < problems → ordinals_of ranks k ≡ greatest_ordinal (is_open_at k) kept
