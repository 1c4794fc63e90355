-- What a search by several workers gives.
use Rattle.std.specs.Prelude.{◌≡◌, ℕ, ◌<◌, ◌≤◌, List, length, Option, slice_index_or}
use Rattle.cell_split.specs.declared.verdict.Leaf.{Leaf}
use Rattle.cell_split.specs.Entries.{refuted_ordinal}
use Rattle.cell_split.specs.Judges.{Content}
use Rattle.cell_split.specs.Tree.{leaves, root_task}
use Rattle.plain_search.specs.declared.ranks_alone.TopRanks.{TopRanks}
use Rattle.plain_search.specs.Harvests.{IsHarvest, ordinal_of}
use Rattle.plain_search.specs.TopRanks.{AreTopOrdinals}

-- each is the ordinal of a rank at most the refuted one of its problem, or of none
abbrev pub AreFacts : Content → (ℕ → ℕ) → Type 0
AreFacts c ordinals = (k : ℕ) → k < c.problems → ordinals k ≤ refuted_ordinal (leaves c (root_task c k))

-- what is kept is what is kept of the leaves of a harvest
pub record IsFound (c : Content) (keeps : List Leaf → Type 0) (ranks : List (Option ℕ)) : Type 0 where
  pub kept : List Leaf
  pub held : keeps kept
  pub harvest : IsHarvest c ranks kept

-- each problem has the ordinals of its tree
pub record AreAllTopOrdinals (c : Content) (found : List TopRanks) : Type 0 where
  pub counted : length found ≡ c.problems
  pub each : (k : ℕ) (d : TopRanks) → k < c.problems → AreTopOrdinals (leaves c (root_task c k)) (ordinal_of (slice_index_or found k d).refuted) (ordinal_of (slice_index_or found k d).left_open)
