-- What a search keeps of a problem where no leaf is asked for: its refuted rank, and the greatest open rank above it. Ranks are
-- written as ordinals.
use Rattle.std.specs.Prelude.{◌≡◌, ℕ, ◌≤◌, ◌==◌, ◌&&◌, nat_lt, max, if◌then◌else◌, Bool, List}
use Rattle.cell_split.specs.declared.verdict.Leaf.{Leaf}
use Rattle.cell_split.specs.Entries.{is_open_above, open_ordinal, refuted_ordinal}

-- the ordinal if it is above this one, else none
abbrev pub above : ℕ → ℕ → ℕ
above ordinal w = if nat_lt ordinal w then w else 0

-- an open leaf of the problem, above the rank of this ordinal
abbrev pub is_open_of : ℕ → ℕ → Leaf → Bool
is_open_of problem ordinal l = (l.task.problem == problem) && is_open_above ordinal l

-- Of these leaves the ordinals of the refuted rank and of the greatest open one were taken in, which were `refuted` and `opened`
-- before.
pub record Rises (all : List Leaf) (refuted opened refuted_after opened_after : ℕ) : Type 0 where
  -- the refuted rank is raised to the greatest one of the leaves
  pub raised : refuted_after ≡ max refuted (refuted_ordinal all)
  -- and so is the open one, as far as it is above the refuted rank
  pub risen : (ordinal : ℕ) → refuted_after ≤ ordinal → above ordinal opened_after ≡ max (above ordinal opened) (open_ordinal ordinal all)

-- these are the ordinals of a problem's leaves
pub record AreTopOrdinals (all : List Leaf) (refuted opened : ℕ) : Type 0 where
  pub greatest_refuted : refuted ≡ refuted_ordinal all
  pub greatest_open : opened ≡ open_ordinal (refuted_ordinal all) all
