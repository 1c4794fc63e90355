-- Which leaves are looked for.
use Rattle.std.specs.Prelude.{ℕ, ◌+◌, ◌==◌, ◌&&◌, Bool, List, Option}
use Rattle.cell_split.specs.declared.verdict.Leaf.{Leaf}
use Rattle.cell_split.specs.declared.verdict.Verdict.{Verdict}
use Rattle.cell_split.specs.Entries.{first_open, last_ordinal, open_ordinal, refuted_ordinal}
use Rattle.cell_split.specs.Verdicts.{is_open, is_refuted}
use Rattle.covering.specs.declared.leaf_walk.Sought.{Sought}
use Rattle.covering.specs.declared.leaf_walk.Sought.TheVariants.{Open, Refuted}

abbrev pub fits : Sought → Verdict → Bool
fits Open v = is_open v
fits Refuted v = is_refuted v

-- the leaf fits, and its last rank is this one
abbrev pub is_sought : Sought → ℕ → Leaf → Bool
is_sought sought rank l = fits sought l.verdict && (last_ordinal l == rank + 1)

-- the first open leaf at the greatest open rank above the refuted rank
abbrev pub open_of : List Leaf → Option Leaf
open_of ls = first_open (open_ordinal (refuted_ordinal ls) ls) ls
