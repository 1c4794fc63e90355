-- The entry of a tree, over its leaves in tree order. A rank is written as an ordinal, one more than the rank, so that 0 is none.
use Rattle.std.specs.Prelude.{ℕ, ◌+◌, ◌==◌, nat_lt, max, ◌&&◌, if◌then◌else◌, Bool, List, [], ◌∷◌, Option, Some, None, find}
use Rattle.cell_split.specs.declared.verdict.Entry.{Entry}
use Rattle.cell_split.specs.declared.verdict.Entry.TheVariants.{Minute, Whole, Never, Open}
use Rattle.cell_split.specs.declared.verdict.Leaf.{Leaf}
use Rattle.cell_split.specs.Verdicts.{is_open, is_refuted}

-- the ordinal of the leaf's last rank
abbrev pub last_ordinal : Leaf → ℕ
last_ordinal l = l.task.cell.last + 1

-- the ordinal of the greatest last rank of the leaves that pass
abbrev pub greatest_ordinal : (Leaf → Bool) → List Leaf → ℕ
greatest_ordinal test [] = 0
greatest_ordinal test (l ∷ ls) = max (if test l then last_ordinal l else 0) (greatest_ordinal test ls)

-- the ordinal of the greatest refuted rank
abbrev pub refuted_ordinal : List Leaf → ℕ
refuted_ordinal ls = greatest_ordinal (λ l. is_refuted l.verdict) ls

-- the leaf is open, above the rank of this ordinal
abbrev pub is_open_above : ℕ → Leaf → Bool
is_open_above ordinal l = is_open l.verdict && nat_lt ordinal (last_ordinal l)

-- the ordinal of the greatest open rank above the rank of this ordinal
abbrev pub open_ordinal : ℕ → List Leaf → ℕ
open_ordinal ordinal ls = greatest_ordinal (is_open_above ordinal) ls

-- the first open leaf at the rank of this ordinal
abbrev pub first_open : ℕ → List Leaf → Option Leaf
first_open ordinal ls = find (λ l. is_open l.verdict && (last_ordinal l == ordinal)) ls

-- nothing is open above the refuted rank
abbrev pub decided : ℕ → Entry
decided ordinal = if ordinal == 0 then Whole else (if ordinal == 721 then Never else Minute ordinal)

abbrev pub entry_by : ℕ → Option Leaf → Entry
entry_by ordinal None = decided ordinal
entry_by ordinal (Some l) = Open (last_ordinal l) ordinal l.task.cell

-- The entry: the first open leaf of the greatest open rank above the refuted rank, or else what the refuted rank says.
abbrev pub entry_of : List Leaf → Entry
entry_of ls = let ordinal = refuted_ordinal ls in
    entry_by ordinal (first_open (open_ordinal ordinal ls) ls)
