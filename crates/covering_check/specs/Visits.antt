-- The cells that a covering names, in tree order, and the letters that show them.
use Rattle.std.specs.Prelude.{◌≡◌, ◌≤◌, ℕ, zero, suc, ◌==◌, ◌&&◌, nat_lt, if◌then◌else◌, Bool, true, false, List, [], ◌∷◌, flat_map, Option, Some, None, unwrap_or, Result, Ok, Err}
use Rattle.cell_split.specs.declared.cell.Task.{Task}
use Rattle.cell_split.specs.declared.verdict.Leaf.{Leaf}
use Rattle.cell_split.specs.Entries.{is_open_above, last_ordinal}
use Rattle.cell_split.specs.Judges.{Content}
use Rattle.cell_split.specs.Tree.{child_tasks, leaf_of, levels}
use Rattle.cell_split.specs.Verdicts.{is_split}
use Rattle.covering.specs.Letters.{cut, letter_of}
use Rattle.covering_check.specs.declared.fault.CoverFault.{CoverFault}
use Rattle.covering_check.specs.declared.fault.CoverFault.TheVariants.{NotShown, Short}
use Rattle.covering_check.specs.declared.mark.Mark.{Mark}
use Rattle.covering_check.specs.Gives.{◌>>=◌}
use Rattle.covering_check.specs.Marks.{Marks}

-- The cells below a task that a covering names, with their verdicts, down to a number of levels: a cell whose last rank is below
-- the ordinal is cut, and nothing below it is named.
unfoldable pub visited_to : ℕ → Content → ℕ → Task → List Leaf
visited_to zero c ordinal t = []
visited_to (suc n) c ordinal t =
    leaf_of c t ∷ (if nat_lt t.cell.last ordinal then []
    else (if is_split (c.verdict t) then flat_map (visited_to n c ordinal) (child_tasks t) else []))

unfoldable pub visited : Content → ℕ → Task → List Leaf
visited c ordinal t = visited_to (levels t.cell) c ordinal t

-- the letter that shows a cell: none shows a refuted one above the refuted rank
abbrev pub letter_for : ℕ → Leaf → Option ℕ
letter_for ordinal l = if nat_lt l.task.cell.last ordinal then Some cut else letter_of l.verdict

-- the letter is the one that shows the cell
abbrev pub is_letter_for : Option ℕ → ℕ → Bool
is_letter_for None letter = false
is_letter_for (Some right) letter = letter == right

-- the fault where a letter is needed and none can be read
abbrev pub fault_at : Option CoverFault → CoverFault
fault_at end = unwrap_or end Short

-- the letters behind the one that shows a cell, or the fault there
abbrev pub taken_by : Option ℕ → List Mark → Option CoverFault → Result Marks CoverFault
taken_by right [] end = Err (fault_at end)
taken_by right (m ∷ marks) end = if is_letter_for right m.letter then Ok (record { marks = marks; end = end }) else Err (NotShown m.place)

-- the letters behind those that show the cells, or the first fault
abbrev pub taken : ℕ → List Leaf → Marks → Result Marks CoverFault
taken ordinal [] m = Ok m
taken ordinal (l ∷ ls) m = taken_by (letter_for ordinal l) m.marks m.end >>= taken ordinal ls

-- ---- the open cells

-- the cell is at a later rank than what was found
abbrev pub is_later : Option Leaf → Leaf → Bool
is_later None l = true
is_later (Some m) l = nat_lt (last_ordinal m) (last_ordinal l)

-- what is found with one cell more: the first open one of the latest rank above the ordinal
abbrev pub later_open : ℕ → Option Leaf → Leaf → Option Leaf
later_open ordinal o l = if is_open_above ordinal l && is_later o l then Some l else o

abbrev pub latest_open : ℕ → Option Leaf → List Leaf → Option Leaf
latest_open ordinal o [] = o
latest_open ordinal o (l ∷ ls) = latest_open ordinal (later_open ordinal o l) ls

-- what a walk answers: what it found, and the letters that are left, or the first fault
abbrev pub Walks : ℕ → List Leaf → Option Leaf → Marks → Marks → Result (Option Leaf) CoverFault → Type 0
Walks ordinal cells open' before after (Ok found) =
    (taken ordinal cells before ≡ Ok after) × (found ≡ latest_open ordinal open' cells)
Walks ordinal cells open' before after (Err e) = taken ordinal cells before ≡ Err e

-- it is a frame's rank
abbrev pub IsInFrame : Option Leaf → Type 0
IsInFrame None = Unit {0}
IsInFrame (Some l) = last_ordinal l ≤ 721
