-- The letters of a tree, in tree order, cut at each cell whose last rank is at most the refuted rank. A rank is written as a
-- ordinal, one more than the rank, so that 0 is none.
use Rattle.std.specs.Prelude.{ℕ, zero, suc, ◌==◌, ◌||◌, nat_lt, if◌then◌else◌, Bool, List, [], ◌∷◌, ◌++◌, flat_map, Option, Some, None}
use Rattle.std.specs.Option.{option_to_list}
use Rattle.cell_split.specs.declared.cell.Task.{Task}
use Rattle.cell_split.specs.declared.verdict.Verdict.{Verdict}
use Rattle.cell_split.specs.declared.verdict.Verdict.TheVariants.{Outside, Proved, Refuted, Split, Open}
use Rattle.cell_split.specs.Judges.{Content}
use Rattle.cell_split.specs.Tree.{child_tasks, levels}
use Rattle.cell_split.specs.Verdicts.{is_split}

-- `k`, for a cell that is cut
abbrev pub cut : ℕ
cut = 107

-- `x`, `p`, `o` or `s`. A refuted cell has no letter, since none is above the refuted rank.
abbrev pub letter_of : Verdict → Option ℕ
letter_of Outside = Some 120
letter_of Proved = Some 112
letter_of (Refuted p) = None
letter_of (Open p) = Some 111
letter_of Split = Some 115

-- one of the five
abbrev pub is_letter : ℕ → Bool
is_letter b = (b == 107) || (b == 120) || (b == 112) || (b == 111) || (b == 115)

-- the letters below a task, down to a number of levels
unfoldable pub letters_to : ℕ → Content → ℕ → Task → List ℕ
letters_to zero c ordinal t = []
letters_to (suc n) c ordinal t =
    if nat_lt t.cell.last ordinal then cut ∷ []
    else option_to_list (letter_of (c.verdict t)) ++ (if is_split (c.verdict t) then flat_map (letters_to n c ordinal) (child_tasks t) else [])

-- the letters below a task, cut at the rank of this ordinal
unfoldable pub letters_of : Content → ℕ → Task → List ℕ
letters_of c ordinal t = letters_to (levels t.cell) c ordinal t
