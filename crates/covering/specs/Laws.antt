-- What is true of the letters of every tree.
use Rattle.std.specs.Prelude.{◌≡◌, ℕ, nat_lt, if◌then◌else◌, [], ◌∷◌, ◌++◌, flat_map}
use Rattle.std.specs.Option.{option_to_list}
use Rattle.cell_split.specs.declared.cell.Task.{Task}
use Rattle.cell_split.specs.Judges.{Content}
use Rattle.cell_split.specs.Tree.{child_tasks}
use Rattle.cell_split.specs.Verdicts.{is_split}
use Rattle.covering.specs.Letters.{cut, letter_of, letters_of}

-- a cut cell has one letter, a split cell its letter and then those of its children, and any other cell its letter alone
abbrev pub LettersAreThoseOfTheChildren : Type 0
LettersAreThoseOfTheChildren =
    (c : Content) (ordinal : ℕ) (t : Task) → letters_of c ordinal t ≡ (if nat_lt t.cell.last ordinal then cut ∷ []
    else option_to_list (letter_of (c.verdict t)) ++ (if is_split (c.verdict t) then flat_map (letters_of c ordinal) (child_tasks t) else []))
