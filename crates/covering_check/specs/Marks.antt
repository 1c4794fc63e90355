-- The letters of a text, each with its place, and how the text ends.
use Rattle.std.specs.Prelude.{ℕ, zero, suc, ◌+◌, ◌*◌, ◌==◌, ◌&&◌, not, nat_lt, if◌then◌else◌, Bool, List, [], ◌∷◌, codes, Option, Some, None, option_map, option_and_then}
use Rattle.std.specs.Char.{digit_value, is_ascii_digit}
use Rattle.covering.specs.Letters.{is_letter}
use Rattle.serde_json.specs.Data.{Data}
use Rattle.serde_json.specs.Find.{get, as_str}
use Rattle.covering_check.specs.declared.fault.CoverFault.{CoverFault}
use Rattle.covering_check.specs.declared.fault.CoverFault.TheVariants.{Letter, Short}
use Rattle.covering_check.specs.declared.mark.Mark.{Mark}

-- The letters that can be read, and the fault of what comes behind them; none where the text ends there.
pub record Marks : Type 0 where
  pub marks : List Mark
  pub end : Option CoverFault

-- no letter can be read
abbrev pub ends : Option CoverFault → Marks
ends fault = record { marks = []; end = fault }

-- one letter first
abbrev pub with_mark : Mark → Marks → Marks
with_mark m rest = record { marks = m ∷ rest.marks; end = rest.end }

-- so many times the same letter first
abbrev pub with_marks : ℕ → Mark → Marks → Marks
with_marks zero m rest = rest
with_marks (suc n) m rest = with_mark m (with_marks n m rest)

-- the byte is a digit that a count of at most so many may go on with; none begins with 0
abbrev pub goes_on : ℕ → ℕ → ℕ → Bool
goes_on most digits byte =
    is_ascii_digit byte && (nat_lt digits most && not ((digits == 0) && (byte == 48)))

-- The letters of a text from a place on, behind so many digits of a count that has this value. A run is a count of at most `most`
-- digits and one letter; no count means 1. With no digits allowed these are the letters one by one.
unfoldable pub marks_from : ℕ → ℕ → ℕ → ℕ → List ℕ → Marks
marks_from most digits count place [] = ends (if digits == 0 then None else Some Short)
marks_from most digits count place (byte ∷ bytes) =
    if is_letter byte then with_marks (if digits == 0 then 1 else count) (record { letter = byte; place = place }) (marks_from most 0 0 (place + 1) bytes)
    else (if goes_on most digits byte then marks_from most (digits + 1) (count * 10 + digit_value byte) (place + 1) bytes
    else ends (Some (Letter place)))

-- the letters one by one
abbrev pub tree_marks : List ℕ → Marks
tree_marks text = marks_from 0 0 0 0 text

-- the letters in runs, whose counts have at most nine digits
abbrev pub runs_marks : List ℕ → Marks
runs_marks text = marks_from 9 0 0 0 text

-- the letters of a line: in runs where it has a member `runs`, else one by one
abbrev pub marks_by : Option Data → Option Data → Option Marks
marks_by (Some runs) tree = option_map runs_marks (as_str runs)
marks_by None tree = option_map tree_marks (option_and_then as_str tree)

unfoldable pub marks_in : Data → Option Marks
marks_in d = marks_by (get (codes "runs") d) (get (codes "tree") d)
