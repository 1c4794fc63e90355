-- The texts of minutes and entries: six characters each.
use Rattle.std.specs.Prelude.{◌≡◌, ◌≤◌, ◌+◌, ℕ, ◌/◌, ◌%◌, ◌++◌, ◌==◌, if◌then◌else◌, ℤ, pos, ◌+ℤ◌, int_lt, unsigned_abs, List, Option, Some, None, codes}
use Rattle.std.specs.Int.{int_rem_euclid}
use Rattle.cell_split.specs.declared.verdict.Entry.{Entry}
use Rattle.cell_split.specs.declared.verdict.Entry.TheVariants.{Minute, Never, Open, Whole}
use Rattle.method_table.specs.Row.{Row, minute_of}
use Rattle.year_table.specs.Dates.{two_digits}

-- `-` before the day, a space in it, `+` after it
abbrev pub mark_of : ℤ → List ℕ
mark_of minute = if int_lt minute (pos 0) then codes "-" else (if int_lt minute (pos 1440) then codes " " else codes "+")

abbrev pub minute_of_clock : ℤ → ℕ
minute_of_clock minute = unsigned_abs (int_rem_euclid minute (pos 1440))

-- a mark and HH:MM
abbrev pub minute_text : ℤ → List ℕ
minute_text minute =
    mark_of minute ++ two_digits (minute_of_clock minute / 60) ++ codes ":" ++ two_digits (minute_of_clock minute % 60)

-- the text of a minute, if there is one
abbrev pub given_text : Option ℤ → List ℕ
given_text (Some minute) = minute_text minute
given_text None = codes " --:--"

-- the minute of a rank, with the shift
abbrev pub printed_minute : Row → ℕ → ℤ
printed_minute p rank = minute_of p rank +ℤ p.shift

-- the text of a rank; the rank after the frame's last has no minute
abbrev pub rank_text : Row → ℕ → List ℕ
rank_text p rank = if rank == 721 then codes " --:--" else minute_text (printed_minute p rank)

abbrev pub entry_text : Row → Entry → List ℕ
entry_text p (Minute rank) = rank_text p rank
entry_text p Whole = codes " **:**"
entry_text p Never = codes " --:--"
entry_text p (Open safe from cell) = codes " ??:??"

-- the entry's ranks are a frame's
abbrev pub IsInFrame : Entry → Type 0
IsInFrame (Minute rank) = rank ≤ 720
IsInFrame Whole = Unit {0}
IsInFrame Never = Unit {0}
IsInFrame (Open safe from cell) = (safe ≤ 721) × (from ≤ 720)

-- the entry is open, at a cell of the one rank before the safe ones
abbrev pub IsOpenAtOneRank : Entry → Type 0
IsOpenAtOneRank (Open safe from cell) = (safe ≤ 721) × (from ≤ 720) × (cell.first + 1 ≡ safe) × (cell.last ≡ cell.first)
IsOpenAtOneRank _ = ⊥
