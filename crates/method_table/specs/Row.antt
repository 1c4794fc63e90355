-- A row of the table for one day, and what its ranks stand for.
use Rattle.std.specs.Prelude.{ℕ, ℤ, pos, ◌+ℤ◌, ◌-ℤ◌, List, codes}
use Rattle.method_table.specs.declared.problem.Column.{Column}
use Rattle.method_table.specs.declared.problem.Column.TheVariants.{Fajr, FajrEnd, Dhuhr, Asr, Maghrib, MaghribEnd, Isha}
use Rattle.method_table.specs.declared.problem.Kind.{Kind}
use Rattle.method_table.specs.declared.problem.Kind.TheVariants.{Above, Below}
use Rattle.method_table.specs.declared.problem.Problem.{Problem}
use Rattle.method_table.specs.declared.problem.Side.{Side}
use Rattle.method_table.specs.declared.problem.Side.TheVariants.{Start, End}

abbrev pub column_word : Column → List ℕ
column_word Fajr = codes "fajr"
column_word FajrEnd = codes "fajr_end"
column_word Dhuhr = codes "dhuhr"
column_word Asr = codes "asr"
column_word Maghrib = codes "maghrib"
column_word MaghribEnd = codes "maghrib_end"
column_word Isha = codes "isha"

-- a problem without the proofs of its rule: first and last are the local minutes of its frame
pub record Row : Type 0 where
  pub column : Column
  pub side : Side
  pub first : ℤ
  pub last : ℤ
  pub base : ℤ
  pub kind : Kind
  pub shift : ℤ

abbrev pub row_of : Problem → Row
row_of p = record { column = p.column; side = p.side; first = p.first; last = p.last; base = p.base; kind = p.kind; shift = p.shift }

-- every frame is 720 minutes long
abbrev pub row : Column → Side → ℤ → ℤ → Kind → ℤ → Row
row column side first base kind shift =
    record { column = column; side = side; first = first; last = first +ℤ pos 720; base = base; kind = kind; shift = shift }

-- the conditions of a range of angles
abbrev pub above : ℤ × ℤ → Kind
above range = Above range.0 range.1

abbrev pub below : ℤ × ℤ → Kind
below range = Below range.0 range.1

-- the local minute of a rank: ranks of a start rise from the frame's first minute, those of an end fall from its last
abbrev pub minute_at : Side → ℤ → ℤ → ℕ → ℤ
minute_at Start first last rank = first +ℤ pos rank
minute_at End first last rank = last -ℤ pos rank

abbrev pub minute_of : Row → ℕ → ℤ
minute_of p rank = minute_at p.side p.first p.last rank

-- the minute since 2000-01-01 12:00 Universal Time of a rank
abbrev pub time_of : Row → ℕ → ℤ
time_of p rank = p.base +ℤ minute_of p rank
