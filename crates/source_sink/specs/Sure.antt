-- Sinks in memory that never fail.
use Rattle.std.specs.Prelude.{ℕ, ◌-◌, Bool, ◌||◌, nat_lt, if◌then◌else◌, List, ◌++◌, length, take, Option, None, Some}

-- the bytes kept, the most that it has room for, and whether a byte was dropped
pub record Kept : Type 0 where
  pub bytes : List ℕ
  pub capacity : ℕ
  pub has_dropped : Bool

-- it tells its bytes until it has dropped one
abbrev pub told_of : Kept → Option (List ℕ)
told_of s = if s.has_dropped then None else Some s.bytes

-- a piece is taken whole: what there is room for is kept, and the rest dropped
abbrev pub kept_after : Kept → List ℕ → Kept
kept_after s piece = record s {
  bytes = s.bytes ++ take (s.capacity - length s.bytes) piece;
  has_dropped = s.has_dropped || nat_lt (s.capacity - length s.bytes) (length piece);
}
