-- The lines of a calendar, after RFC 5545, section 3.1: they end with CR LF, and long ones are folded.
use Rattle.std.specs.Prelude.{ℕ, zero, suc, ◌==◌, ◌&&◌, ◌||◌, ◌++◌, if◌then◌else◌, Bool, false, List, [], ◌∷◌, flat_map, drop}

-- with a byte in front of the first piece
abbrev pub with_front : ℕ → List (List ℕ) → List (List ℕ)
with_front b [] = (b ∷ []) ∷ []
with_front b (piece ∷ pieces) = (b ∷ piece) ∷ pieces

-- CR LF is in front
abbrev pub is_cut : List ℕ → Bool
is_cut (b ∷ c ∷ rest) = (b == 13) && (c == 10)
is_cut _ = false

-- what stands before each CR LF, and behind the last of them
unfoldable pub pieces : List ℕ → List (List ℕ)
pieces [] = []
pieces (b ∷ []) = (b ∷ []) ∷ []
pieces (b ∷ c ∷ rest) = if (b == 13) && (c == 10) then [] ∷ pieces rest else with_front b (pieces (c ∷ rest))

-- a space or a tab is in front: the piece continues the line before it
abbrev pub is_continued : List ℕ → Bool
is_continued [] = false
is_continued (b ∷ piece) = (b == 32) || (b == 9)

-- the line that begins with these bytes, and the lines behind it
abbrev pub joined_from : List ℕ → List (List ℕ) → List (List ℕ)
joined_from line [] = line ∷ []
joined_from line (piece ∷ pieces) =
    if is_continued piece then joined_from (line ++ drop 1 piece) pieces else line ∷ joined_from piece pieces

abbrev pub joined : List (List ℕ) → List (List ℕ)
joined [] = []
joined (piece ∷ pieces) = joined_from piece pieces

-- the lines of a text: its pieces, each of those that continue a line joined to it without its first byte
unfoldable pub joined_lines : List ℕ → List (List ℕ)
joined_lines bytes = joined (pieces bytes)

-- the rest of a line and its CR LF, where so many bytes more fit before the line is folded
unfoldable pub folded_from : ℕ → List ℕ → List ℕ
folded_from room [] = 13 ∷ 10 ∷ []
folded_from zero (b ∷ bytes) = 13 ∷ 10 ∷ 32 ∷ b ∷ folded_from 73 bytes
folded_from (suc room) (b ∷ bytes) = b ∷ folded_from room bytes

-- A line as it is written: its first 75 bytes, then for each further 74 bytes CR LF, a space and those bytes; last CR LF.
unfoldable pub folded : List ℕ → List ℕ
folded line = folded_from 75 line

abbrev pub folded_lines : List (List ℕ) → List ℕ
folded_lines lines = flat_map folded lines
