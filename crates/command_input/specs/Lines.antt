-- A text cut into lines: each ends at an LF, the last one perhaps without it. Behind the last line stand empty ones.
use Rattle.std.specs.Prelude.{ℕ, suc, ◌+◌, ◌==◌, if◌then◌else◌, List, [], ◌∷◌, take, drop}

-- how many bytes stand before the first LF, or in all
abbrev pub line_length : List ℕ → ℕ
line_length [] = 0
line_length (byte ∷ bytes) = if byte == 10 then 0 else suc (line_length bytes)

-- without its LF
abbrev pub first_line : List ℕ → List ℕ
first_line text = take (line_length text) text

abbrev pub behind_line : List ℕ → List ℕ
behind_line text = drop (line_length text + 1) text
