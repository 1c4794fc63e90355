-- What stands at the front of bytes. Each piece takes a fact `K` on the bytes that come after it.
use Rattle.std.specs.Prelude.{◌≡◌, ℕ, zero, suc, ◌+◌, ◌-◌, ◌*◌, Bool, true, List, [], ◌∷◌, ◌⊎◌}
use Rattle.std.specs.Char.{digit_value}
use Rattle.std.specs.Char as char
use Rattle.json_character.specs.Ascii.{is_blank, is_digit}

-- nothing stands before ys
abbrev pub Is : List ℕ → List ℕ → Type 0
Is ys xs = xs ≡ ys

-- the bytes end
abbrev pub AtEnd : List ℕ → Type 0
AtEnd [] = Unit {0}
AtEnd (x ∷ xs) = ⊥

-- the byte b
abbrev pub Byte : ℕ → (List ℕ → Type 0) → List ℕ → Type 0
Byte b K [] = ⊥
Byte b K (x ∷ xs) = (x ≡ b) × K xs

-- a byte that passes the test
abbrev pub OneOf : (ℕ → Bool) → (List ℕ → Type 0) → List ℕ → Type 0
OneOf p K [] = ⊥
OneOf p K (x ∷ xs) = (p x ≡ true) × K xs

-- the bytes of a word
abbrev pub Word : List ℕ → (List ℕ → Type 0) → List ℕ → Type 0
Word [] K xs = K xs
Word (b ∷ bs) K [] = ⊥
Word (b ∷ bs) K (x ∷ xs) = (x ≡ b) × Word bs K xs

-- decimal digits with these values
abbrev pub Digits : List ℕ → (List ℕ → Type 0) → List ℕ → Type 0
Digits [] K xs = K xs
Digits (d ∷ ds) K [] = ⊥
Digits (d ∷ ds) K (x ∷ xs) = (is_digit x ≡ true) × (x - 48 ≡ d) × Digits ds K xs

-- any number of blanks
abbrev pub Blanks : (List ℕ → Type 0) → List ℕ → Type 0
Blanks K [] = K []
Blanks K (x ∷ xs) = K (x ∷ xs) ⊎ ((is_blank x ≡ true) × Blanks K xs)

-- n hexadecimal digits, which go on from v to the value that K takes
abbrev pub HexDigits : ℕ → ℕ → (ℕ → List ℕ → Type 0) → List ℕ → Type 0
HexDigits zero v K xs = K v xs
HexDigits (suc n) v K [] = ⊥
HexDigits (suc n) v K (x ∷ xs) = (char.is_digit x 16 ≡ true) × HexDigits n (16 * v + digit_value x) K xs
