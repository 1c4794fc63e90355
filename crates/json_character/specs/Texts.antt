-- A text of JSON (RFC 8259, section 7), with surrogates in pairs alone.
use Rattle.std.specs.Prelude.{◌≡◌, ℕ, ◌+◌, ◌-◌, ◌*◌, Bool, true, not, cond, ◌&&◌, ◌||◌, ◌==◌, nat_lt, nat_le, List, [], ◌∷◌, ◌⊎◌, Option, Some, None}
use Rattle.std.specs.Char.{encode_utf8}
use Rattle.std.specs.Str.{encode_utf8_all}
use lib.Utf8.{scalar}
use Rattle.json_character.specs.Ascii as ascii
use Rattle.json_character.specs.Pieces.{Is, Byte, Word, HexDigits}

-- a character that stands for itself: no control character, no quote and no backslash
abbrev pub is_plain : ℕ → Bool
is_plain c = scalar c && (nat_le 0x20 c && (not (c == ascii.quote) && not (c == ascii.backslash)))

-- what a backslash and the byte x stand for, other than `\u`
abbrev pub short_escape : ℕ → Option ℕ
short_escape x =
    cond (((x == ascii.quote) || (x == ascii.backslash)) || (x == 0x2F)) (Some x)
    (cond (x == 0x62) (Some 0x08) (cond (x == 0x66) (Some 0x0C) (cond (x == 0x6E) (Some 0x0A) (cond (x == 0x72) (Some 0x0D) (cond (x == 0x74) (Some 0x09) None)))))

abbrev pub is_high_surrogate : ℕ → Bool
is_high_surrogate u = nat_le 0xD800 u && nat_lt u 0xDC00

abbrev pub is_low_surrogate : ℕ → Bool
is_low_surrogate u = nat_le 0xDC00 u && nat_lt u 0xE000

abbrev pub paired : ℕ → ℕ → ℕ
paired high low = 0x10000 + (high - 0xD800) * 0x400 + (low - 0xDC00)

-- one of the short escapes for c
abbrev pub Short : ℕ → (List ℕ → Type 0) → List ℕ → Type 0
Short c K [] = ⊥
Short c K (x ∷ xs) = (short_escape x ≡ Some c) × K xs

-- the second half of a pair, whose first is the code unit `high`
abbrev pub LowHalf : ℕ → ℕ → (List ℕ → Type 0) → ℕ → List ℕ → Type 0
LowHalf high c K low xs = (is_low_surrogate low ≡ true) × (paired high low ≡ c) × K xs

-- what `\u` and the code unit u, or the pair that u begins, stand for
abbrev pub Unit16 : ℕ → (List ℕ → Type 0) → ℕ → List ℕ → Type 0
Unit16 c K u xs =
    (is_high_surrogate u ≡ true) × Byte ascii.backslash (Byte ascii.letter_u (HexDigits 4 0 (LowHalf u c K))) xs
    ⊎ (scalar u ≡ true) × (u ≡ c) × K xs

abbrev pub Escape : ℕ → (List ℕ → Type 0) → List ℕ → Type 0
Escape c K xs = Short c K xs ⊎ Byte ascii.letter_u (HexDigits 4 0 (Unit16 c K)) xs

-- the character c, as itself or by an escape
abbrev pub Character : ℕ → (List ℕ → Type 0) → List ℕ → Type 0
Character c K xs = (is_plain c ≡ true) × Word (encode_utf8 c) K xs ⊎ Byte ascii.backslash (Escape c K) xs

abbrev pub Characters : List ℕ → (List ℕ → Type 0) → List ℕ → Type 0
Characters [] K xs = K xs
Characters (c ∷ cs) K xs = Character c (Characters cs K) xs

-- xs is a text between its quotes, and then ys; s is its characters in UTF-8
abbrev pub Quoted : List ℕ → List ℕ → List ℕ → Type 0
Quoted s xs ys = (cs : List ℕ) × (encode_utf8_all cs ≡ s) × Byte ascii.quote (Characters cs (Byte ascii.quote (Is ys))) xs
