-- What may be left of a character, by where the bytes so far end in it.
use Rattle.std.proofs.Common.{◌≡◌, ℕ, zero, suc, ◌+◌, ◌-◌, ◌*◌, ◌<◌, ◌≤◌, true, List, [], ◌∷◌}
use lib.Utf8.{scalar}
use Rattle.json_character.specs.Ascii as ascii
use Rattle.json_character.specs.Pieces.{Byte, HexDigits}
use Rattle.json_character.specs.Texts.{Character, Escape, Unit16, LowHalf, is_high_surrogate}
use Rattle.json_character.specs.Within.{Within, plain, escape, unit, high, high_escape, low, tail}

-- n bytes that carry on a character from the bits v
abbrev pub TailBytes : ℕ → ℕ → (ℕ → List ℕ → Type 0) → List ℕ → Type 0
TailBytes zero v K xs = K v xs
TailBytes (suc n) v K [] = ⊥
TailBytes (suc n) v K (x ∷ xs) = (128 ≤ x) × (x < 192) × TailBytes n (64 * v + (x - 128)) K xs

abbrev pub IsFrom : ℕ → ℕ → (List ℕ → Type 0) → ℕ → List ℕ → Type 0
IsFrom least c K u xs = (u ≡ c) × (least ≤ c) × (scalar c ≡ true) × K xs

abbrev pub CharacterRest : Within → ℕ → (List ℕ → Type 0) → List ℕ → Type 0
CharacterRest plain c K xs = Character c K xs
CharacterRest escape c K xs = Escape c K xs
CharacterRest (unit n v) c K xs = HexDigits (suc n) v (Unit16 c K) xs
CharacterRest (high h) c K xs = (is_high_surrogate h ≡ true) × Byte ascii.backslash (Byte ascii.letter_u (HexDigits 4 0 (LowHalf h c K))) xs
CharacterRest (high_escape h) c K xs = (is_high_surrogate h ≡ true) × Byte ascii.letter_u (HexDigits 4 0 (LowHalf h c K)) xs
CharacterRest (low n v h) c K xs = (is_high_surrogate h ≡ true) × HexDigits (suc n) v (LowHalf h c K) xs
CharacterRest (tail least n v) c K xs = TailBytes (suc n) v (IsFrom least c K) xs
