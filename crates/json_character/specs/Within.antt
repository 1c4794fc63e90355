-- Where within a character of a text the bytes so far end, and one byte more. A part is refused as soon as no
-- character goes on so.
pub use Rattle.json_character.specs.declared.within.Within.{Within}
pub use Rattle.json_character.specs.declared.within.Within.TheVariants.{Plain as plain, Escape as escape, Unit as unit, High as high, HighEscape as high_escape, Low as low, Tail as tail}
pub use Rattle.json_character.specs.declared.within.Outcome.{Outcome}
pub use Rattle.json_character.specs.declared.within.Outcome.TheVariants.{GoesOn as goes_on, Ends as ends, Refused as refused}
use Rattle.std.specs.Prelude.{ℕ, zero, suc, ◌+◌, ◌-◌, ◌*◌, max, Bool, true, cond, not, ◌&&◌, ◌==◌, nat_lt, nat_le, Option, Some, None}
use Rattle.std.specs.Char.{digit_value}
use Rattle.std.specs.Char as char
use lib.Utf8.{scalar}
use Rattle.json_character.specs.Ascii as ascii
use Rattle.json_character.specs.Texts.{short_escape, is_high_surrogate, is_low_surrogate, paired}

-- 16 and 64 to the power of n + 1, for the few digits and bytes that can follow
abbrev pub above_16 : ℕ → ℕ
above_16 n = cond (n == 0) 0x10 (cond (n == 1) 0x100 (cond (n == 2) 0x1000 0x1_0000))

abbrev pub above_64 : ℕ → ℕ
above_64 n = cond (n == 0) 0x40 (cond (n == 1) 0x1000 0x4_0000)

-- some code unit that is no low surrogate begins so; some low surrogate does; some character from `least` on does
abbrev pub is_unit_begun : ℕ → ℕ → Bool
is_unit_begun n v = nat_lt n 4 && (nat_lt (v * above_16 n) 0x1_0000 && not (is_low_surrogate (v * above_16 n)))

abbrev pub is_low_begun : ℕ → ℕ → Bool
is_low_begun n v = nat_lt n 4 && (nat_lt (v * above_16 n) 0xE000 && nat_lt 0xDC00 ((v + 1) * above_16 n))

abbrev pub is_tail_begun : ℕ → ℕ → ℕ → Bool
is_tail_begun least n v = nat_lt n 3 && (scalar (max least (v * above_64 n)) && nat_lt (max least (v * above_64 n)) ((v + 1) * above_64 n))

-- the character with this code
abbrev pub is_scalar : ℕ → Bool
is_scalar c = scalar c

abbrev pub checked : ℕ → Outcome
checked c = cond (scalar c) (ends c) refused

-- one digit or byte more: the last, or one with n more to come after the next
abbrev pub unit_ended : ℕ → Outcome
unit_ended v = cond (is_high_surrogate v) (goes_on (high v)) (checked v)

abbrev pub unit_goes_on : ℕ → ℕ → Outcome
unit_goes_on n v = cond (is_unit_begun n v) (goes_on (unit n v)) refused

abbrev pub after_unit : ℕ → ℕ → Outcome
after_unit zero v = unit_ended v
after_unit (suc n) v = unit_goes_on n v

abbrev pub low_ended : ℕ → ℕ → Outcome
low_ended v h = cond (is_low_surrogate v) (checked (paired h v)) refused

abbrev pub low_goes_on : ℕ → ℕ → ℕ → Outcome
low_goes_on n v h = cond (is_low_begun n v) (goes_on (low n v h)) refused

abbrev pub after_low : ℕ → ℕ → ℕ → Outcome
after_low zero v h = low_ended v h
after_low (suc n) v h = low_goes_on n v h

abbrev pub tail_ended : ℕ → ℕ → Outcome
tail_ended least v = cond (nat_le least v) (checked v) refused

abbrev pub tail_goes_on : ℕ → ℕ → ℕ → Outcome
tail_goes_on least n v = cond (is_tail_begun least n v) (goes_on (tail least n v)) refused

abbrev pub after_tail : ℕ → ℕ → ℕ → Outcome
after_tail least zero v = tail_ended least v
after_tail least (suc n) v = tail_goes_on least n v

abbrev pub after_short : Option ℕ → Outcome
after_short None = refused
after_short (Some c) = ends c

-- the first byte of a character that stands for itself
abbrev pub after_lead : ℕ → Outcome
after_lead b =
    cond (nat_lt b 0x80) (cond (nat_lt b 0x20) refused (ends b))
    (cond (nat_lt b 0xC0) refused (cond (nat_lt b 0xE0) (after_tail 0x80 1 (b - 0xC0)) (cond (nat_lt b 0xF0) (after_tail 0x800 2 (b - 0xE0)) (cond (nat_lt b 0xF8) (after_tail 0x1_0000 3 (b - 0xF0)) refused))))

-- some character goes on from there
abbrev pub is_begun : Within → Bool
is_begun plain = true
is_begun escape = true
is_begun (unit n v) = is_unit_begun n v
is_begun (high h) = is_high_surrogate h
is_begun (high_escape h) = is_high_surrogate h
is_begun (low n v h) = is_high_surrogate h && is_low_begun n v
is_begun (tail least n v) = scalar least && is_tail_begun least n v

-- a byte that is not the closing quote
abbrev pub after_byte : Within → ℕ → Outcome
after_byte plain b = cond (b == ascii.backslash) (goes_on escape) (after_lead b)
after_byte escape b = cond (b == ascii.letter_u) (goes_on (unit 3 0)) (after_short (short_escape b))
after_byte (unit n v) b = cond (char.is_digit b 16) (after_unit n (16 * v + digit_value b)) refused
after_byte (high h) b = cond (b == ascii.backslash) (goes_on (high_escape h)) refused
after_byte (high_escape h) b = cond (b == ascii.letter_u) (goes_on (low 3 0 h)) refused
after_byte (low n v h) b = cond (char.is_digit b 16) (after_low n (16 * v + digit_value b) h) refused
after_byte (tail least n v) b = cond (nat_le 0x80 b && nat_lt b 0xC0) (after_tail least n (64 * v + (b - 0x80))) refused
