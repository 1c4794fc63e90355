-- The bytes that JSON's grammar names (RFC 8259, section 2).
use Rattle.std.specs.Prelude.{ℕ, Bool, ◌==◌, ◌||◌}
use Rattle.std.specs.Char.{is_ascii_digit}

abbrev pub quote : ℕ
quote = 0x22

abbrev pub plus : ℕ
plus = 0x2B

abbrev pub comma : ℕ
comma = 0x2C

abbrev pub minus : ℕ
minus = 0x2D

abbrev pub point : ℕ
point = 0x2E

abbrev pub zero_digit : ℕ
zero_digit = 0x30

abbrev pub colon : ℕ
colon = 0x3A

abbrev pub open_bracket : ℕ
open_bracket = 0x5B

abbrev pub backslash : ℕ
backslash = 0x5C

abbrev pub close_bracket : ℕ
close_bracket = 0x5D

abbrev pub letter_u : ℕ
letter_u = 0x75

abbrev pub open_brace : ℕ
open_brace = 0x7B

abbrev pub close_brace : ℕ
close_brace = 0x7D

-- a space, a tab, a line feed or a carriage return
abbrev pub is_blank : ℕ → Bool
is_blank b = ((b == 0x20) || (b == 0x09)) || ((b == 0x0A) || (b == 0x0D))

-- `e` or `E`, before an exponent
abbrev pub is_exponent_letter : ℕ → Bool
is_exponent_letter b = (b == 0x65) || (b == 0x45)

abbrev pub is_digit : ℕ → Bool
is_digit b = is_ascii_digit b
