-- A number that is being read: its parts after each byte, and the decimal that they write so far.
use Rattle.std.specs.Prelude.{ℕ, ◌+◌, ◌-◌, true, false, [], ◌∷◌, ◌++◌, ◌-ℤ◌, pos}
use Rattle.std.specs.Int.Digits.{number_from_digits}
use Rattle.exact_decimal.specs.Decimals.{held, signed}
use Rattle.exact_decimal.specs.Digits.{with_digit}
use Rattle.exact_decimal.specs.declared.decimal.Decimal.{Decimal}
use Rattle.exact_decimal.specs.declared.numeral.Numeral.{Numeral}

abbrev pub no_numeral : Numeral
no_numeral = record { negative = false; digits = []; places = 0; exponent_negative = false; exponent = []; length = 0 }

-- a letter, a point or a plus more
abbrev pub counted : Numeral → Numeral
counted n = record n { length = n.length + 1 }

-- a digit more, as its byte: of the whole part, of the fraction, of the exponent
abbrev pub with_whole : Numeral → ℕ → Numeral
with_whole n b = record n { digits = with_digit n.digits (b - 48); length = n.length + 1 }

abbrev pub with_fraction : Numeral → ℕ → Numeral
with_fraction n b = record n { digits = with_digit n.digits (b - 48); places = n.places + 1; length = n.length + 1 }

abbrev pub with_exponent : Numeral → ℕ → Numeral
with_exponent n b = record n { exponent = n.exponent ++ (b - 48) ∷ []; length = n.length + 1 }

-- the exponent's minus more
abbrev pub with_minus : Numeral → Numeral
with_minus n = record n { exponent_negative = true; length = n.length + 1 }

abbrev pub decimal_so_far : Numeral → Decimal
decimal_so_far n =
    record { negative = n.negative; digits = n.digits; exponent = held (signed n.exponent_negative (number_from_digits 10 n.exponent) -ℤ pos n.places) }
