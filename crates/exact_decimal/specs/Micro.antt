-- What a decimal is worth: in millionths, and as a whole number.
use Rattle.std.specs.Prelude.{ℕ, ◌+◌, ◌*◌, ◌/◌, ◌%◌, ◌^◌, min, ◌==◌, nat_le, if◌then◌else◌, Option, Some, None, option_map, option_and_then, ℤ, pos, negsuc, ◌+ℤ◌}
use Rattle.std.specs.Int.Digits.{number_from_digits}
use Rattle.exact_decimal.specs.Decimals.{signed}
use Rattle.exact_decimal.specs.declared.decimal.Decimal.{Decimal}

-- the whole number nearest to n times ten to the exponent; of two, the greater
abbrev pub nearest : ℕ → ℤ → ℕ
nearest n (pos e) = n * 10 ^ e
nearest n (negsuc k) = (2 * n + 10 ^ (k + 1)) / (2 * 10 ^ (k + 1))

-- n times ten to the exponent, where that is a whole number
abbrev pub exactly : ℕ → ℤ → Option ℕ
exactly n (pos e) = Some (n * 10 ^ e)
exactly n (negsuc k) = if n % 10 ^ (k + 1) == 0 then Some (n / 10 ^ (k + 1)) else None

-- none above 10^15
abbrev pub no_greater : ℕ → Option ℕ
no_greater n = if nat_le n (10 ^ 15) then Some n else None

-- in millionths, a half away from zero, held at 10^15 either way
unfoldable pub micro_of : Decimal → ℤ
micro_of d = signed d.negative (min (nearest (number_from_digits 10 d.digits) (d.exponent +ℤ pos 6)) (10 ^ 15))

-- as a whole number of at most 10^15 either way, where it is one
unfoldable pub whole_of : Decimal → Option ℤ
whole_of d = option_map (signed d.negative) (option_and_then no_greater (exactly (number_from_digits 10 d.digits) d.exponent))
