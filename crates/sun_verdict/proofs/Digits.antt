-- Lemmas on digits and on numbers that fit.
use Rattle.std.proofs.Common.{◌≡◌, ℕ, ◌+◌, ◌*◌, ◌^◌, ◌<◌, ◌≤◌, ◌&&◌, zero, suc, arith, List, length, Some, ℤ, FitsSigned, w64}
use Rattle.std.proofs.Math.Nat.{mul-le-mul_right, mul-zero, add-mul}
use Rattle.std.proofs.lemmas.Bool.{and_parts, leb-true}
use Rattle.std.proofs.lemmas.Int.{ints, fits_signed_from_abs}
use Rattle.std.proofs.lemmas.Option.{cond_some}
use Rattle.std.specs.Char.{is_ascii_digit}
use Rattle.std.specs.List.{list_all}
use Rattle.std.specs.Prelude.{nat_le, nat_lt}
use Rattle.std.specs.Str.Parse.{digits_value}
use Rattle.digit_text.specs.Digits.{digits_in}
use Rattle.sun_verdict.specs.Request.{IsWithin}

-- a number is spelled by no more digits
pub at_most_digits : (most : ℕ) (word : List ℕ) (n : ℕ) → digits_in most word ≡ Some n → length word ≤ most
unfolding digits_in
at_most_digits most word n e =
    let tests = (cond_some (nat_lt 0 (length word) && (nat_le (length word) most && list_all is_ascii_digit word)) (digits_value 10 word) n e).0 in
    let others = (and_parts (nat_lt 0 (length word)) (nat_le (length word) most && list_all is_ascii_digit word) tests).1 in
    leb-true (length word) most (and_parts (nat_le (length word) most) (list_all is_ascii_digit word) others).0

-- digits with zeros behind them
pub is_below_scaled : (value power scale : ℕ) → value < power → power * scale ≡ 1000000 → value * scale < 1000000
is_below_scaled value power zero below whole = let none : power * zero ≡ 0 = mul-zero power in absurd (omega (arith, none))
is_below_scaled value power (suc s) below whole =
    let product : (value + 1) * suc s ≤ power * suc s = mul-le-mul_right (suc s) (omega arith) in
    let more : (value + 1) * suc s ≡ value * suc s + 1 * suc s = add-mul value 1 (suc s) in
    omega (arith, product, more)

-- a number of such a magnitude fits 64 bits
pub fits_within : (most : ℕ) (z : ℤ) → most < 2 ^ 63 → IsWithin most z → FitsSigned w64 z
fits_within most z small within = fits_signed_from_abs w64 z (omega (arith, ints, within.low, within.high))
