-- Whole numbers as JSON: they are spelled by their decimal texts, and read back as they are.
use Rattle.std.proofs.Common.{◌≡◌, ℕ, suc, ◌+◌, ◌-◌, ◌*◌, ◌/◌, ◌%◌, ◌^◌, ◌<◌, ◌≤◌, ◌==◌, Bool, true, false, cond, List, [], ◌∷◌, ◌++◌, length, get_or, map, ℤ, pos, negsuc, unsigned_abs, nat_le, Some, refl, append-nil, length-append, arith, inl, inr}
use Rattle.std.proofs.lemmas.Bool.{and_parts, cases_lt}
use Rattle.std.proofs.lemmas.Bool.Decides.{nat_tests}
use Rattle.std.proofs.lemmas.Fmt.{decimal_by_steps, decimal_digit, decimal_nonempty, first_decimal, length-decimal-le}
use Rattle.std.proofs.lemmas.Int.Digits.{number_push}
use Rattle.std.proofs.lemmas.List.{map-append}
use Rattle.std.proofs.lemmas.List.Folds.{list_all-append}
use Rattle.std.specs.Char.{is_ascii_digit}
use Rattle.std.specs.Fmt.{decimal, signed_decimal}
use Rattle.std.specs.Int.Digits.{number_from_digits}
use Rattle.std.specs.List.{list_all}
use Rattle.exact_decimal.specs.Decimals.{decimal_of, significant}
use Rattle.exact_json.specs.Grammar.{IsWhole, Number}
use Rattle.exact_json.specs.Limits.{limits_before}
use Rattle.exact_decimal.specs.Micro.{no_greater, whole_of}
use Rattle.json_character.specs.Pieces.{Digits}
use Rattle.exact_decimal.specs.declared.decimal.Decimal.{Decimal}

-- the digit that a byte writes
abbrev pub digit : ℕ → ℕ
digit b = b - 48

pub record AreDigitsOf (n : ℕ) (text : List ℕ) : Type 0 where
  pub digits : list_all is_ascii_digit text ≡ true
  pub worth : number_from_digits 10 (map digit text) ≡ n

last_digit : (n : ℕ) → n < 10 → is_ascii_digit (48 + n) ≡ true
last_digit n h = grind (arith, nat_tests)

one_digit : (n : ℕ) → n < 10 → AreDigitsOf n ((48 + n) ∷ [])
one_digit n h = record {
  digits = grind (arith, nat_tests);
  worth = omega arith;
}

more_digits : (n : ℕ) (ds : List ℕ) → 10 ≤ n → AreDigitsOf (n / 10) ds → AreDigitsOf n (ds ++ ((48 + n % 10) ∷ []))
more_digits n ds h d = record {
  digits = rw (list_all-append, d.digits) (grind (arith, nat_tests));
  worth = rw (map-append, number_push, d.worth) (omega arith);
}

pub digits_of_decimal : (n : ℕ) → n < 2 ^ 64 → AreDigitsOf n (decimal n)
digits_of_decimal n h = decimal_by_steps AreDigitsOf one_digit more_digits n h

-- no zero leads
leads_well : (text : List ℕ) → 0 < length text → 48 < get_or text 0 0 → IsWhole (map digit text)
leads_well [] some first = absurd (omega arith)
leads_well (b ∷ []) some first = tt
leads_well (b ∷ c ∷ rest) some first = grind (arith, nat_tests)

pub decimal_is_whole : (n : ℕ) → n < 2 ^ 64 → IsWhole (map digit (decimal n))
decimal_is_whole n h =
    elim (cases_lt n 10) [
      | inl small ↦ rw (decimal_digit n small) tt
      | inr great ↦ leads_well (decimal n) (decimal_nonempty n h) (first_decimal n (omega arith) h)
    ]

-- digits stand before what follows them
pub spelled_digits : (text : List ℕ) (K : List ℕ → Type 0) (ys : List ℕ) → list_all is_ascii_digit text ≡ true → K ys → Digits (map digit text) K (text ++ ys)
spelled_digits [] K ys are k = k
spelled_digits (b ∷ bs) K ys are k =
    let both = and_parts (is_ascii_digit b) (list_all is_ascii_digit bs) are in
    (both.0, refl, spelled_digits bs K ys both.1 k)

-- A whole number's decimal, its digits as they are written.

abbrev pub is_negative : ℤ → Bool
is_negative (pos n) = false
is_negative (negsuc n) = true

abbrev pub whole_decimal : ℤ → Decimal
whole_decimal z = decimal_of (is_negative z) (map digit (decimal (unsigned_abs z))) [] false []

significant_worth : (ds : List ℕ) → number_from_digits 10 (significant ds) ≡ number_from_digits 10 ds
significant_worth [] = refl
significant_worth (d ∷ ds) = significant_first (d == 0) d ds refl (significant_worth ds)
  where
    significant_first : (t : Bool) (d : ℕ) (ds : List ℕ) → (d == 0) ≡ t → number_from_digits 10 (significant ds) ≡ number_from_digits 10 ds → number_from_digits 10 (cond t (significant ds) (d ∷ ds)) ≡ number_from_digits 10 (d ∷ ds)
    significant_first true d ds e rest = let zero_first : d ≡ 0 = grind (arith, nat_tests) in rw (zero_first, rest) refl
    significant_first false d ds e rest = refl

whole_worth : (n : ℕ) → n < 2 ^ 64 → number_from_digits 10 (significant (map digit (decimal n) ++ [])) ≡ n
whole_worth n h = rw (append-nil, significant_worth) ((digits_of_decimal n h).worth)

not_too_great : (n : ℕ) → n ≤ 10 ^ 15 → no_greater (n * 1) ≡ Some n
not_too_great n h =
    let same : n * 1 ≡ n = omega arith in
    let fits : nat_le n (10 ^ 15) ≡ true = grind (arith, nat_tests) in
    rw (same, fits) refl

-- it is read back
pub whole_of_decimal : (z : ℤ) → unsigned_abs z ≤ 10 ^ 15 → whole_of (whole_decimal z) ≡ Some z
unfolding whole_of
whole_of_decimal (pos n) h = rw (whole_worth n (omega arith), not_too_great n h) refl
whole_of_decimal (negsuc n) h = rw (whole_worth (suc n) (omega arith), not_too_great (suc n) h) refl

-- it is spelled by its text
within_reach : (text ys : List ℕ) → length text ≤ 64 → (limits_before 0).may_reach (length (text ++ ys)) (length ys) ≡ true
within_reach text ys h = grind (arith, nat_tests, length-append text ys)

pub spelled_number : (z : ℤ) (ys : List ℕ) → unsigned_abs z ≤ 10 ^ 15 → Number (limits_before 0) (whole_decimal z) (signed_decimal z ++ ys) ys
spelled_number (pos n) ys h = (
  record { negative = false; whole = map digit (decimal n); fraction = []; exponent_negative = false; exponent = [] },
  decimal_is_whole n (omega arith),
  spelled_digits (decimal n) _ ys ((digits_of_decimal n (omega arith)).digits) (refl, refl),
  refl,
  within_reach (decimal n) ys (omega (arith, length-decimal-le 16 n (omega arith) (omega arith) (omega arith))),
)
spelled_number (negsuc n) ys h = (
  record { negative = true; whole = map digit (decimal (suc n)); fraction = []; exponent_negative = false; exponent = [] },
  decimal_is_whole (suc n) (omega arith),
  (refl, spelled_digits (decimal (suc n)) _ ys ((digits_of_decimal (suc n) (omega arith)).digits) (refl, refl)),
  refl,
  within_reach (signed_decimal (negsuc n)) ys (omega (arith, length-decimal-le 16 (suc n) (omega arith) (omega arith) (omega arith))),
)
