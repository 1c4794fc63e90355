-- The decimal that a number's parts write.
use Rattle.std.specs.Prelude.{ℕ, ◌==◌, Bool, true, false, cond, List, [], ◌∷◌, ◌++◌, length, ℤ, pos, neg_ℤ, ◌-ℤ◌}
use Rattle.std.specs.Int.{int_min, int_max}
use Rattle.std.specs.Int.Digits.{number_from_digits}
use Rattle.exact_decimal.specs.declared.decimal.Decimal.{Decimal}

-- the digits from the first that is not 0 on
abbrev pub significant : List ℕ → List ℕ
significant [] = []
significant (d ∷ ds) = cond (d == 0) (significant ds) (d ∷ ds)

-- at most a million either way
abbrev pub held : ℤ → ℤ
held e = int_max (neg_ℤ (pos 1_000_000)) (int_min e (pos 1_000_000))

abbrev pub signed : Bool → ℕ → ℤ
signed true n = neg_ℤ (pos n)
signed false n = pos n

-- a number's digits before and after the point, and its exponent, with their signs
abbrev pub decimal_of : Bool → List ℕ → List ℕ → Bool → List ℕ → Decimal
decimal_of negative whole fraction exponent_negative exponent =
    record {
      negative = negative;
      digits = significant (whole ++ fraction);
      exponent = held (signed exponent_negative (number_from_digits 10 exponent) -ℤ pos (length fraction));
    }
