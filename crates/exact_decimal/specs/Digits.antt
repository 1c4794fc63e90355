-- Digits that come one after another.
use Rattle.std.specs.Prelude.{ℕ, ◌==◌, ◌<◌, ◌-◌, ◌*◌, ◌^◌, cond, List, [], ◌∷◌, ◌++◌, get_or, length, take}
use Rattle.std.specs.Int.Digits.{AllBelowBase, number_from_digits}

-- one digit more, which is left out where it leads and is 0
abbrev pub with_digit : List ℕ → ℕ → List ℕ
with_digit [] d = cond (d == 0) [] (d ∷ [])
with_digit (x ∷ xs) d = (x ∷ xs) ++ d ∷ []

-- each is below ten, and none is 0 before the first that is not
pub record AreDigits (ds : List ℕ) : Type 0 where
  pub below_ten : AllBelowBase 10 ds
  pub first : 0 < get_or ds 0 1

-- the number that so many first digits write; zeros follow the last digit
unfoldable pub leading : List ℕ → ℕ → ℕ
leading ds n = number_from_digits 10 (take n ds) * 10 ^ (n - length ds)
