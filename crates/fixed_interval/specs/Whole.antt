-- Whole numbers, in the words of the code's own steps.
use Rattle.std.specs.Prelude.{ℕ, ℤ, pos, neg_ℤ}
use Rattle.std.specs.Int.{int_div_euclid, int_min, int_max}

-- the greatest whole number of at most z / n
abbrev pub floor_over : ℤ → ℕ → ℤ
floor_over z n = int_div_euclid z (pos n)

-- the least whole number of at least z / n
abbrev pub ceil_over : ℤ → ℕ → ℤ
ceil_over z n = neg_ℤ (int_div_euclid (neg_ℤ z) (pos n))

unfoldable pub least_of_four : ℤ → ℤ → ℤ → ℤ → ℤ
least_of_four a b c d = int_min (int_min a b) (int_min c d)

unfoldable pub greatest_of_four : ℤ → ℤ → ℤ → ℤ → ℤ
greatest_of_four a b c d = int_max (int_max a b) (int_max c d)
