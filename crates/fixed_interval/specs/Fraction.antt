-- Exact fractions, the numbers that every meaning here is given in: a whole top over a positive bottom, not reduced.
-- Two fractions are compared by cross multiplication.
use Rattle.std.specs.Prelude.{ℕ, ◌*◌, ◌<◌, max, ℤ, pos, neg_ℤ, ◌+ℤ◌, ◌*ℤ◌, ◌≤ℤ◌, ◌<ℤ◌, int_le, if◌then◌else◌}
use Rattle.std.specs.Int.{int_div_euclid}
use Rattle.std.proofs.Math.Nat.{mul-pos, le-max_right}

pub record Fraction : Type 0 where
  pub top : ℤ
  pub bottom : ℕ
  pub positive : 0 < bottom

infix 50 ◌≤ᶠ◌
pub record ◌≤ᶠ◌ (a b : Fraction) : Type 0 where
  pub crossed : (a.top *ℤ pos b.bottom) ≤ℤ (b.top *ℤ pos a.bottom)

infix 50 ◌<ᶠ◌
pub record ◌<ᶠ◌ (a b : Fraction) : Type 0 where
  pub crossed : (a.top *ℤ pos b.bottom) <ℤ (b.top *ℤ pos a.bottom)

-- z / n, where an n of 0 counts as 1
unfoldable pub over : ℤ → ℕ → Fraction
over z n = record { top = z; bottom = max n 1; positive = le-max_right n 1 }

unfoldable pub negate : Fraction → Fraction
negate a = record { top = neg_ℤ a.top; bottom = a.bottom; positive = a.positive }

unfoldable pub plus : Fraction → Fraction → Fraction
plus a b = record { top = (a.top *ℤ pos b.bottom) +ℤ (b.top *ℤ pos a.bottom); bottom = a.bottom * b.bottom; positive = mul-pos a.positive b.positive }

unfoldable pub times : Fraction → Fraction → Fraction
times a b = record { top = a.top *ℤ b.top; bottom = a.bottom * b.bottom; positive = mul-pos a.positive b.positive }

unfoldable pub least : Fraction → Fraction → Fraction
least a b = if int_le (a.top *ℤ pos b.bottom) (b.top *ℤ pos a.bottom) then a else b

unfoldable pub greatest : Fraction → Fraction → Fraction
greatest a b = if int_le (a.top *ℤ pos b.bottom) (b.top *ℤ pos a.bottom) then b else a

-- the absolute value
unfoldable pub absolute : Fraction → Fraction
absolute a = greatest a (negate a)

-- the greatest whole z with z / n at most a
unfoldable pub floor_at : ℕ → Fraction → ℤ
floor_at n a = int_div_euclid (a.top *ℤ pos n) (pos a.bottom)

-- the least whole z with z / n at least a
unfoldable pub ceil_at : ℕ → Fraction → ℤ
ceil_at n a = neg_ℤ (floor_at n (negate a))
