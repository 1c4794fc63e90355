-- How far the ends of an interval reach and how far apart they are: what tolerances are computed with.
-- Counted in 2^-56 for ends of the grid, in whole units for a range.
use Rattle.std.specs.Prelude.{ℕ, ◌+◌, ◌*◌, ◌≤◌, max, ℤ, pos, ◌+ℤ◌, ◌≤ℤ◌, unsigned_abs}
use Rattle.std.specs.Int.{div_ceil}
use Rattle.fixed_interval.specs.Grid.{Ends, Range, UNIT}

pub record Bound : Type 0 where
  pub reach : ℕ
  pub width : ℕ

pub record AreBounded (lo hi : ℤ) (b : Bound) : Type 0 where
  pub ordered : lo ≤ℤ hi
  pub reach : max (unsigned_abs lo) (unsigned_abs hi) ≤ b.reach
  pub width : hi ≤ℤ (lo +ℤ pos b.width)

abbrev pub IsBounded : Ends → Bound → Type 0
IsBounded a b = AreBounded a.lo a.hi b

abbrev pub IsBoundedRange : Range → Bound → Type 0
IsBoundedRange r b = AreBounded r.lo r.hi b

-- of a sum and of a difference
unfoldable pub sum_bound : Bound → Bound → Bound
sum_bound a b = record { reach = a.reach + b.reach; width = a.width + b.width }

-- of a product over n, rounded outward: one step of rounding at each end
unfoldable pub ratio_bound : Bound → Bound → ℕ → Bound
ratio_bound a b n = record { reach = div_ceil (a.reach * b.reach) n; width = div_ceil (a.reach * b.width + b.reach * a.width) n + 1 }

unfoldable pub product_bound : Bound → Bound → Bound
product_bound a b = ratio_bound a b UNIT

unfoldable pub divide_bound : Bound → ℕ → Bound
divide_bound a n = record { reach = div_ceil a.reach n; width = div_ceil a.width n + 1 }

unfoldable pub scale_bound : Bound → ℕ → Bound
scale_bound a n = record { reach = div_ceil (a.reach * n) UNIT; width = div_ceil (a.width * n) UNIT + 1 }

-- of a hull of two that are at most `gap` apart
unfoldable pub hull_bound : Bound → Bound → ℕ → Bound
hull_bound a b gap = record { reach = max a.reach b.reach; width = a.width + b.width + gap }

unfoldable pub square_bound : Bound → Bound
square_bound a = record { reach = div_ceil (a.reach * a.reach) UNIT; width = div_ceil (2 * (a.reach * a.width)) UNIT + 1 }
