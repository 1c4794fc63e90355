-- The grid: the multiples of 2^-56. Every operation has a form on the grid, which is its exact form rounded outward
-- (outward rounding, as in IEEE 1788-2015).
use Rattle.std.specs.Prelude.{ℕ, ◌^◌, max, ℤ, unsigned_abs}
use Rattle.fixed_interval.specs.Fraction.{over, floor_at, ceil_at}
use Rattle.fixed_interval.specs.Enclosure.{Enclosure, negated, sum, difference, product, scale_units, divide_by, times_ratio, hull, magnitude, signed_square, root}

-- how many steps of the grid make 1
abbrev pub UNIT : ℕ
UNIT = 2 ^ 56

-- the depth of the grid's roots and series
abbrev pub DEPTH : ℕ
DEPTH = 12

-- the ends of an enclosure on the grid, counted in 2^-56
pub record Ends : Type 0 where
  pub lo : ℤ
  pub hi : ℤ

-- a range between whole numbers of units, such as angle units
pub record Range : Type 0 where
  pub lo : ℤ
  pub hi : ℤ

unfoldable pub enclosure_of : Ends → Enclosure
enclosure_of e = record { lo = over e.lo UNIT; hi = over e.hi UNIT }

-- the lower end down and the upper end up to the grid
unfoldable pub rounded_out : Enclosure → Ends
rounded_out a = record { lo = floor_at UNIT a.lo; hi = ceil_at UNIT a.hi }

unfoldable pub enclosure_of_range : Range → Enclosure
enclosure_of_range r = record { lo = over r.lo 1; hi = over r.hi 1 }

-- the lower end down and the upper end up to a whole number of units
unfoldable pub range_around : Enclosure → Range
range_around a = record { lo = floor_at 1 a.lo; hi = ceil_at 1 a.hi }

unfoldable pub grid_negated : Ends → Ends
grid_negated a = rounded_out (negated (enclosure_of a))

unfoldable pub grid_sum : Ends → Ends → Ends
grid_sum a b = rounded_out (sum (enclosure_of a) (enclosure_of b))

unfoldable pub grid_difference : Ends → Ends → Ends
grid_difference a b = rounded_out (difference (enclosure_of a) (enclosure_of b))

unfoldable pub grid_product : Ends → Ends → Ends
grid_product a b = rounded_out (product (enclosure_of a) (enclosure_of b))

unfoldable pub grid_divide_by : Ends → ℕ → Ends
grid_divide_by a n = rounded_out (divide_by (enclosure_of a) n)

unfoldable pub grid_hull : Ends → Ends → Ends
grid_hull a b = rounded_out (hull (enclosure_of a) (enclosure_of b))

unfoldable pub grid_magnitude : Ends → Ends
grid_magnitude a = rounded_out (magnitude (enclosure_of a))

unfoldable pub grid_signed_square : Ends → Ends
grid_signed_square a = rounded_out (signed_square (enclosure_of a))

unfoldable pub grid_root : Ends → Ends
grid_root a = rounded_out (root DEPTH (enclosure_of a))

unfoldable pub grid_scale_units : Ends → ℕ → Range
grid_scale_units a n = range_around (scale_units (enclosure_of a) n)

unfoldable pub grid_times_ratio : Ends → Range → ℕ → Ends
grid_times_ratio a r n = rounded_out (times_ratio (enclosure_of a) (enclosure_of_range r) n)

-- the greatest magnitude of an end, in 2^-56
abbrev pub reach : Ends → ℕ
reach e = max (unsigned_abs e.lo) (unsigned_abs e.hi)
