-- The grid form of each operation keeps order, and holds the exact result of arguments that lie in its own.
use Rattle.std.proofs.Common.{ℕ, pos, ◌≤ℤ◌, ◌<ℤ◌, arith, lit≤}
use Rattle.std.proofs.lemmas.Int.{ints}
use Rattle.fixed_interval.specs.Fraction.{over}
use Rattle.fixed_interval.specs.Enclosure.{Enclosure, IsOrdered, LiesIn, IsAboveZero, IsBelowZero, negated, sum, difference, product, scale_units, divide_by, times_ratio, hull, magnitude, signed_square, root}
use Rattle.fixed_interval.specs.Grid.{Ends, Range, UNIT, DEPTH, enclosure_of, enclosure_of_range, rounded_out, range_around, grid_negated, grid_sum, grid_difference, grid_product, grid_divide_by, grid_hull, grid_magnitude, grid_signed_square, grid_root, grid_scale_units, grid_times_ratio}
use Rattle.fixed_interval.proofs.FractionLaws.{over_mono, from_over, floor_below, floor_greatest, floor_mono, ceil_above, ceil_least, ceil_mono, floor_at_most_ceil}
use Rattle.fixed_interval.proofs.EnclosureLaws.{LiesIn_trans, negated_mono, negated_ordered, sum_mono, sum_ordered, difference_mono, difference_ordered, product_mono, product_ordered, scale_units_mono, scale_units_ordered, divide_by_mono, divide_by_ordered, times_ratio_mono, times_ratio_ordered, hull_mono, hull_ordered, magnitude_mono, magnitude_ordered, signed_square_mono, signed_square_ordered, root_mono, root_ordered}

-- ---- ends of the grid
pub ends_ordered : (a : Ends) → a.lo ≤ℤ a.hi → IsOrdered (enclosure_of a)
unfolding enclosure_of
ends_ordered a h = record { ordered = over_mono UNIT a.lo a.hi h }

pub ends_lie : (a b : Ends) → b.lo ≤ℤ a.lo → a.hi ≤ℤ b.hi → LiesIn (enclosure_of a) (enclosure_of b)
unfolding enclosure_of
ends_lie a b h k = record { low = over_mono UNIT _ _ h; high = over_mono UNIT _ _ k }

pub lower_end : (a b : Ends) → LiesIn (enclosure_of a) (enclosure_of b) → b.lo ≤ℤ a.lo
unfolding enclosure_of
lower_end a b h = from_over UNIT _ _ (lit≤ tt) h.low

pub upper_end : (a b : Ends) → LiesIn (enclosure_of a) (enclosure_of b) → a.hi ≤ℤ b.hi
unfolding enclosure_of
upper_end a b h = from_over UNIT _ _ (lit≤ tt) h.high

-- ends have a sign where their nearer one does
pub above_of_ends : (a : Ends) → pos 0 <ℤ a.lo → IsAboveZero (enclosure_of a)
unfolding enclosure_of over
above_of_ends a h = record { above = record { crossed = omega (arith, ints) } }

pub ends_above : (a : Ends) → IsAboveZero (enclosure_of a) → pos 0 <ℤ a.lo
unfolding enclosure_of over
ends_above a h = omega (arith, ints, h.above.crossed)

pub below_of_ends : (a : Ends) → a.hi <ℤ pos 0 → IsBelowZero (enclosure_of a)
unfolding enclosure_of over
below_of_ends a h = record { below = record { crossed = omega (arith, ints) } }

pub ends_below : (a : Ends) → IsBelowZero (enclosure_of a) → a.hi <ℤ pos 0
unfolding enclosure_of over
ends_below a h = omega (arith, ints, h.below.crossed)

pub range_ordered : (r : Range) → r.lo ≤ℤ r.hi → IsOrdered (enclosure_of_range r)
unfolding enclosure_of_range
range_ordered r h = record { ordered = over_mono 1 r.lo r.hi h }

pub ranges_lie : (r s : Range) → s.lo ≤ℤ r.lo → r.hi ≤ℤ s.hi → LiesIn (enclosure_of_range r) (enclosure_of_range s)
unfolding enclosure_of_range
ranges_lie r s h k = record { low = over_mono 1 _ _ h; high = over_mono 1 _ _ k }

-- ---- rounding outward
pub rounded_out_holds : (x a : Enclosure) → LiesIn x a → LiesIn x (enclosure_of (rounded_out a))
unfolding enclosure_of rounded_out
rounded_out_holds x a h = LiesIn_trans x a _ h (record { low = floor_below UNIT a.lo (lit≤ tt); high = ceil_above UNIT a.hi (lit≤ tt) })

pub rounded_out_mono : (a b : Enclosure) → LiesIn a b → LiesIn (enclosure_of (rounded_out a)) (enclosure_of (rounded_out b))
unfolding enclosure_of rounded_out
rounded_out_mono a b h = record { low = over_mono UNIT _ _ (floor_mono UNIT b.lo a.lo (lit≤ tt) h.low); high = over_mono UNIT _ _ (ceil_mono UNIT a.hi b.hi (lit≤ tt) h.high) }

pub rounded_out_ordered : (a : Enclosure) → IsOrdered a → IsOrdered (enclosure_of (rounded_out a))
unfolding enclosure_of rounded_out
rounded_out_ordered a h = record { ordered = over_mono UNIT _ _ (floor_at_most_ceil UNIT a.lo a.hi (lit≤ tt) h.ordered) }

pub rounded_out_least : (x : Enclosure) (a : Ends) → LiesIn x (enclosure_of a) → LiesIn (enclosure_of (rounded_out x)) (enclosure_of a)
unfolding enclosure_of rounded_out
rounded_out_least x a h = record { low = over_mono UNIT _ _ (floor_greatest UNIT a.lo x.lo (lit≤ tt) h.low); high = over_mono UNIT _ _ (ceil_least UNIT a.hi x.hi (lit≤ tt) h.high) }

pub range_around_holds : (x a : Enclosure) → LiesIn x a → LiesIn x (enclosure_of_range (range_around a))
unfolding enclosure_of_range range_around
range_around_holds x a h = LiesIn_trans x a _ h (record { low = floor_below 1 a.lo (lit≤ tt); high = ceil_above 1 a.hi (lit≤ tt) })

pub range_around_mono : (a b : Enclosure) → LiesIn a b → LiesIn (enclosure_of_range (range_around a)) (enclosure_of_range (range_around b))
unfolding enclosure_of_range range_around
range_around_mono a b h = record { low = over_mono 1 _ _ (floor_mono 1 b.lo a.lo (lit≤ tt) h.low); high = over_mono 1 _ _ (ceil_mono 1 a.hi b.hi (lit≤ tt) h.high) }

pub range_around_ordered : (a : Enclosure) → IsOrdered a → IsOrdered (enclosure_of_range (range_around a))
unfolding enclosure_of_range range_around
range_around_ordered a h = record { ordered = over_mono 1 _ _ (floor_at_most_ceil 1 a.lo a.hi (lit≤ tt) h.ordered) }

-- ---- each operation: its grid form holds the exact result, keeps `lies in`, and has its ends in order

pub negated_holds : (x : Enclosure) (a : Ends) → LiesIn x (enclosure_of a) → LiesIn (negated x) (enclosure_of (grid_negated a))
unfolding grid_negated
negated_holds x a h = rounded_out_holds _ _ (negated_mono x (enclosure_of a) h)

pub grid_negated_mono : (a b : Ends) → LiesIn (enclosure_of a) (enclosure_of b) → LiesIn (enclosure_of (grid_negated a)) (enclosure_of (grid_negated b))
unfolding grid_negated
grid_negated_mono a b h = rounded_out_mono _ _ (negated_mono (enclosure_of a) (enclosure_of b) h)

pub grid_negated_ordered : (a : Ends) → IsOrdered (enclosure_of a) → IsOrdered (enclosure_of (grid_negated a))
unfolding grid_negated
grid_negated_ordered a h = rounded_out_ordered _ (negated_ordered (enclosure_of a) h)

pub magnitude_holds : (x : Enclosure) (a : Ends) → LiesIn x (enclosure_of a) → LiesIn (magnitude x) (enclosure_of (grid_magnitude a))
unfolding grid_magnitude
magnitude_holds x a h = rounded_out_holds _ _ (magnitude_mono x (enclosure_of a) h)

pub grid_magnitude_mono : (a b : Ends) → LiesIn (enclosure_of a) (enclosure_of b) → LiesIn (enclosure_of (grid_magnitude a)) (enclosure_of (grid_magnitude b))
unfolding grid_magnitude
grid_magnitude_mono a b h = rounded_out_mono _ _ (magnitude_mono (enclosure_of a) (enclosure_of b) h)

pub grid_magnitude_ordered : (a : Ends) → IsOrdered (enclosure_of a) → IsOrdered (enclosure_of (grid_magnitude a))
unfolding grid_magnitude
grid_magnitude_ordered a h = rounded_out_ordered _ (magnitude_ordered (enclosure_of a) h)

pub signed_square_holds : (x : Enclosure) (a : Ends) → LiesIn x (enclosure_of a) → LiesIn (signed_square x) (enclosure_of (grid_signed_square a))
unfolding grid_signed_square
signed_square_holds x a h = rounded_out_holds _ _ (signed_square_mono x (enclosure_of a) h)

pub grid_signed_square_mono : (a b : Ends) → LiesIn (enclosure_of a) (enclosure_of b) → LiesIn (enclosure_of (grid_signed_square a)) (enclosure_of (grid_signed_square b))
unfolding grid_signed_square
grid_signed_square_mono a b h = rounded_out_mono _ _ (signed_square_mono (enclosure_of a) (enclosure_of b) h)

pub grid_signed_square_ordered : (a : Ends) → IsOrdered (enclosure_of a) → IsOrdered (enclosure_of (grid_signed_square a))
unfolding grid_signed_square
grid_signed_square_ordered a h = rounded_out_ordered _ (signed_square_ordered (enclosure_of a) h)

pub root_holds : (x : Enclosure) (a : Ends) → LiesIn x (enclosure_of a) → LiesIn (root DEPTH x) (enclosure_of (grid_root a))
unfolding grid_root
root_holds x a h = rounded_out_holds _ _ (root_mono DEPTH x (enclosure_of a) h)

pub grid_root_mono : (a b : Ends) → LiesIn (enclosure_of a) (enclosure_of b) → LiesIn (enclosure_of (grid_root a)) (enclosure_of (grid_root b))
unfolding grid_root
grid_root_mono a b h = rounded_out_mono _ _ (root_mono DEPTH (enclosure_of a) (enclosure_of b) h)

pub grid_root_ordered : (a : Ends) → IsOrdered (enclosure_of a) → IsOrdered (enclosure_of (grid_root a))
unfolding grid_root
grid_root_ordered a h = rounded_out_ordered _ (root_ordered DEPTH (enclosure_of a) h)

pub sum_holds : (x y : Enclosure) (a b : Ends) → LiesIn x (enclosure_of a) → LiesIn y (enclosure_of b) → LiesIn (sum x y) (enclosure_of (grid_sum a b))
unfolding grid_sum
sum_holds x y a b h k = rounded_out_holds _ _ (sum_mono x y (enclosure_of a) (enclosure_of b) h k)

pub grid_sum_mono : (a b c d : Ends) → LiesIn (enclosure_of a) (enclosure_of c) → LiesIn (enclosure_of b) (enclosure_of d) → LiesIn (enclosure_of (grid_sum a b)) (enclosure_of (grid_sum c d))
unfolding grid_sum
grid_sum_mono a b c d h k = rounded_out_mono _ _ (sum_mono (enclosure_of a) (enclosure_of b) (enclosure_of c) (enclosure_of d) h k)

pub grid_sum_ordered : (a b : Ends) → IsOrdered (enclosure_of a) → IsOrdered (enclosure_of b) → IsOrdered (enclosure_of (grid_sum a b))
unfolding grid_sum
grid_sum_ordered a b h k = rounded_out_ordered _ (sum_ordered (enclosure_of a) (enclosure_of b) h k)

pub difference_holds : (x y : Enclosure) (a b : Ends) → LiesIn x (enclosure_of a) → LiesIn y (enclosure_of b) → LiesIn (difference x y) (enclosure_of (grid_difference a b))
unfolding grid_difference
difference_holds x y a b h k = rounded_out_holds _ _ (difference_mono x y (enclosure_of a) (enclosure_of b) h k)

pub grid_difference_mono : (a b c d : Ends) → LiesIn (enclosure_of a) (enclosure_of c) → LiesIn (enclosure_of b) (enclosure_of d) → LiesIn (enclosure_of (grid_difference a b)) (enclosure_of (grid_difference c d))
unfolding grid_difference
grid_difference_mono a b c d h k = rounded_out_mono _ _ (difference_mono (enclosure_of a) (enclosure_of b) (enclosure_of c) (enclosure_of d) h k)

pub grid_difference_ordered : (a b : Ends) → IsOrdered (enclosure_of a) → IsOrdered (enclosure_of b) → IsOrdered (enclosure_of (grid_difference a b))
unfolding grid_difference
grid_difference_ordered a b h k = rounded_out_ordered _ (difference_ordered (enclosure_of a) (enclosure_of b) h k)

pub hull_holds : (x y : Enclosure) (a b : Ends) → LiesIn x (enclosure_of a) → LiesIn y (enclosure_of b) → LiesIn (hull x y) (enclosure_of (grid_hull a b))
unfolding grid_hull
hull_holds x y a b h k = rounded_out_holds _ _ (hull_mono x y (enclosure_of a) (enclosure_of b) h k)

pub grid_hull_mono : (a b c d : Ends) → LiesIn (enclosure_of a) (enclosure_of c) → LiesIn (enclosure_of b) (enclosure_of d) → LiesIn (enclosure_of (grid_hull a b)) (enclosure_of (grid_hull c d))
unfolding grid_hull
grid_hull_mono a b c d h k = rounded_out_mono _ _ (hull_mono (enclosure_of a) (enclosure_of b) (enclosure_of c) (enclosure_of d) h k)

pub grid_hull_ordered : (a b : Ends) → IsOrdered (enclosure_of a) → IsOrdered (enclosure_of (grid_hull a b))
unfolding grid_hull
grid_hull_ordered a b h = rounded_out_ordered _ (hull_ordered (enclosure_of a) (enclosure_of b) h)

pub product_holds : (x y : Enclosure) (a b : Ends) → IsOrdered x → IsOrdered y → LiesIn x (enclosure_of a) → LiesIn y (enclosure_of b) → LiesIn (product x y) (enclosure_of (grid_product a b))
unfolding grid_product
product_holds x y a b o p h k = rounded_out_holds _ _ (product_mono x y (enclosure_of a) (enclosure_of b) o p h k)

pub grid_product_mono : (a b c d : Ends) → IsOrdered (enclosure_of a) → IsOrdered (enclosure_of b) → LiesIn (enclosure_of a) (enclosure_of c) → LiesIn (enclosure_of b) (enclosure_of d) → LiesIn (enclosure_of (grid_product a b)) (enclosure_of (grid_product c d))
unfolding grid_product
grid_product_mono a b c d o p h k = rounded_out_mono _ _ (product_mono (enclosure_of a) (enclosure_of b) (enclosure_of c) (enclosure_of d) o p h k)

pub grid_product_ordered : (a b : Ends) → IsOrdered (enclosure_of (grid_product a b))
unfolding grid_product
grid_product_ordered a b = rounded_out_ordered _ (product_ordered (enclosure_of a) (enclosure_of b))

pub divide_by_holds : (n : ℕ) (x : Enclosure) (a : Ends) → LiesIn x (enclosure_of a) → LiesIn (divide_by x n) (enclosure_of (grid_divide_by a n))
unfolding grid_divide_by
divide_by_holds n x a h = rounded_out_holds _ _ (divide_by_mono n x (enclosure_of a) h)

pub grid_divide_by_mono : (n : ℕ) (a b : Ends) → LiesIn (enclosure_of a) (enclosure_of b) → LiesIn (enclosure_of (grid_divide_by a n)) (enclosure_of (grid_divide_by b n))
unfolding grid_divide_by
grid_divide_by_mono n a b h = rounded_out_mono _ _ (divide_by_mono n (enclosure_of a) (enclosure_of b) h)

pub grid_divide_by_ordered : (n : ℕ) (a : Ends) → IsOrdered (enclosure_of a) → IsOrdered (enclosure_of (grid_divide_by a n))
unfolding grid_divide_by
grid_divide_by_ordered n a h = rounded_out_ordered _ (divide_by_ordered n (enclosure_of a) h)

pub scale_units_holds : (n : ℕ) (x : Enclosure) (a : Ends) → LiesIn x (enclosure_of a) → LiesIn (scale_units x n) (enclosure_of_range (grid_scale_units a n))
unfolding grid_scale_units
scale_units_holds n x a h = range_around_holds _ _ (scale_units_mono n x (enclosure_of a) h)

pub grid_scale_units_mono : (n : ℕ) (a b : Ends) → LiesIn (enclosure_of a) (enclosure_of b) → LiesIn (enclosure_of_range (grid_scale_units a n)) (enclosure_of_range (grid_scale_units b n))
unfolding grid_scale_units
grid_scale_units_mono n a b h = range_around_mono _ _ (scale_units_mono n (enclosure_of a) (enclosure_of b) h)

pub grid_scale_units_ordered : (n : ℕ) (a : Ends) → IsOrdered (enclosure_of a) → IsOrdered (enclosure_of_range (grid_scale_units a n))
unfolding grid_scale_units
grid_scale_units_ordered n a h = range_around_ordered _ (scale_units_ordered n (enclosure_of a) h)

pub times_ratio_holds : (n : ℕ) (x y : Enclosure) (a : Ends) (r : Range) → IsOrdered x → IsOrdered y → LiesIn x (enclosure_of a) → LiesIn y (enclosure_of_range r) → LiesIn (times_ratio x y n) (enclosure_of (grid_times_ratio a r n))
unfolding grid_times_ratio
times_ratio_holds n x y a r o p h k = rounded_out_holds _ _ (times_ratio_mono n x y (enclosure_of a) (enclosure_of_range r) o p h k)

pub grid_times_ratio_mono : (n : ℕ) (a b : Ends) (r s : Range) → IsOrdered (enclosure_of a) → IsOrdered (enclosure_of_range r) → LiesIn (enclosure_of a) (enclosure_of b) → LiesIn (enclosure_of_range r) (enclosure_of_range s) → LiesIn (enclosure_of (grid_times_ratio a r n)) (enclosure_of (grid_times_ratio b s n))
unfolding grid_times_ratio
grid_times_ratio_mono n a b r s o p h k = rounded_out_mono _ _ (times_ratio_mono n (enclosure_of a) (enclosure_of_range r) (enclosure_of b) (enclosure_of_range s) o p h k)

pub grid_times_ratio_ordered : (n : ℕ) (a : Ends) (r : Range) → IsOrdered (enclosure_of (grid_times_ratio a r n))
unfolding grid_times_ratio
grid_times_ratio_ordered n a r = rounded_out_ordered _ (times_ratio_ordered n (enclosure_of a) (enclosure_of_range r))
