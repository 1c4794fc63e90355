-- The laws of the operations, which series, values and tolerances rest on.
use Rattle.std.specs.Prelude.{ℕ, suc, ◌+◌, ◌*◌, ◌<◌, ◌≤◌, ◌↔◌, pos, ◌+ℤ◌, ◌≤ℤ◌, ◌<ℤ◌, max, unsigned_abs}
use Rattle.fixed_interval.specs.Enclosure.{Enclosure, IsOrdered, LiesIn, IsAboveZero, IsBelowZero, negated, sum, difference, product, scale_units, divide_by, times_ratio, hull, magnitude, signed_square, root, natural}
use Rattle.fixed_interval.specs.Grid.{Ends, Range, reach, UNIT, DEPTH, enclosure_of, enclosure_of_range, rounded_out, grid_negated, grid_sum, grid_difference, grid_product, grid_scale_units, grid_divide_by, grid_times_ratio, grid_hull, grid_magnitude, grid_signed_square, grid_root}
use Rattle.fixed_interval.specs.Bound.{Bound, IsBounded, IsBoundedRange, sum_bound, ratio_bound, product_bound, divide_bound, scale_bound, hull_bound, square_bound}

-- x lies in ends of the grid, or in a range of whole units
abbrev pub LiesOnGrid : Enclosure → Ends → Type 0
LiesOnGrid x a = LiesIn x (enclosure_of a)

abbrev pub LiesOnUnits : Enclosure → Range → Type 0
LiesOnUnits x r = LiesIn x (enclosure_of_range r)

-- ends of the grid lie in others, ranges of whole units too
abbrev pub EndsLieIn : Ends → Ends → Type 0
EndsLieIn a b = LiesIn (enclosure_of a) (enclosure_of b)

abbrev pub RangeLiesIn : Range → Range → Type 0
RangeLiesIn r s = LiesIn (enclosure_of_range r) (enclosure_of_range s)

abbrev pub AreOrdered : Ends → Type 0
AreOrdered a = IsOrdered (enclosure_of a)

abbrev pub IsOrderedRange : Range → Type 0
IsOrderedRange r = IsOrdered (enclosure_of_range r)

-- `lies in` is a preorder, and what lies in an enclosure with a sign has that sign and not the other
pub record LiesInIsAPreorder : Type 0 where
  pub reflexive : (a : Enclosure) → LiesIn a a
  pub transitive : (a b c : Enclosure) → LiesIn a b → LiesIn b c → LiesIn a c
  pub above : (a b : Enclosure) → LiesIn a b → IsAboveZero b → IsAboveZero a
  pub below : (a b : Enclosure) → LiesIn a b → IsBelowZero b → IsBelowZero a
  pub above_only : (a b : Enclosure) → IsOrdered a → LiesIn a b → IsAboveZero b → ¬ IsBelowZero a
  pub below_only : (a b : Enclosure) → IsOrdered a → LiesIn a b → IsBelowZero b → ¬ IsAboveZero a

-- ends of the grid have the sign of their nearer one
pub record EndsShowTheSign : Type 0 where
  pub above : (a : Ends) → IsAboveZero (enclosure_of a) ↔ (pos 0 <ℤ a.lo)
  pub below : (a : Ends) → IsBelowZero (enclosure_of a) ↔ (a.hi <ℤ pos 0)

-- rounding outward gives the least enclosure on the grid
pub record RoundsToTheLeast : Type 0 where
  pub holds : (x : Enclosure) → LiesOnGrid x (rounded_out x)
  pub least : (x : Enclosure) (a : Ends) → LiesOnGrid x a → EndsLieIn (rounded_out x) a

-- arguments that lie in others give a result that lies in theirs
pub record KeepsLiesIn : Type 0 where
  pub of_negated : (a b : Enclosure) → LiesIn a b → LiesIn (negated a) (negated b)
  pub of_sum : (a b c d : Enclosure) → LiesIn a c → LiesIn b d → LiesIn (sum a b) (sum c d)
  pub of_difference : (a b c d : Enclosure) → LiesIn a c → LiesIn b d → LiesIn (difference a b) (difference c d)
  pub of_product : (a b c d : Enclosure) → IsOrdered a → IsOrdered b → LiesIn a c → LiesIn b d → LiesIn (product a b) (product c d)
  pub of_scale_units : (n : ℕ) (a b : Enclosure) → LiesIn a b → LiesIn (scale_units a n) (scale_units b n)
  pub of_divide_by : (n : ℕ) (a b : Enclosure) → LiesIn a b → LiesIn (divide_by a n) (divide_by b n)
  pub of_times_ratio : (n : ℕ) (a b c d : Enclosure) → IsOrdered a → IsOrdered b → LiesIn a c → LiesIn b d → LiesIn (times_ratio a b n) (times_ratio c d n)
  pub of_hull : (a b c d : Enclosure) → LiesIn a c → LiesIn b d → LiesIn (hull a b) (hull c d)
  pub of_magnitude : (a b : Enclosure) → LiesIn a b → LiesIn (magnitude a) (magnitude b)
  pub of_signed_square : (a b : Enclosure) → LiesIn a b → LiesIn (signed_square a) (signed_square b)
  pub of_root : (n : ℕ) (a b : Enclosure) → LiesIn a b → LiesIn (root n a) (root n b)

-- the same on the grid
pub record GridKeepsLiesIn : Type 0 where
  pub of_negated : (a b : Ends) → EndsLieIn a b → EndsLieIn (grid_negated a) (grid_negated b)
  pub of_sum : (a b c d : Ends) → EndsLieIn a c → EndsLieIn b d → EndsLieIn (grid_sum a b) (grid_sum c d)
  pub of_difference : (a b c d : Ends) → EndsLieIn a c → EndsLieIn b d → EndsLieIn (grid_difference a b) (grid_difference c d)
  pub of_product : (a b c d : Ends) → AreOrdered a → AreOrdered b → EndsLieIn a c → EndsLieIn b d → EndsLieIn (grid_product a b) (grid_product c d)
  pub of_scale_units : (n : ℕ) (a b : Ends) → EndsLieIn a b → RangeLiesIn (grid_scale_units a n) (grid_scale_units b n)
  pub of_divide_by : (n : ℕ) (a b : Ends) → EndsLieIn a b → EndsLieIn (grid_divide_by a n) (grid_divide_by b n)
  pub of_times_ratio : (n : ℕ) (a b : Ends) (r s : Range) → AreOrdered a → IsOrderedRange r → EndsLieIn a b → RangeLiesIn r s → EndsLieIn (grid_times_ratio a r n) (grid_times_ratio b s n)
  pub of_hull : (a b c d : Ends) → EndsLieIn a c → EndsLieIn b d → EndsLieIn (grid_hull a b) (grid_hull c d)
  pub of_magnitude : (a b : Ends) → EndsLieIn a b → EndsLieIn (grid_magnitude a) (grid_magnitude b)
  pub of_signed_square : (a b : Ends) → EndsLieIn a b → EndsLieIn (grid_signed_square a) (grid_signed_square b)
  pub of_root : (a b : Ends) → EndsLieIn a b → EndsLieIn (grid_root a) (grid_root b)

-- the grid form holds the exact result of arguments that lie in its own, the root at the grid's depth
pub record GridHoldsExact : Type 0 where
  pub of_negated : (x : Enclosure) (a : Ends) → LiesOnGrid x a → LiesOnGrid (negated x) (grid_negated a)
  pub of_sum : (x y : Enclosure) (a b : Ends) → LiesOnGrid x a → LiesOnGrid y b → LiesOnGrid (sum x y) (grid_sum a b)
  pub of_difference : (x y : Enclosure) (a b : Ends) → LiesOnGrid x a → LiesOnGrid y b → LiesOnGrid (difference x y) (grid_difference a b)
  pub of_product : (x y : Enclosure) (a b : Ends) → IsOrdered x → IsOrdered y → LiesOnGrid x a → LiesOnGrid y b → LiesOnGrid (product x y) (grid_product a b)
  pub of_scale_units : (n : ℕ) (x : Enclosure) (a : Ends) → LiesOnGrid x a → LiesOnUnits (scale_units x n) (grid_scale_units a n)
  pub of_divide_by : (n : ℕ) (x : Enclosure) (a : Ends) → LiesOnGrid x a → LiesOnGrid (divide_by x n) (grid_divide_by a n)
  pub of_times_ratio : (n : ℕ) (x y : Enclosure) (a : Ends) (r : Range) → IsOrdered x → IsOrdered y → LiesOnGrid x a → LiesOnUnits y r → LiesOnGrid (times_ratio x y n) (grid_times_ratio a r n)
  pub of_hull : (x y : Enclosure) (a b : Ends) → LiesOnGrid x a → LiesOnGrid y b → LiesOnGrid (hull x y) (grid_hull a b)
  pub of_magnitude : (x : Enclosure) (a : Ends) → LiesOnGrid x a → LiesOnGrid (magnitude x) (grid_magnitude a)
  pub of_signed_square : (x : Enclosure) (a : Ends) → LiesOnGrid x a → LiesOnGrid (signed_square x) (grid_signed_square a)
  pub of_root : (x : Enclosure) (a : Ends) → LiesOnGrid x a → LiesOnGrid (root DEPTH x) (grid_root a)

-- ends in order give a result whose ends are in order
pub record KeepsOrder : Type 0 where
  pub of_negated : (a : Enclosure) → IsOrdered a → IsOrdered (negated a)
  pub of_sum : (a b : Enclosure) → IsOrdered a → IsOrdered b → IsOrdered (sum a b)
  pub of_difference : (a b : Enclosure) → IsOrdered a → IsOrdered b → IsOrdered (difference a b)
  pub of_product : (a b : Enclosure) → IsOrdered (product a b)
  pub of_scale_units : (n : ℕ) (a : Enclosure) → IsOrdered a → IsOrdered (scale_units a n)
  pub of_divide_by : (n : ℕ) (a : Enclosure) → IsOrdered a → IsOrdered (divide_by a n)
  pub of_times_ratio : (n : ℕ) (a b : Enclosure) → IsOrdered (times_ratio a b n)
  pub of_hull : (a b : Enclosure) → IsOrdered a → IsOrdered (hull a b)
  pub of_magnitude : (a : Enclosure) → IsOrdered a → IsOrdered (magnitude a)
  pub of_signed_square : (a : Enclosure) → IsOrdered a → IsOrdered (signed_square a)
  pub of_root : (n : ℕ) (a : Enclosure) → IsOrdered a → IsOrdered (root n a)
  pub of_rounded_out : (a : Enclosure) → IsOrdered a → AreOrdered (rounded_out a)

-- a greater depth lies in a lesser
abbrev pub RootNests : Type 0
RootNests = (n : ℕ) (a : Enclosure) → LiesIn (root (suc n) a) (root n a)

-- how far the result of each operation reaches, and how wide it is
pub record BoundsEachResult : Type 0 where
  pub of_negated : (a : Ends) (s : Bound) → IsBounded a s → IsBounded (grid_negated a) s
  pub of_sum : (a b : Ends) (s t : Bound) → IsBounded a s → IsBounded b t → IsBounded (grid_sum a b) (sum_bound s t)
  pub of_difference : (a b : Ends) (s t : Bound) → IsBounded a s → IsBounded b t → IsBounded (grid_difference a b) (sum_bound s t)
  pub of_product : (a b : Ends) (s t : Bound) → IsBounded a s → IsBounded b t → IsBounded (grid_product a b) (product_bound s t)
  pub of_scale_units : (a : Ends) (s : Bound) (n : ℕ) → IsBounded a s → IsBoundedRange (grid_scale_units a n) (scale_bound s n)
  pub of_divide_by : (a : Ends) (s : Bound) (n : ℕ) → 0 < n → IsBounded a s → IsBounded (grid_divide_by a n) (divide_bound s n)
  pub of_times_ratio : (a : Ends) (r : Range) (s t : Bound) (n : ℕ) → 0 < n → IsBounded a s → IsBoundedRange r t → IsBounded (grid_times_ratio a r n) (ratio_bound s t n)
  pub of_hull : (a b : Ends) (s t : Bound) → IsBounded a s → IsBounded b t → (gap : ℕ) → a.lo ≤ℤ (b.hi +ℤ pos gap) → b.lo ≤ℤ (a.hi +ℤ pos gap) → IsBounded (grid_hull a b) (hull_bound s t gap)
  pub of_magnitude : (a : Ends) (s : Bound) → IsBounded a s → IsBounded (grid_magnitude a) s
  pub of_signed_square : (a : Ends) (s : Bound) → IsBounded a s → IsBounded (grid_signed_square a) (square_bound s)
  -- a root is the narrower the farther from 0 its numbers are: c is at most the root of the lower end, and 0 will do
  pub of_root : (a : Ends) (s t : Bound) (c : ℕ) → IsBounded a s → c * c ≤ natural a.lo * UNIT → s.width * UNIT ≤ t.width * (2 * c + t.width) → s.reach * UNIT ≤ t.reach * t.reach → IsBounded (grid_root a) (record { reach = t.reach; width = t.width + 1 })

-- the condition of a product over n: it is within m exactly where the greatest product is within m n
abbrev pub RatioIsInRange : Type 0
RatioIsInRange = (a : Ends) (r : Range) (m n : ℕ) → 0 < n → (reach (grid_times_ratio a r n) ≤ m) ↔ (reach a * max (unsigned_abs r.lo) (unsigned_abs r.hi) ≤ m * n)
