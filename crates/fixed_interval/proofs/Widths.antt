-- The reach and the width of each operation's result, from those of its arguments.
use Rattle.std.proofs.Common.{◌≡◌, ℕ, suc, ◌+◌, ◌*◌, ◌<◌, ◌≤◌, max, ℤ, pos, negsuc, neg_ℤ, ◌+ℤ◌, ◌*ℤ◌, ◌≤ℤ◌, unsigned_abs, arith, lit≤, le_trans, mul-le-mul, mul-le-mul_right, lt_of_mul-lt-mul_right}
use Rattle.std.proofs.Math.IntN.{*ℤ_comm}
use Rattle.std.specs.Int.{int_min, int_max, int_div_euclid, div_ceil}
use Rattle.std.proofs.lemmas.Int.{ints, clamps}
use borrow.Author.Differences.{up, down}
use Rattle.fixed_interval.specs.Grid.{Ends, Range, reach, UNIT, grid_negated, grid_sum, grid_difference, grid_product, grid_divide_by, grid_hull, grid_magnitude, grid_signed_square, grid_root, grid_scale_units, grid_times_ratio}
use Rattle.fixed_interval.specs.Bound.{Bound, AreBounded, IsBounded, IsBoundedRange, sum_bound, ratio_bound, product_bound, divide_bound, scale_bound, hull_bound, square_bound}
use Rattle.fixed_interval.specs.Whole.{floor_over, ceil_over, least_of_four, greatest_of_four}
use Rattle.fixed_interval.specs.Enclosure.{natural, whole_root, root_up}
use Rattle.fixed_interval.proofs.Whole.{div-parts}
use Rattle.fixed_interval.proofs.GridLaws.{least_product, greatest_product, units, grid_negated-is, grid_sum-is, grid_difference-is, grid_product-is, grid_divide_by-is, grid_hull-is, grid_magnitude-is, grid_signed_square-is, grid_scale_units-is, grid_times_ratio-is}
use Rattle.fixed_interval.proofs.RootLaws.{grid_root-is, root_up_least, whole_root_next, whole_root_greatest}
use Rattle.fixed_interval.proofs.Roots.{reach-roots, roots_of_ordered}
use Rattle.fixed_interval.proofs.Sizes.{sum_ordered, reach-sum, difference_ordered, reach-difference, hull_ordered, reach-hull, magnitude_ordered, abs-magnitude_low, abs-magnitude_high, both_within, abs-least_product, abs-greatest_product, products_ordered, abs-scaled, scaled_ordered, div_ceil_covers, div_ceil_least, products_in_range, quotient_ordered, reach-quotient, square_ordered, abs-square}

-- ---- quotients
-- what is apart by k is, over n and rounded outward, apart by k over n rounded up, and one step more
quotient_width : (y z : ℤ) (k n : ℕ) → 0 < n → z ≤ℤ (y +ℤ pos k) → ceil_over z n ≤ℤ (floor_over y n +ℤ pos (div_ceil k n + 1))
quotient_width y z k n h l = core (int_div_euclid y (pos n)) (int_div_euclid (neg_ℤ z) (pos n)) (div_ceil k n) (omega (arith, ints, (div-parts y n h).1, (div-parts (neg_ℤ z) n h).1, div_ceil_covers k n h))
  where
    core : (q p : ℤ) (c : ℕ) → (down q + down p) * n < (up q + up p + c + 2) * n → neg_ℤ p ≤ℤ (q +ℤ pos (c + 1))
    core q p c s = let t : down q + down p < up q + up p + c + 2 = lt_of_mul-lt-mul_right n s in omega (arith, ints)

quotient_bounded : (y z : ℤ) (m k n : ℕ) → 0 < n → y ≤ℤ z → unsigned_abs y ≤ m → unsigned_abs z ≤ m → z ≤ℤ (y +ℤ pos k) → AreBounded (floor_over y n) (ceil_over z n) (record { reach = div_ceil m n; width = div_ceil k n + 1 })
quotient_bounded y z m k n h o p q l = record { ordered = quotient_ordered y z n h o; reach = reach-quotient y z m n h p q; width = quotient_width y z k n h l }

-- ---- products
-- y and y' are at most w apart
record AreNear (w : ℕ) (y y' : ℤ) : Type 0 where
  above : y ≤ℤ (y' +ℤ pos w)
  below : y' ≤ℤ (y +ℤ pos w)

-- the product moves by at most the reach of one factor times the move of the other
second_moved : (x y y' : ℤ) (m w : ℕ) → unsigned_abs x ≤ m → AreNear w y y' → (x *ℤ y) ≤ℤ ((x *ℤ y') +ℤ pos (m * w))
second_moved (pos a) y y' m w h n =
    let k : up y + down y' ≤ up y' + down y + w = omega (arith, ints, n.above) in
    omega (arith, ints, mul-le-mul_right a k, mul-le-mul_right w h)
second_moved (negsuc a) y y' m w h n =
    let k : up y' + down y ≤ up y + down y' + w = omega (arith, ints, n.below) in
    omega (arith, ints, mul-le-mul_right (suc a) k, mul-le-mul_right w h)

corners_near : (x x' y y' : ℤ) (m v n w : ℕ) → unsigned_abs x ≤ m → unsigned_abs y' ≤ n → AreNear v x x' → AreNear w y y' → (x *ℤ y) ≤ℤ ((x' *ℤ y') +ℤ pos (m * w + n * v))
corners_near x x' y y' m v n w h k p q = joined (x *ℤ y) (x *ℤ y') (y' *ℤ x) (y' *ℤ x') (x' *ℤ y') (second_moved x y y' m w h q) (*ℤ_comm x y') (second_moved y' x x' n v k p) (*ℤ_comm y' x')
  where
    joined : (a b b' c c' : ℤ) → a ≤ℤ (b +ℤ pos (m * w)) → b ≡ b' → b' ≤ℤ (c +ℤ pos (n * v)) → c ≡ c' → a ≤ℤ (c' +ℤ pos (m * w + n * v))
    joined a b b' c c' r e s f = omega (arith, ints, r, s, e, f)

four_greatest_below : (a b c d m : ℤ) → a ≤ℤ m → b ≤ℤ m → c ≤ℤ m → d ≤ℤ m → greatest_of_four a b c d ≤ℤ m
unfolding greatest_of_four
four_greatest_below a b c d m p q r s = two (int_max a b) (int_max c d) (two a b p q) (two c d r s)
  where
    two : (x y : ℤ) → x ≤ℤ m → y ≤ℤ m → int_max x y ≤ℤ m
    two x y h k = omega (arith, ints, clamps)

four_least_above : (a b c d m : ℤ) (k : ℕ) → m ≤ℤ (a +ℤ pos k) → m ≤ℤ (b +ℤ pos k) → m ≤ℤ (c +ℤ pos k) → m ≤ℤ (d +ℤ pos k) → m ≤ℤ (least_of_four a b c d +ℤ pos k)
unfolding least_of_four
four_least_above a b c d m k p q r s = two (int_min a b) (int_min c d) (two a b p q) (two c d r s)
  where
    two : (x y : ℤ) → m ≤ℤ (x +ℤ pos k) → m ≤ℤ (y +ℤ pos k) → m ≤ℤ (int_min x y +ℤ pos k)
    two x y h l = omega (arith, ints, clamps)

near_self : (w : ℕ) (x : ℤ) → AreNear w x x
near_self w x = record { above = omega (arith, ints); below = omega (arith, ints) }

near_ends : (lo hi : ℤ) (b : Bound) → AreBounded lo hi b → AreNear b.width lo hi
near_ends lo hi b h = record { above = omega (arith, ints, h.ordered); below = h.width }

near_turned : (w : ℕ) (x y : ℤ) → AreNear w x y → AreNear w y x
near_turned w x y h = record { above = h.below; below = h.above }

module _ (a b : Ends) (s t : Bound) (h : IsBounded a s) (k : IsBounded b t) where
  -- each corner is above none of the others by more than the spread
  from_corner : (x y : ℤ) → unsigned_abs x ≤ s.reach → AreNear s.width x a.lo → AreNear s.width x a.hi → AreNear t.width y b.lo → AreNear t.width y b.hi → (x *ℤ y) ≤ℤ (least_product a b +ℤ pos (s.reach * t.width + t.reach * s.width))
  from_corner x y m p q p' q' =
      let low : unsigned_abs b.lo ≤ t.reach = omega (arith, k.reach) in
      let high : unsigned_abs b.hi ≤ t.reach = omega (arith, k.reach) in
      four_least_above _ _ _ _ _ _ (corners_near x a.lo y b.lo s.reach s.width t.reach t.width m low p p') (corners_near x a.lo y b.hi s.reach s.width t.reach t.width m high p q') (corners_near x a.hi y b.lo s.reach s.width t.reach t.width m low q p') (corners_near x a.hi y b.hi s.reach s.width t.reach t.width m high q q')

  products_spread : greatest_product a b ≤ℤ (least_product a b +ℤ pos (s.reach * t.width + t.reach * s.width))
  products_spread =
      let low : unsigned_abs a.lo ≤ s.reach = omega (arith, h.reach) in
      let high : unsigned_abs a.hi ≤ s.reach = omega (arith, h.reach) in
      let n = near_ends a.lo a.hi s h in
      let n' = near_ends b.lo b.hi t k in
      let m = near_turned _ _ _ n in
      let m' = near_turned _ _ _ n' in
      four_greatest_below _ _ _ _ _ (from_corner a.lo b.lo low (near_self _ _) n (near_self _ _) n') (from_corner a.lo b.hi low (near_self _ _) n m' (near_self _ _)) (from_corner a.hi b.lo high m (near_self _ _) (near_self _ _) n') (from_corner a.hi b.hi high m (near_self _ _) m' (near_self _ _))

  product_reach_low : unsigned_abs (least_product a b) ≤ s.reach * t.reach
  product_reach_low = le_trans (abs-least_product a b) (mul-le-mul h.reach k.reach)

  product_reach_high : unsigned_abs (greatest_product a b) ≤ s.reach * t.reach
  product_reach_high = le_trans (abs-greatest_product a b) (mul-le-mul h.reach k.reach)

  ratio_bounded : (n : ℕ) → 0 < n → AreBounded (floor_over (least_product a b) n) (ceil_over (greatest_product a b) n) (ratio_bound s t n)
  unfolding ratio_bound
  ratio_bounded n p = quotient_bounded (least_product a b) (greatest_product a b) (s.reach * t.reach) (s.reach * t.width + t.reach * s.width) n p (products_ordered a b) product_reach_low product_reach_high products_spread

  pub grid_product_bounded : IsBounded (grid_product a b) (product_bound s t)
  unfolding product_bound
  grid_product_bounded = rw (grid_product-is a b) (ratio_bounded UNIT (lit≤ tt))

  pub grid_sum_bounded : IsBounded (grid_sum a b) (sum_bound s t)
  unfolding sum_bound
  grid_sum_bounded = rw (grid_sum-is a b) (record { ordered = sum_ordered a.lo b.lo a.hi b.hi h.ordered k.ordered; reach = le_trans (reach-sum a.lo b.lo a.hi b.hi) (omega (arith, h.reach, k.reach)); width = omega (arith, ints, h.width, k.width) })

  pub grid_difference_bounded : IsBounded (grid_difference a b) (sum_bound s t)
  unfolding sum_bound
  grid_difference_bounded = rw (grid_difference-is a b) (record { ordered = difference_ordered a.lo b.lo a.hi b.hi h.ordered k.ordered; reach = le_trans (reach-difference a.lo b.lo a.hi b.hi) (omega (arith, h.reach, k.reach)); width = omega (arith, ints, h.width, k.width) })

  pub grid_hull_bounded : (gap : ℕ) → a.lo ≤ℤ (b.hi +ℤ pos gap) → b.lo ≤ℤ (a.hi +ℤ pos gap) → IsBounded (grid_hull a b) (hull_bound s t gap)
  unfolding hull_bound
  grid_hull_bounded gap p q = rw (grid_hull-is a b) (record { ordered = hull_ordered a.lo b.lo a.hi b.hi h.ordered; reach = le_trans (reach-hull a.lo b.lo a.hi b.hi) (omega (arith, h.reach, k.reach)); width = apart a.lo a.hi b.lo b.hi s.width t.width h.width k.width p q })
    where
      apart : (x x' y y' : ℤ) (v w : ℕ) → x' ≤ℤ (x +ℤ pos v) → y' ≤ℤ (y +ℤ pos w) → x ≤ℤ (y' +ℤ pos gap) → y ≤ℤ (x' +ℤ pos gap) → int_max x' y' ≤ℤ (int_min x y +ℤ pos (v + w + gap))
      apart x x' y y' v w f g m n = omega (arith, ints, clamps)

pub grid_times_ratio_bounded : (a : Ends) (r : Range) (s t : Bound) (n : ℕ) → 0 < n → IsBounded a s → IsBoundedRange r t → IsBounded (grid_times_ratio a r n) (ratio_bound s t n)
grid_times_ratio_bounded a r s t n p h k = rw (grid_times_ratio-is a r n p) (ratio_bounded a (units r) s t h (record { ordered = k.ordered; reach = k.reach; width = k.width }) n p)

-- a product over n is in range exactly where the greatest product is
pub ratio_in_range : (a : Ends) (r : Range) (m n : ℕ) → 0 < n → reach (grid_times_ratio a r n) ≤ m → reach a * max (unsigned_abs r.lo) (unsigned_abs r.hi) ≤ m * n
ratio_in_range a r m n p h = core (rw (grid_times_ratio-is a r n p) at h)
  where
    core : max (unsigned_abs (floor_over (least_product a (units r)) n)) (unsigned_abs (ceil_over (greatest_product a (units r)) n)) ≤ m → reach a * max (unsigned_abs r.lo) (unsigned_abs r.hi) ≤ m * n
    core l = products_in_range a (units r) m n p (omega arith) (omega arith)

pub ratio_stays_in_range : (a : Ends) (r : Range) (m n : ℕ) → 0 < n → reach a * max (unsigned_abs r.lo) (unsigned_abs r.hi) ≤ m * n → reach (grid_times_ratio a r n) ≤ m
ratio_stays_in_range a r m n p h = rw (grid_times_ratio-is a r n p) (le_trans (reach-quotient (least_product a (units r)) (greatest_product a (units r)) _ n p (abs-least_product a (units r)) (abs-greatest_product a (units r))) (div_ceil_least _ n m p h))

-- ---- operations on one
pub grid_negated_bounded : (a : Ends) (s : Bound) → IsBounded a s → IsBounded (grid_negated a) s
grid_negated_bounded a s h = rw (grid_negated-is a) (record { ordered = omega (arith, ints, h.ordered); reach = turned a.lo a.hi h.reach; width = omega (arith, ints, h.width) })
  where
    turned : (x y : ℤ) → max (unsigned_abs x) (unsigned_abs y) ≤ s.reach → max (unsigned_abs (neg_ℤ y)) (unsigned_abs (neg_ℤ x)) ≤ s.reach
    turned x y l = omega (arith, ints)

pub grid_divide_by_bounded : (a : Ends) (s : Bound) (n : ℕ) → 0 < n → IsBounded a s → IsBounded (grid_divide_by a n) (divide_bound s n)
unfolding divide_bound
grid_divide_by_bounded a s n p h = rw (grid_divide_by-is a n p) (quotient_bounded a.lo a.hi s.reach s.width n p h.ordered (omega (arith, h.reach)) (omega (arith, h.reach)) h.width)

pub grid_scale_units_bounded : (a : Ends) (s : Bound) (n : ℕ) → IsBounded a s → IsBoundedRange (grid_scale_units a n) (scale_bound s n)
unfolding scale_bound
grid_scale_units_bounded a s n h = rw (grid_scale_units-is a n) (quotient_bounded (a.lo *ℤ pos n) (a.hi *ℤ pos n) (s.reach * n) (s.width * n) UNIT (lit≤ tt) (scaled_ordered a.lo a.hi n h.ordered) (abs-scaled a.lo n s.reach (omega (arith, h.reach))) (abs-scaled a.hi n s.reach (omega (arith, h.reach))) (apart a.lo a.hi h.width))
  where
    apart : (x y : ℤ) → y ≤ℤ (x +ℤ pos s.width) → (y *ℤ pos n) ≤ℤ ((x *ℤ pos n) +ℤ pos (s.width * n))
    apart x y l = let k : up y + down x ≤ up x + down y + s.width = omega (arith, ints) in omega (arith, ints, mul-le-mul_right n k)

pub grid_magnitude_bounded : (a : Ends) (s : Bound) → IsBounded a s → IsBounded (grid_magnitude a) s
grid_magnitude_bounded a s h = rw (grid_magnitude-is a) (record { ordered = magnitude_ordered a.lo a.hi h.ordered; reach = both_within (abs-magnitude_low a.lo a.hi s.reach (omega (arith, h.reach)) (omega (arith, h.reach))) (abs-magnitude_high a.lo a.hi s.reach (omega (arith, h.reach)) (omega (arith, h.reach))); width = apart a.lo a.hi h.ordered h.width })
  where
    apart : (x y : ℤ) → x ≤ℤ y → y ≤ℤ (x +ℤ pos s.width) → int_max (neg_ℤ x) y ≤ℤ (int_max (int_max x (neg_ℤ y)) (pos 0) +ℤ pos s.width)
    apart x y o l = omega (arith, ints, clamps)

squares_near : (a b m v : ℕ) → a ≤ m → b ≤ m → b ≤ a + v → b * b ≤ a * a + 2 * (m * v)
squares_near a b m v h k l = omega (arith, mul-le-mul_right a l, mul-le-mul_right b l, mul-le-mul_right v h, mul-le-mul_right v k)

squares_across : (a b m v : ℕ) → a ≤ m → b ≤ m → a + b ≤ v → a * a + b * b ≤ 2 * (m * v)
squares_across a b m v h k l =
    let p : a ≤ v = omega arith in
    let q : b ≤ v = omega arith in
    omega (arith, mul-le-mul h p, mul-le-mul k q)

square_apart : (x y : ℤ) (m v : ℕ) → x ≤ℤ y → unsigned_abs x ≤ m → unsigned_abs y ≤ m → y ≤ℤ (x +ℤ pos v) → (y *ℤ pos (unsigned_abs y)) ≤ℤ ((x *ℤ pos (unsigned_abs x)) +ℤ pos (2 * (m * v)))
square_apart (pos a) (pos b) m v o h k l = omega (arith, ints, squares_near a b m v h k (omega (arith, ints)))
square_apart (pos a) (negsuc b) m v o h k l = absurd (omega (arith, ints))
square_apart (negsuc a) (pos b) m v o h k l = omega (arith, ints, squares_across (suc a) b m v h k (omega (arith, ints)))
square_apart (negsuc a) (negsuc b) m v o h k l = omega (arith, ints, squares_near (suc b) (suc a) m v k h (omega (arith, ints)))

pub grid_signed_square_bounded : (a : Ends) (s : Bound) → IsBounded a s → IsBounded (grid_signed_square a) (square_bound s)
unfolding square_bound
grid_signed_square_bounded a s h =
    let low : unsigned_abs a.lo ≤ s.reach = omega (arith, h.reach) in
    let high : unsigned_abs a.hi ≤ s.reach = omega (arith, h.reach) in
    rw (grid_signed_square-is a) (quotient_bounded (a.lo *ℤ pos (unsigned_abs a.lo)) (a.hi *ℤ pos (unsigned_abs a.hi)) (s.reach * s.reach) (2 * (s.reach * s.width)) UNIT (lit≤ tt) (square_ordered a.lo a.hi h.ordered) (abs-square a.lo s.reach low) (abs-square a.hi s.reach high) (square_apart a.lo a.hi s.reach s.width h.ordered low high h.width))

-- the root rises by at most q where the number rises by k, and q is the less the farther from 0 the number is
root_apart : (m h k c q : ℕ) → h ≤ m + k → c ≤ whole_root m → k ≤ q * (2 * c + q) → root_up h ≤ whole_root m + 1 + q
root_apart m h k c q l p r = root_up_least h (whole_root m + 1 + q) (squared (whole_root m) p (whole_root_next m))
  where
    squared : (w : ℕ) → c ≤ w → m < (w + 1) * (w + 1) → h ≤ (w + 1 + q) * (w + 1 + q)
    squared w s t = omega (arith, mul-le-mul_right q s)

natural_apart : (x y : ℤ) (v : ℕ) → y ≤ℤ (x +ℤ pos v) → natural y ≤ natural x + v
unfolding natural
natural_apart (pos a) (pos b) v h = omega (arith, ints)
natural_apart (pos a) (negsuc b) v h = omega arith
natural_apart (negsuc a) (pos b) v h = omega (arith, ints)
natural_apart (negsuc a) (negsuc b) v h = omega arith

pub grid_root_bounded : (a : Ends) (s t : Bound) (c : ℕ) → IsBounded a s → c * c ≤ natural a.lo * UNIT → s.width * UNIT ≤ t.width * (2 * c + t.width) → s.reach * UNIT ≤ t.reach * t.reach → IsBounded (grid_root a) (record { reach = t.reach; width = t.width + 1 })
grid_root_bounded a s t c h low wide far = rw (grid_root-is a) (record { ordered = roots_of_ordered a.lo a.hi h.ordered; reach = reach-roots a.lo a.hi s.reach t.reach (omega (arith, h.reach)) (omega (arith, h.reach)) far; width = rise (whole_root (natural a.lo * UNIT)) (root_up (natural a.hi * UNIT)) (root_apart (natural a.lo * UNIT) (natural a.hi * UNIT) (s.width * UNIT) c t.width (omega (arith, natural_apart a.lo a.hi s.width h.width)) (whole_root_greatest _ c low) wide) })
  where
    rise : (m n : ℕ) → n ≤ m + 1 + t.width → pos n ≤ℤ (pos m +ℤ pos (t.width + 1))
    rise m n l = omega (arith, ints)

-- ---- a bound may be loosened
pub more_bounded : (lo hi : ℤ) (s t : Bound) → AreBounded lo hi s → s.reach ≤ t.reach → s.width ≤ t.width → AreBounded lo hi t
more_bounded lo hi s t h p q = record { ordered = h.ordered; reach = le_trans h.reach p; width = omega (arith, ints, h.width) }
