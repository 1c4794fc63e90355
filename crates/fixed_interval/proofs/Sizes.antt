-- How far the ends of a result reach, and that they stay in order: over the whole numbers of each plain formula.
use Rattle.std.proofs.Common.{◌≡◌, ℕ, ◌*◌, ◌+◌, ◌/◌, ◌%◌, ◌<◌, ◌≤◌, max, min, ℤ, pos, negsuc, neg_ℤ, ◌+ℤ◌, ◌-ℤ◌, ◌*ℤ◌, ◌≤ℤ◌, unsigned_abs, Bool, true, false, nat_le, ◌⊎◌, inl, inr, leb-true, leb-false, arith, mul-le-mul, mul-le-mul_right, zero, suc, refl, le_of_mul-le-mul_right, lt_of_mul-lt-mul_right, le-mul_of_pos_right}
use Rattle.std.specs.Int.{int_min, int_max, int_div_euclid, div_ceil}
use Rattle.std.proofs.lemmas.Int.{ints, clamps, unsigned_abs-mul}
use borrow.Author.Differences.{up, down}
use Rattle.fixed_interval.specs.Grid.{Ends, reach}
use Rattle.fixed_interval.specs.Whole.{floor_over, ceil_over, least_of_four, greatest_of_four}
use Rattle.fixed_interval.proofs.Whole.{div-parts}
use Rattle.fixed_interval.proofs.GridLaws.{least_product, greatest_product}

-- ---- sums, differences, hulls, magnitudes
pub sum_ordered : (x y x' y' : ℤ) → x ≤ℤ x' → y ≤ℤ y' → (x +ℤ y) ≤ℤ (x' +ℤ y')
sum_ordered x y x' y' h k = omega (arith, ints)

pub reach-sum : (x y x' y' : ℤ) → max (unsigned_abs (x +ℤ y)) (unsigned_abs (x' +ℤ y')) ≤ max (unsigned_abs x) (unsigned_abs x') + max (unsigned_abs y) (unsigned_abs y')
reach-sum x y x' y' = omega (arith, ints)

-- for a caller's conditions: what a sum or a difference of ends can reach
pub abs_sum : (x y : ℤ) → unsigned_abs (x +ℤ y) ≤ unsigned_abs x + unsigned_abs y
abs_sum x y = omega (arith, ints)

pub abs_difference : (x y : ℤ) → unsigned_abs (x -ℤ y) ≤ unsigned_abs x + unsigned_abs y
abs_difference x y = omega (arith, ints)

pub difference_ordered : (x y x' y' : ℤ) → x ≤ℤ x' → y ≤ℤ y' → (x -ℤ y') ≤ℤ (x' -ℤ y)
difference_ordered x y x' y' h k = omega (arith, ints)

pub reach-difference : (x y x' y' : ℤ) → max (unsigned_abs (x -ℤ y')) (unsigned_abs (x' -ℤ y)) ≤ max (unsigned_abs x) (unsigned_abs x') + max (unsigned_abs y) (unsigned_abs y')
reach-difference x y x' y' = omega (arith, ints)

pub hull_ordered : (x y x' y' : ℤ) → x ≤ℤ x' → int_min x y ≤ℤ int_max x' y'
hull_ordered x y x' y' h = omega (arith, ints, clamps)

pub abs-least : (x y : ℤ) (m : ℕ) → unsigned_abs x ≤ m → unsigned_abs y ≤ m → unsigned_abs (int_min x y) ≤ m
abs-least x y m h k = omega (arith, ints, clamps)

pub abs-greatest : (x y : ℤ) (m : ℕ) → unsigned_abs x ≤ m → unsigned_abs y ≤ m → unsigned_abs (int_max x y) ≤ m
abs-greatest x y m h k = omega (arith, ints, clamps)

pub reach-hull : (x y x' y' : ℤ) → max (unsigned_abs (int_min x y)) (unsigned_abs (int_max x' y')) ≤ max (max (unsigned_abs x) (unsigned_abs x')) (max (unsigned_abs y) (unsigned_abs y'))
reach-hull x y x' y' = omega (arith, abs-least x y (max (unsigned_abs x) (unsigned_abs y)) (omega arith) (omega arith), abs-greatest x' y' (max (unsigned_abs x') (unsigned_abs y')) (omega arith) (omega arith))

pub magnitude_ordered : (x y : ℤ) → x ≤ℤ y → int_max (int_max x (neg_ℤ y)) (pos 0) ≤ℤ int_max (neg_ℤ x) y
magnitude_ordered x y h = omega (arith, ints, clamps)

abs-neg : (z : ℤ) → unsigned_abs (neg_ℤ z) ≡ unsigned_abs z
abs-neg z = omega (arith, ints)

pub abs-magnitude_low : (x y : ℤ) (m : ℕ) → unsigned_abs x ≤ m → unsigned_abs y ≤ m → unsigned_abs (int_max (int_max x (neg_ℤ y)) (pos 0)) ≤ m
abs-magnitude_low x y m h k = abs-greatest (int_max x (neg_ℤ y)) (pos 0) m (abs-greatest x (neg_ℤ y) m h (rw (abs-neg y) k)) (omega arith)

pub abs-magnitude_high : (x y : ℤ) (m : ℕ) → unsigned_abs x ≤ m → unsigned_abs y ≤ m → unsigned_abs (int_max (neg_ℤ x) y) ≤ m
abs-magnitude_high x y m h k = abs-greatest (neg_ℤ x) y m (rw (abs-neg x) h) k

-- the greater of two is within what each is within
pub both_within : {x y m : ℕ} → x ≤ m → y ≤ m → max x y ≤ m
both_within {x} {y} {m} h k = omega arith

-- ---- products of ends
pub least_below : (a b c d : ℤ) → least_of_four a b c d ≤ℤ a
unfolding least_of_four
least_below a b c d = first a b (int_min c d)
  where
    first : (x y z : ℤ) → int_min (int_min x y) z ≤ℤ x
    first x y z = omega (arith, ints, clamps)

pub greatest_above : (a b c d : ℤ) → a ≤ℤ greatest_of_four a b c d
unfolding greatest_of_four
greatest_above a b c d = first a b (int_max c d)
  where
    first : (x y z : ℤ) → x ≤ℤ int_max (int_max x y) z
    first x y z = omega (arith, ints, clamps)

pub abs-least_of_four : (a b c d : ℤ) (m : ℕ) → unsigned_abs a ≤ m → unsigned_abs b ≤ m → unsigned_abs c ≤ m → unsigned_abs d ≤ m → unsigned_abs (least_of_four a b c d) ≤ m
unfolding least_of_four
abs-least_of_four a b c d m p q r s = abs-least (int_min a b) (int_min c d) m (abs-least a b m p q) (abs-least c d m r s)

pub abs-greatest_of_four : (a b c d : ℤ) (m : ℕ) → unsigned_abs a ≤ m → unsigned_abs b ≤ m → unsigned_abs c ≤ m → unsigned_abs d ≤ m → unsigned_abs (greatest_of_four a b c d) ≤ m
unfolding greatest_of_four
abs-greatest_of_four a b c d m p q r s = abs-greatest (int_max a b) (int_max c d) m (abs-greatest a b m p q) (abs-greatest c d m r s)

-- a corner's magnitude is at most the product of the reaches
pub abs_product : (x y : ℤ) (s t : ℕ) → unsigned_abs x ≤ s → unsigned_abs y ≤ t → unsigned_abs (x *ℤ y) ≤ s * t
abs_product x y s t h k = rw (unsigned_abs-mul x y) (mul-le-mul h k)

module _ (a b : Ends) where
  corner_low_low : unsigned_abs (a.lo *ℤ b.lo) ≤ reach a * reach b
  corner_low_low = abs_product a.lo b.lo (reach a) (reach b) (omega arith) (omega arith)

  corner_low_high : unsigned_abs (a.lo *ℤ b.hi) ≤ reach a * reach b
  corner_low_high = abs_product a.lo b.hi (reach a) (reach b) (omega arith) (omega arith)

  corner_high_low : unsigned_abs (a.hi *ℤ b.lo) ≤ reach a * reach b
  corner_high_low = abs_product a.hi b.lo (reach a) (reach b) (omega arith) (omega arith)

  corner_high_high : unsigned_abs (a.hi *ℤ b.hi) ≤ reach a * reach b
  corner_high_high = abs_product a.hi b.hi (reach a) (reach b) (omega arith) (omega arith)

  pub abs-least_product : unsigned_abs (least_product a b) ≤ reach a * reach b
  abs-least_product = abs-least_of_four _ _ _ _ (reach a * reach b) corner_low_low corner_low_high corner_high_low corner_high_high

  pub abs-greatest_product : unsigned_abs (greatest_product a b) ≤ reach a * reach b
  abs-greatest_product = abs-greatest_of_four _ _ _ _ (reach a * reach b) corner_low_low corner_low_high corner_high_low corner_high_high

  pub products_ordered : least_product a b ≤ℤ greatest_product a b
  products_ordered = joined _ _ _ (least_below (a.lo *ℤ b.lo) (a.lo *ℤ b.hi) (a.hi *ℤ b.lo) (a.hi *ℤ b.hi)) (greatest_above (a.lo *ℤ b.lo) (a.lo *ℤ b.hi) (a.hi *ℤ b.lo) (a.hi *ℤ b.hi))
    where
      joined : (x y z : ℤ) → x ≤ℤ y → y ≤ℤ z → x ≤ℤ z
      joined x y z h k = omega (arith, ints)

pub abs-scaled : (z : ℤ) (n s : ℕ) → unsigned_abs z ≤ s → unsigned_abs (z *ℤ pos n) ≤ s * n
abs-scaled z n s h = abs_product z (pos n) s n h (omega arith)

pub scaled_ordered : (y z : ℤ) (n : ℕ) → y ≤ℤ z → (y *ℤ pos n) ≤ℤ (z *ℤ pos n)
scaled_ordered y z n h = let s : up y + down z ≤ up z + down y = omega (arith, ints) in omega (arith, ints, mul-le-mul_right n s)

-- ---- quotients
pub div_ceil_covers : (m n : ℕ) → 0 < n → m ≤ div_ceil m n * n
div_ceil_covers m n h = by (m % n) refl
  where
    by : (r : ℕ) → m % n ≡ r → m ≤ (m / n + min 1 r) * n
    by zero e = omega arith
    by (suc r) e = let one : min 1 (suc r) ≡ 1 = omega arith in rw one (omega arith)

-- the quotient rounded up is the least number whose multiple reaches
pub div_ceil_least : (m n c : ℕ) → 0 < n → m ≤ c * n → div_ceil m n ≤ c
div_ceil_least m n c h k = by (m % n) refl
  where
    by : (r : ℕ) → m % n ≡ r → m / n + min 1 r ≤ c
    by zero e = let s : (m / n) * n ≤ c * n = omega arith in omega (arith, le_of_mul-le-mul_right s h)
    by (suc r) e = let s : (m / n) * n < c * n = omega arith in omega (arith, lt_of_mul-lt-mul_right n s)

pub div_ceil_no_more : (m n : ℕ) → 0 < n → div_ceil m n ≤ m
div_ceil_no_more m n h = div_ceil_least m n m h (le-mul_of_pos_right m h)

-- rounding takes no magnitude past its quotient rounded up
pub abs-floor_over : (z : ℤ) (m n : ℕ) → 0 < n → unsigned_abs z ≤ m → unsigned_abs (floor_over z n) ≤ div_ceil m n
abs-floor_over z m n h k = core (int_div_euclid z (pos n)) (div_ceil m n) (omega (arith, ints, div-parts z n h, div_ceil_covers m n h)) (omega (arith, ints, div-parts z n h, div_ceil_covers m n h))
  where
    core : (q : ℤ) (c : ℕ) → up q * n ≤ down q * n + c * n → down q * n < up q * n + c * n + n → unsigned_abs q ≤ c
    core (pos a) c s t = le_of_mul-le-mul_right {k = n} (omega arith) h
    core (negsuc a) c s t = let u : a * n < c * n = omega arith in lt_of_mul-lt-mul_right n u

pub abs-ceil_over : (z : ℤ) (m n : ℕ) → 0 < n → unsigned_abs z ≤ m → unsigned_abs (ceil_over z n) ≤ div_ceil m n
abs-ceil_over z m n h k = let f = abs-floor_over (neg_ℤ z) m n h (omega (arith, ints)) in omega (arith, ints, f)

pub quotient_ordered : (y z : ℤ) (n : ℕ) → 0 < n → y ≤ℤ z → floor_over y n ≤ℤ ceil_over z n
quotient_ordered y z n h k = core (int_div_euclid y (pos n)) (int_div_euclid (neg_ℤ z) (pos n)) (omega (arith, ints, (div-parts y n h).0, (div-parts (neg_ℤ z) n h).0))
  where
    core : (q p : ℤ) → (up q + up p) * n ≤ (down q + down p) * n → q ≤ℤ neg_ℤ p
    core q p s = let t : up q + up p ≤ down q + down p = le_of_mul-le-mul_right s h in omega (arith, ints)

pub reach-quotient : (y z : ℤ) (m n : ℕ) → 0 < n → unsigned_abs y ≤ m → unsigned_abs z ≤ m → max (unsigned_abs (floor_over y n)) (unsigned_abs (ceil_over z n)) ≤ div_ceil m n
reach-quotient y z m n p h k = both_within (abs-floor_over y m n p h) (abs-ceil_over z m n p k)

-- ---- a result in range has products in range
-- each of the four lies between the least and the greatest
record LiesBetween (low high z : ℤ) : Type 0 where
  above : low ≤ℤ z
  below : z ≤ℤ high

four_between : (a b c d : ℤ) → (LiesBetween (least_of_four a b c d) (greatest_of_four a b c d) a) × (LiesBetween (least_of_four a b c d) (greatest_of_four a b c d) b) × (LiesBetween (least_of_four a b c d) (greatest_of_four a b c d) c) × (LiesBetween (least_of_four a b c d) (greatest_of_four a b c d) d)
unfolding least_of_four greatest_of_four
four_between a b c d = (first a b (int_min c d) (int_max c d), second a b (int_min c d) (int_max c d), third (int_min a b) (int_max a b) c d, fourth (int_min a b) (int_max a b) c d)
  where
    first : (x y z w : ℤ) → LiesBetween (int_min (int_min x y) z) (int_max (int_max x y) w) x
    first x y z w = record { above = omega (arith, ints, clamps); below = omega (arith, ints, clamps) }

    second : (x y z w : ℤ) → LiesBetween (int_min (int_min x y) z) (int_max (int_max x y) w) y
    second x y z w = record { above = omega (arith, ints, clamps); below = omega (arith, ints, clamps) }

    third : (z w x y : ℤ) → LiesBetween (int_min z (int_min x y)) (int_max w (int_max x y)) x
    third z w x y = record { above = omega (arith, ints, clamps); below = omega (arith, ints, clamps) }

    fourth : (z w x y : ℤ) → LiesBetween (int_min z (int_min x y)) (int_max w (int_max x y)) y
    fourth z w x y = record { above = omega (arith, ints, clamps); below = omega (arith, ints, clamps) }

floor_in_range : (z : ℤ) (m n : ℕ) → 0 < n → unsigned_abs (floor_over z n) ≤ m → neg_ℤ (pos (m * n)) ≤ℤ z
floor_in_range z m n h k = core (int_div_euclid z (pos n)) k (div-parts z n h).0
  where
    core : (q : ℤ) → unsigned_abs q ≤ m → up q * n + down z ≤ down q * n + up z → neg_ℤ (pos (m * n)) ≤ℤ z
    core q l d = let s : down q ≤ m + up q = omega (arith, ints) in omega (arith, ints, d, mul-le-mul_right n s)

ceil_in_range : (z : ℤ) (m n : ℕ) → 0 < n → unsigned_abs (ceil_over z n) ≤ m → z ≤ℤ pos (m * n)
ceil_in_range z m n h k = let f = floor_in_range (neg_ℤ z) m n h (omega (arith, ints)) in turned (m * n) f
  where
    turned : (k : ℕ) → neg_ℤ (pos k) ≤ℤ neg_ℤ z → z ≤ℤ pos k
    turned k l = omega (arith, ints)

factors_in_range : (x y low high : ℤ) (k : ℕ) → neg_ℤ (pos k) ≤ℤ low → high ≤ℤ pos k → LiesBetween low high (x *ℤ y) → unsigned_abs x * unsigned_abs y ≤ k
factors_in_range x y low high k l u b = rw (← unsigned_abs-mul x y) (within (x *ℤ y) b)
  where
    within : (z : ℤ) → LiesBetween low high z → unsigned_abs z ≤ k
    within z c = omega (arith, ints, c.above, c.below)

max_times : (x x' y y' k : ℕ) → x * y ≤ k → x * y' ≤ k → x' * y ≤ k → x' * y' ≤ k → max x x' * max y y' ≤ k
max_times x x' y y' k a b c d = elim (either x x') [ inl e ↦ rw e (inner x a b) | inr e ↦ rw e (inner x' c d) ]
  where
    either : (m n : ℕ) → (max m n ≡ m) ⊎ (max m n ≡ n)
    either m n = by (nat_le m n) refl
      where
        by : (t : Bool) → nat_le m n ≡ t → (max m n ≡ m) ⊎ (max m n ≡ n)
        by true e = inr (omega (arith, leb-true _ _ e))
        by false e = inl (omega (arith, leb-false _ _ e))

    inner : (z : ℕ) → z * y ≤ k → z * y' ≤ k → z * max y y' ≤ k
    inner z p q = elim (either y y') [ inl e ↦ rw e p | inr e ↦ rw e q ]

pub products_in_range : (a b : Ends) (m n : ℕ) → 0 < n → unsigned_abs (floor_over (least_product a b) n) ≤ m → unsigned_abs (ceil_over (greatest_product a b) n) ≤ m → reach a * reach b ≤ m * n
products_in_range a b m n h k l =
    let low = floor_in_range (least_product a b) m n h k in
    let high = ceil_in_range (greatest_product a b) m n h l in
    let c = four_between (a.lo *ℤ b.lo) (a.lo *ℤ b.hi) (a.hi *ℤ b.lo) (a.hi *ℤ b.hi) in
    max_times _ _ _ _ _ (factors_in_range a.lo b.lo _ _ _ low high c.0) (factors_in_range a.lo b.hi _ _ _ low high c.1) (factors_in_range a.hi b.lo _ _ _ low high c.2) (factors_in_range a.hi b.hi _ _ _ low high c.3)

-- ---- squares that keep the sign
pub square_ordered : (x y : ℤ) → x ≤ℤ y → (x *ℤ pos (unsigned_abs x)) ≤ℤ (y *ℤ pos (unsigned_abs y))
square_ordered (pos a) (pos b) h = let l : a ≤ b = omega (arith, ints) in omega (arith, ints, mul-le-mul l l)
square_ordered (pos a) (negsuc b) h = absurd (omega (arith, ints))
square_ordered (negsuc a) (pos b) h = omega (arith, ints)
square_ordered (negsuc a) (negsuc b) h = let l : suc b ≤ suc a = omega (arith, ints) in omega (arith, ints, mul-le-mul l l)

pub abs-square : (z : ℤ) (s : ℕ) → unsigned_abs z ≤ s → unsigned_abs (z *ℤ pos (unsigned_abs z)) ≤ s * s
abs-square z s h = abs_product z (pos (unsigned_abs z)) s s h h
