-- Each exact operation keeps order, and gives an enclosure that lies in the one of arguments that hold its own.
use Rattle.std.proofs.Common.{◌≡◌, ℕ, suc, ◌+◌, ◌*◌, ◌^◌, ◌<◌, ◌≤◌, ℤ, pos, ◌*ℤ◌, ◌≤ℤ◌, max, unsigned_abs, arith, ap, ◌∙◌, refl, inl, inr, lit≤, pow_pos, pow-add, le_of_mul-le-mul_right, mul-le-mul_right, mul-pos}
use Rattle.std.proofs.lemmas.Int.{ints, by_lt_z, unsigned_abs-mul}
use borrow.Author.Differences.{up, down, same_in}
use Rattle.fixed_interval.specs.Fraction.{Fraction, ◌≤ᶠ◌, over, negate, times, least, greatest, absolute, floor_at, ceil_at}
use Rattle.fixed_interval.specs.Enclosure.{Enclosure, IsOrdered, LiesIn, IsAboveZero, IsBelowZero, point, negated, sum, difference, product, scale_units, divide_by, times_ratio, hull, magnitude, signed_square, root, whole_root, root_up, natural}
use Rattle.fixed_interval.proofs.Whole.{parts}
use Rattle.fixed_interval.proofs.FractionLaws.{le_parts, le_from, ≤ᶠ_refl, ≤ᶠ_trans, ≤ᶠ_total, <ᶠ_le, <ᶠ_irrefl, <ᶠ_≤ᶠ_trans, ≤ᶠ_<ᶠ_trans, floor_at_most_ceil, floor_finer, ceil_finer, negate_le, plus_mono, times_mono, times_anti, times_turn, least_left, least_right, least_above, least_mono, greatest_left, greatest_right, greatest_below, greatest_mono, greatest_cases, over_mono, floor_mono, ceil_mono}
use Rattle.fixed_interval.proofs.Sizes.{square_ordered}
use Rattle.fixed_interval.proofs.RootLaws.{whole_root_mono, root_up_mono, roots_ordered, whole_root_below, whole_root_greatest, root_up_above, root_up_least, natural-times}
use Rattle.fixed_interval.proofs.Roots.{natural_mono}

-- ---- lies in
pub LiesIn_refl : (a : Enclosure) → LiesIn a a
LiesIn_refl a = record { low = ≤ᶠ_refl a.lo; high = ≤ᶠ_refl a.hi }

pub LiesIn_trans : (a b c : Enclosure) → LiesIn a b → LiesIn b c → LiesIn a c
LiesIn_trans a b c h k = record { low = ≤ᶠ_trans _ _ _ k.low h.low; high = ≤ᶠ_trans _ _ _ h.high k.high }

pub point_ordered : (x : Fraction) → IsOrdered (point x)
unfolding point
point_ordered x = record { ordered = ≤ᶠ_refl x }

-- ---- minus, sum, difference
pub negated_mono : (a b : Enclosure) → LiesIn a b → LiesIn (negated a) (negated b)
unfolding negated
negated_mono a b h = record { low = negate_le _ _ h.high; high = negate_le _ _ h.low }

pub negated_ordered : (a : Enclosure) → IsOrdered a → IsOrdered (negated a)
unfolding negated
negated_ordered a h = record { ordered = negate_le _ _ h.ordered }

pub sum_mono : (a b c d : Enclosure) → LiesIn a c → LiesIn b d → LiesIn (sum a b) (sum c d)
unfolding sum
sum_mono a b c d h k = record { low = plus_mono _ _ _ _ h.low k.low; high = plus_mono _ _ _ _ h.high k.high }

pub sum_ordered : (a b : Enclosure) → IsOrdered a → IsOrdered b → IsOrdered (sum a b)
unfolding sum
sum_ordered a b h k = record { ordered = plus_mono _ _ _ _ h.ordered k.ordered }

pub difference_mono : (a b c d : Enclosure) → LiesIn a c → LiesIn b d → LiesIn (difference a b) (difference c d)
unfolding difference
difference_mono a b c d h k = sum_mono a (negated b) c (negated d) h (negated_mono b d k)

pub difference_ordered : (a b : Enclosure) → IsOrdered a → IsOrdered b → IsOrdered (difference a b)
unfolding difference
difference_ordered a b h k = sum_ordered a (negated b) h (negated_ordered b k)

-- ---- products
-- a product with y of a number from lo to hi lies between those of lo and hi
times_low : (lo hi x y : Fraction) → lo ≤ᶠ x → x ≤ᶠ hi → least (times lo y) (times hi y) ≤ᶠ times x y
times_low lo hi x y h k = by_lt_z y.top (pos 0) (λ s. ≤ᶠ_trans _ _ _ (least_right _ _) (times_anti x hi y k (omega (arith, ints, s)))) (λ s. ≤ᶠ_trans _ _ _ (least_left _ _) (times_mono lo x y h s))

times_high : (lo hi x y : Fraction) → lo ≤ᶠ x → x ≤ᶠ hi → times x y ≤ᶠ greatest (times lo y) (times hi y)
times_high lo hi x y h k = by_lt_z y.top (pos 0) (λ s. ≤ᶠ_trans _ _ _ (times_anti lo x y h (omega (arith, ints, s))) (greatest_left _ _)) (λ s. ≤ᶠ_trans _ _ _ (times_mono x hi y k s) (greatest_right _ _))

times_low_turned : (x lo hi y : Fraction) → lo ≤ᶠ y → y ≤ᶠ hi → least (times x lo) (times x hi) ≤ᶠ times x y
times_low_turned x lo hi y h k = ≤ᶠ_trans _ _ _ (least_mono _ _ _ _ (times_turn x lo) (times_turn x hi)) (≤ᶠ_trans _ _ _ (times_low lo hi y x h k) (times_turn y x))

times_high_turned : (x lo hi y : Fraction) → lo ≤ᶠ y → y ≤ᶠ hi → times x y ≤ᶠ greatest (times x lo) (times x hi)
times_high_turned x lo hi y h k = ≤ᶠ_trans _ _ _ (times_turn x y) (≤ᶠ_trans _ _ _ (times_high lo hi y x h k) (greatest_mono _ _ _ _ (times_turn lo x) (times_turn hi x)))

-- the product of a number of each lies in the product
pub product_low : (a b : Enclosure) (x y : Fraction) → a.lo ≤ᶠ x → x ≤ᶠ a.hi → b.lo ≤ᶠ y → y ≤ᶠ b.hi → (product a b).lo ≤ᶠ times x y
unfolding product
product_low a b x y h k m n = ≤ᶠ_trans _ _ _ (least_mono _ _ _ _ (times_low_turned a.lo b.lo b.hi y m n) (times_low_turned a.hi b.lo b.hi y m n)) (times_low a.lo a.hi x y h k)

pub product_high : (a b : Enclosure) (x y : Fraction) → a.lo ≤ᶠ x → x ≤ᶠ a.hi → b.lo ≤ᶠ y → y ≤ᶠ b.hi → times x y ≤ᶠ (product a b).hi
unfolding product
product_high a b x y h k m n = ≤ᶠ_trans _ _ _ (times_high a.lo a.hi x y h k) (greatest_mono _ _ _ _ (times_high_turned a.lo b.lo b.hi y m n) (times_high_turned a.hi b.lo b.hi y m n))

pub product_mono : (a b c d : Enclosure) → IsOrdered a → IsOrdered b → LiesIn a c → LiesIn b d → LiesIn (product a b) (product c d)
unfolding product
product_mono a b c d o p h k =
    let low = ≤ᶠ_trans _ _ _ h.low o.ordered in
    let high = ≤ᶠ_trans _ _ _ o.ordered h.high in
    let low' = ≤ᶠ_trans _ _ _ k.low p.ordered in
    let high' = ≤ᶠ_trans _ _ _ p.ordered k.high in
    record {
      low = least_above _ _ _ (least_above _ _ _ (product_low c d a.lo b.lo h.low high k.low high') (product_low c d a.lo b.hi h.low high low' k.high)) (least_above _ _ _ (product_low c d a.hi b.lo low h.high k.low high') (product_low c d a.hi b.hi low h.high low' k.high));
      high = greatest_below _ _ _ (greatest_below _ _ _ (product_high c d a.lo b.lo h.low high k.low high') (product_high c d a.lo b.hi h.low high low' k.high)) (greatest_below _ _ _ (product_high c d a.hi b.lo low h.high k.low high') (product_high c d a.hi b.hi low h.high low' k.high));
    }

pub product_ordered : (a b : Enclosure) → IsOrdered (product a b)
unfolding product
product_ordered a b = record { ordered = ≤ᶠ_trans _ _ _ (≤ᶠ_trans _ _ _ (least_left _ _) (least_left _ _)) (≤ᶠ_trans _ _ _ (greatest_left _ _) (greatest_left _ _)) }

-- ---- whole numbers as factors and divisors
over_positive : (m n : ℕ) → pos 0 ≤ℤ (over (pos m) n).top
unfolding over
over_positive m n = omega (arith, ints)

pub scale_units_mono : (n : ℕ) (a b : Enclosure) → LiesIn a b → LiesIn (scale_units a n) (scale_units b n)
unfolding scale_units
scale_units_mono n a b h = record { low = times_mono _ _ _ h.low (over_positive n 1); high = times_mono _ _ _ h.high (over_positive n 1) }

pub scale_units_ordered : (n : ℕ) (a : Enclosure) → IsOrdered a → IsOrdered (scale_units a n)
unfolding scale_units
scale_units_ordered n a h = record { ordered = times_mono _ _ _ h.ordered (over_positive n 1) }

pub divide_by_mono : (n : ℕ) (a b : Enclosure) → LiesIn a b → LiesIn (divide_by a n) (divide_by b n)
unfolding divide_by
divide_by_mono n a b h = record { low = times_mono _ _ _ h.low (over_positive 1 n); high = times_mono _ _ _ h.high (over_positive 1 n) }

pub divide_by_ordered : (n : ℕ) (a : Enclosure) → IsOrdered a → IsOrdered (divide_by a n)
unfolding divide_by
divide_by_ordered n a h = record { ordered = times_mono _ _ _ h.ordered (over_positive 1 n) }

pub times_ratio_mono : (n : ℕ) (a b c d : Enclosure) → IsOrdered a → IsOrdered b → LiesIn a c → LiesIn b d → LiesIn (times_ratio a b n) (times_ratio c d n)
unfolding times_ratio
times_ratio_mono n a b c d o p h k = divide_by_mono n (product a b) (product c d) (product_mono a b c d o p h k)

pub times_ratio_ordered : (n : ℕ) (a b : Enclosure) → IsOrdered (times_ratio a b n)
unfolding times_ratio
times_ratio_ordered n a b = divide_by_ordered n (product a b) (product_ordered a b)

-- ---- hull and magnitude
pub hull_mono : (a b c d : Enclosure) → LiesIn a c → LiesIn b d → LiesIn (hull a b) (hull c d)
unfolding hull
hull_mono a b c d h k = record { low = least_mono _ _ _ _ h.low k.low; high = greatest_mono _ _ _ _ h.high k.high }

pub hull_ordered : (a b : Enclosure) → IsOrdered a → IsOrdered (hull a b)
unfolding hull
hull_ordered a b h = record { ordered = ≤ᶠ_trans _ _ _ (least_left _ _) (≤ᶠ_trans _ _ _ h.ordered (greatest_left _ _)) }

pub hull_left : (a b : Enclosure) → LiesIn a (hull a b)
unfolding hull
hull_left a b = record { low = least_left _ _; high = greatest_left _ _ }

pub hull_right : (a b : Enclosure) → LiesIn b (hull a b)
unfolding hull
hull_right a b = record { low = least_right _ _; high = greatest_right _ _ }

-- the hull is the least: what holds both holds it
pub hull_least : (a b c : Enclosure) → LiesIn a c → LiesIn b c → LiesIn (hull a b) c
unfolding hull
hull_least a b c h k = record { low = least_above _ _ _ h.low k.low; high = greatest_below _ _ _ h.high k.high }

pub magnitude_mono : (a b : Enclosure) → LiesIn a b → LiesIn (magnitude a) (magnitude b)
unfolding magnitude
magnitude_mono a b h = record { low = greatest_mono _ _ _ _ (greatest_mono _ _ _ _ h.low (negate_le _ _ h.high)) (≤ᶠ_refl _); high = greatest_mono _ _ _ _ (negate_le _ _ h.low) h.high }

negate_above : (a : Fraction) → a ≤ᶠ over (pos 0) 1 → over (pos 0) 1 ≤ᶠ negate a
unfolding over negate
negate_above a h = le_from (over (pos 0) 1) (negate a) (simp parts (omega (arith, le_parts a (over (pos 0) 1) h)))

-- the greatest magnitude of an end is no less than 0
zero_within : (a b : Fraction) → a ≤ᶠ b → over (pos 0) 1 ≤ᶠ greatest (negate a) b
zero_within a b h = elim (≤ᶠ_total (over (pos 0) 1) b) [ inl p ↦ ≤ᶠ_trans _ _ _ p (greatest_right _ _) | inr n ↦ ≤ᶠ_trans _ _ _ (negate_above a (≤ᶠ_trans _ _ _ h n)) (greatest_left _ _) ]

pub magnitude_ordered : (a : Enclosure) → IsOrdered a → IsOrdered (magnitude a)
unfolding magnitude
magnitude_ordered a h = record { ordered = greatest_below _ _ _ (greatest_below _ _ _ (≤ᶠ_trans _ _ _ h.ordered (greatest_right _ _)) (≤ᶠ_trans _ _ _ (negate_le _ _ h.ordered) (greatest_left _ _))) (zero_within a.lo a.hi h.ordered) }

-- ---- signed squares
negative_absolute : (x : Fraction) → x ≤ᶠ negate x → ((negate x).top ≡ pos (unsigned_abs x.top)) × ((negate x).bottom ≡ x.bottom)
unfolding negate
negative_absolute x h =
    let s = simp parts at (le_parts x (negate x) h) in
    let t : (up x.top + up x.top) * x.bottom ≤ (down x.top + down x.top) * x.bottom = omega (arith, s) in
    let u = le_of_mul-le-mul_right t x.positive in
    (omega (arith, ints, u), refl)

positive_absolute : (x : Fraction) → negate x ≤ᶠ x → (x.top ≡ pos (unsigned_abs x.top)) × (x.bottom ≡ x.bottom)
unfolding negate
positive_absolute x h =
    let s = simp parts at (le_parts (negate x) x h) in
    let t : (down x.top + down x.top) * x.bottom ≤ (up x.top + up x.top) * x.bottom = omega (arith, s) in
    let u = le_of_mul-le-mul_right t x.positive in
    (omega (arith, ints, u), refl)

absolute-parts : (x : Fraction) → ((absolute x).top ≡ pos (unsigned_abs x.top)) × ((absolute x).bottom ≡ x.bottom)
unfolding absolute
absolute-parts x = elim (greatest_cases x (negate x)) [ inl c ↦ rw c.0 (negative_absolute x c.1) | inr c ↦ rw c.0 (positive_absolute x c.1) ]

square_scaled : (t : ℤ) (b : ℕ) → (t *ℤ pos (unsigned_abs t)) *ℤ pos (b * b) ≡ (t *ℤ pos b) *ℤ pos (unsigned_abs (t *ℤ pos b))
square_scaled t b = rw (unsigned_abs-mul t (pos b)) (same_in _ _ (simp parts (omega arith)))

square_mono : (x y : Fraction) → x ≤ᶠ y → times x (absolute x) ≤ᶠ times y (absolute y)
unfolding times
square_mono x y h = record { crossed = rw ((absolute-parts x).0, (absolute-parts x).1, (absolute-parts y).0, (absolute-parts y).1, square_scaled x.top y.bottom, square_scaled y.top x.bottom) (square_ordered (x.top *ℤ pos y.bottom) (y.top *ℤ pos x.bottom) h.crossed) }

pub signed_square_mono : (a b : Enclosure) → LiesIn a b → LiesIn (signed_square a) (signed_square b)
unfolding signed_square
signed_square_mono a b h = record { low = square_mono _ _ h.low; high = square_mono _ _ h.high }

pub signed_square_ordered : (a : Enclosure) → IsOrdered a → IsOrdered (signed_square a)
unfolding signed_square
signed_square_ordered a h = record { ordered = square_mono _ _ h.ordered }

-- ---- roots
roots_fit : (n : ℕ) → 0 < 2 ^ (16 * n)
roots_fit n = pow_pos (16 * n)

whole_mono : (m n k : ℕ) → m ≤ n → over (pos m) k ≤ᶠ over (pos n) k
whole_mono m n k h = over_mono k (pos m) (pos n) (omega (arith, ints))

pub root_mono : (n : ℕ) (a b : Enclosure) → LiesIn a b → LiesIn (root n a) (root n b)
unfolding root
root_mono n a b h = record {
  low = whole_mono _ _ _ (whole_root_mono _ _ (natural_mono _ _ (floor_mono (2 ^ (16 * n)) _ _ (roots_fit n) h.low)));
  high = whole_mono _ _ _ (root_up_mono _ _ (natural_mono _ _ (ceil_mono (2 ^ (16 * n)) _ _ (roots_fit n) h.high)));
}

pub root_ordered : (n : ℕ) (a : Enclosure) → IsOrdered a → IsOrdered (root n a)
unfolding root
root_ordered n a h = record { ordered = whole_mono _ _ _ (roots_ordered _ _ (natural_mono _ _ (floor_at_most_ceil (2 ^ (16 * n)) a.lo a.hi (roots_fit n) h.ordered))) }

-- a greater depth lies in a lesser
scaled_le : (m n k : ℕ) → m * (k * k) ≤ n → whole_root m * k ≤ whole_root n
scaled_le m n k h = whole_root_greatest n (whole_root m * k) (squared (whole_root m) (whole_root_below m))
  where
    squared : (w : ℕ) → w * w ≤ m → (w * k) * (w * k) ≤ n
    squared w l = omega (arith, mul-le-mul_right (k * k) l)

scaled_ge : (m n k : ℕ) → n ≤ m * (k * k) → root_up n ≤ root_up m * k
scaled_ge m n k h = root_up_least n (root_up m * k) (squared (root_up m) (root_up_above m))
  where
    squared : (w : ℕ) → m ≤ w * w → n ≤ (w * k) * (w * k)
    squared w l = omega (arith, mul-le-mul_right (k * k) l)

finer_le : (m n d k : ℕ) → 0 < d → 0 < k → m * k ≤ n → over (pos m) d ≤ᶠ over (pos n) (d * k)
unfolding over
finer_le m n d k p q h =
    let e : max d 1 ≡ d = omega arith in
    let s : 0 < d * k = mul-pos p q in
    let f : max (d * k) 1 ≡ d * k = omega arith in
    le_from (over (pos m) d) (over (pos n) (d * k)) (rw (e, f) (omega (arith, mul-le-mul_right d h)))

finer_ge : (m n d k : ℕ) → 0 < d → 0 < k → n ≤ m * k → over (pos n) (d * k) ≤ᶠ over (pos m) d
unfolding over
finer_ge m n d k p q h =
    let e : max d 1 ≡ d = omega arith in
    let s : 0 < d * k = mul-pos p q in
    let f : max (d * k) 1 ≡ d * k = omega arith in
    le_from (over (pos n) (d * k)) (over (pos m) d) (rw (e, f) (omega (arith, mul-le-mul_right d h)))

pub root_nested : (n : ℕ) (a : Enclosure) → LiesIn (root (suc n) a) (root n a)
unfolding root
root_nested n a = rw (power 16 n, power 8 n) (record {
  low = finer_le _ _ (2 ^ (8 * n)) 256 (pow_pos (8 * n)) (lit≤ tt) (scaled_le (natural (floor_at (2 ^ (16 * n)) a.lo)) _ 256 count_low);
  high = finer_ge _ _ (2 ^ (8 * n)) 256 (pow_pos (8 * n)) (lit≤ tt) (scaled_ge (natural (ceil_at (2 ^ (16 * n)) a.hi)) _ 256 count_high);
})
  where
    power : (k n : ℕ) → 2 ^ (k * suc n) ≡ 2 ^ (k * n) * 2 ^ k
    power k n = ap (λ (m : ℕ). 2 ^ m) (omega arith) ∙ pow-add 2 (k * n) k

    count_low : natural (floor_at (2 ^ (16 * n)) a.lo) * 65536 ≤ natural (floor_at (2 ^ (16 * n) * 65536) a.lo)
    count_low = rw (← natural-times (floor_at (2 ^ (16 * n)) a.lo) 65536) (natural_mono _ _ (floor_finer (2 ^ (16 * n)) 65536 a.lo (roots_fit n) (lit≤ tt)))

    count_high : natural (ceil_at (2 ^ (16 * n) * 65536) a.hi) ≤ natural (ceil_at (2 ^ (16 * n)) a.hi) * 65536
    count_high = rw (← natural-times (ceil_at (2 ^ (16 * n)) a.hi) 65536) (natural_mono _ _ (ceil_finer (2 ^ (16 * n)) 65536 a.hi (roots_fit n) (lit≤ tt)))

-- ---- above and below zero
pub above_zero : (a b : Enclosure) → LiesIn a b → IsAboveZero b → IsAboveZero a
above_zero a b h k = record { above = <ᶠ_≤ᶠ_trans _ _ _ k.above h.low }

pub below_zero : (a b : Enclosure) → LiesIn a b → IsBelowZero b → IsBelowZero a
below_zero a b h k = record { below = ≤ᶠ_<ᶠ_trans _ _ _ h.high k.below }

pub above_not_below : (a : Enclosure) → IsOrdered a → IsAboveZero a → IsBelowZero a → ⊥
above_not_below a o h k = <ᶠ_irrefl _ (<ᶠ_≤ᶠ_trans _ _ _ h.above (≤ᶠ_trans _ _ _ o.ordered (<ᶠ_le _ _ k.below)))
