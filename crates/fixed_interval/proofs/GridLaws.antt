-- Each grid form as a plain formula over whole numbers.
use Rattle.std.proofs.Common.{◌≡◌, ℕ, ◌+◌, ◌*◌, ◌<◌, ◌≤◌, Bool, true, false, cond, if◌then◌else◌, int_le, int_lt, ℤ, pos, neg_ℤ, ◌+ℤ◌, ◌-ℤ◌, ◌*ℤ◌, ◌≤ℤ◌, unsigned_abs, max, arith, ap, ap₂, ◌∙◌, refl, inl, inr, mul-le-mul_right, mul-lt-mul_of_pos_right, mul-pos, lit≤}
use Rattle.std.proofs.Math.Nat.{le-max_right}
use Rattle.std.specs.Int.{int_min, int_max}
use Rattle.std.proofs.lemmas.Int.{ints, clamps}
use borrow.Author.Differences.{up, down}
use Rattle.fixed_interval.specs.Fraction.{Fraction, over, negate, plus, times, least, greatest, absolute, floor_at, ceil_at}
use Rattle.fixed_interval.specs.Enclosure.{negated, sum, difference, product, scale_units, divide_by, times_ratio, hull, magnitude, signed_square}
use Rattle.fixed_interval.specs.Grid.{Ends, Range, UNIT, enclosure_of, enclosure_of_range, rounded_out, range_around, grid_negated, grid_sum, grid_difference, grid_product, grid_divide_by, grid_hull, grid_magnitude, grid_signed_square, grid_scale_units, grid_times_ratio}
use Rattle.fixed_interval.specs.Whole.{floor_over, ceil_over, least_of_four, greatest_of_four}
use Rattle.fixed_interval.proofs.Whole.{div-scaled, div-one, ceil-one, div-parts}
use Rattle.fixed_interval.proofs.FractionLaws.{floor_mono, greatest_cases}

-- ---- rounding
-- a fraction over m n, rounded at n, is its top over m, rounded
pub floor_is : (a : Fraction) (n m : ℕ) → 0 < n → 0 < m → a.bottom ≡ m * n → floor_at n a ≡ floor_over a.top m
unfolding floor_at
floor_is a n m h k e = rw e (div-scaled a.top m n k h)

pub ceil_is : (a : Fraction) (n m : ℕ) → 0 < n → 0 < m → a.bottom ≡ m * n → ceil_at n a ≡ ceil_over a.top m
unfolding ceil_at negate
ceil_is a n m h k e = ap neg_ℤ (floor_is (negate a) n m h k e)

-- ---- fractions over the same bottom
unfoldable frac : ℤ → (n : ℕ) → 0 < n → Fraction
frac z n p = record { top = z; bottom = n; positive = p }

least-frac : (x y : ℤ) (n : ℕ) (p : 0 < n) → least (frac x n p) (frac y n p) ≡ frac (int_min x y) n p
unfolding least frac
least-frac x y n p = by (int_lt y x) (int_le (x *ℤ pos n) (y *ℤ pos n)) refl refl
  where
    by : (t u : Bool) → int_lt y x ≡ t → int_le (x *ℤ pos n) (y *ℤ pos n) ≡ u → (if u then frac x n p else frac y n p) ≡ frac (cond t y x) n p
    by true false e f = refl
    by false true e f = refl
    by true true e f = let s : up y + down x < up x + down y = omega (arith, ints, e) in absurd (omega (arith, ints, f, mul-lt-mul_of_pos_right {k = n} s p))
    by false false e f = let s : up x + down y ≤ up y + down x = omega (arith, ints, e) in absurd (omega (arith, ints, f, mul-le-mul_right n s))

greatest-frac : (x y : ℤ) (n : ℕ) (p : 0 < n) → greatest (frac x n p) (frac y n p) ≡ frac (int_max x y) n p
unfolding greatest frac
greatest-frac x y n p = by (int_lt y x) (int_le (x *ℤ pos n) (y *ℤ pos n)) refl refl
  where
    by : (t u : Bool) → int_lt y x ≡ t → int_le (x *ℤ pos n) (y *ℤ pos n) ≡ u → (if u then frac y n p else frac x n p) ≡ frac (cond t x y) n p
    by true false e f = refl
    by false true e f = refl
    by true true e f = let s : up y + down x < up x + down y = omega (arith, ints, e) in absurd (omega (arith, ints, f, mul-lt-mul_of_pos_right {k = n} s p))
    by false false e f = let s : up x + down y ≤ up y + down x = omega (arith, ints, e) in absurd (omega (arith, ints, f, mul-le-mul_right n s))

-- ---- each operation
abbrev unit : 0 < UNIT
unit = le-max_right UNIT 1

abbrev unit_by_unit : 0 < UNIT * UNIT
unit_by_unit = mul-pos unit unit

abbrev unit_by_one : 0 < UNIT
unit_by_one = mul-pos unit (le-max_right 1 1)

sum-floor : (x y : ℤ) → floor_over ((x *ℤ pos UNIT) +ℤ (y *ℤ pos UNIT)) UNIT ≡ x +ℤ y
sum-floor x y = omega (arith, ints, div-parts ((x *ℤ pos UNIT) +ℤ (y *ℤ pos UNIT)) UNIT (lit≤ tt))

sum-ceil : (x y : ℤ) → ceil_over ((x *ℤ pos UNIT) +ℤ (y *ℤ pos UNIT)) UNIT ≡ x +ℤ y
sum-ceil x y = omega (arith, ints, div-parts (neg_ℤ ((x *ℤ pos UNIT) +ℤ (y *ℤ pos UNIT))) UNIT (lit≤ tt))

pub grid_sum-is : (a b : Ends) → grid_sum a b ≡ record { lo = a.lo +ℤ b.lo; hi = a.hi +ℤ b.hi }
unfolding grid_sum rounded_out sum enclosure_of plus over
grid_sum-is a b i = record {
  lo = (floor_is (plus (over a.lo UNIT) (over b.lo UNIT)) UNIT UNIT (lit≤ tt) (lit≤ tt) refl ∙ sum-floor a.lo b.lo) i;
  hi = (ceil_is (plus (over a.hi UNIT) (over b.hi UNIT)) UNIT UNIT (lit≤ tt) (lit≤ tt) refl ∙ sum-ceil a.hi b.hi) i;
}

pub grid_difference-is : (a b : Ends) → grid_difference a b ≡ record { lo = a.lo -ℤ b.hi; hi = a.hi -ℤ b.lo }
unfolding grid_difference rounded_out difference sum negated enclosure_of plus negate over
grid_difference-is a b i = record {
  lo = (floor_is (plus (over a.lo UNIT) (negate (over b.hi UNIT))) UNIT UNIT (lit≤ tt) (lit≤ tt) refl ∙ sum-floor a.lo (neg_ℤ b.hi)) i;
  hi = (ceil_is (plus (over a.hi UNIT) (negate (over b.lo UNIT))) UNIT UNIT (lit≤ tt) (lit≤ tt) refl ∙ sum-ceil a.hi (neg_ℤ b.lo)) i;
}

pub grid_negated-is : (a : Ends) → grid_negated a ≡ record { lo = neg_ℤ a.hi; hi = neg_ℤ a.lo }
unfolding grid_negated rounded_out negated enclosure_of negate over
grid_negated-is a i = record {
  lo = (floor_is (negate (over a.hi UNIT)) UNIT 1 (lit≤ tt) (lit≤ tt) refl ∙ div-one (neg_ℤ a.hi)) i;
  hi = (ceil_is (negate (over a.lo UNIT)) UNIT 1 (lit≤ tt) (lit≤ tt) refl ∙ ceil-one (neg_ℤ a.lo)) i;
}

pub grid_hull-is : (a b : Ends) → grid_hull a b ≡ record { lo = int_min a.lo b.lo; hi = int_max a.hi b.hi }
unfolding grid_hull rounded_out hull enclosure_of over frac
grid_hull-is a b i = record {
  lo = (ap (floor_at UNIT) (least-frac a.lo b.lo UNIT unit) ∙ floor_is (frac (int_min a.lo b.lo) UNIT unit) UNIT 1 (lit≤ tt) (lit≤ tt) refl ∙ div-one (int_min a.lo b.lo)) i;
  hi = (ap (ceil_at UNIT) (greatest-frac a.hi b.hi UNIT unit) ∙ ceil_is (frac (int_max a.hi b.hi) UNIT unit) UNIT 1 (lit≤ tt) (lit≤ tt) refl ∙ ceil-one (int_max a.hi b.hi)) i;
}

four_least-frac : (a b c d : ℤ) (n : ℕ) (p : 0 < n) → least (least (frac a n p) (frac b n p)) (least (frac c n p) (frac d n p)) ≡ frac (least_of_four a b c d) n p
unfolding least_of_four
four_least-frac a b c d n p = ap₂ least (least-frac a b n p) (least-frac c d n p) ∙ least-frac (int_min a b) (int_min c d) n p

four_greatest-frac : (a b c d : ℤ) (n : ℕ) (p : 0 < n) → greatest (greatest (frac a n p) (frac b n p)) (greatest (frac c n p) (frac d n p)) ≡ frac (greatest_of_four a b c d) n p
unfolding greatest_of_four
four_greatest-frac a b c d n p = ap₂ greatest (greatest-frac a b n p) (greatest-frac c d n p) ∙ greatest-frac (int_max a b) (int_max c d) n p

abbrev pub least_product : Ends → Ends → ℤ
least_product a b = least_of_four (a.lo *ℤ b.lo) (a.lo *ℤ b.hi) (a.hi *ℤ b.lo) (a.hi *ℤ b.hi)

abbrev pub greatest_product : Ends → Ends → ℤ
greatest_product a b = greatest_of_four (a.lo *ℤ b.lo) (a.lo *ℤ b.hi) (a.hi *ℤ b.lo) (a.hi *ℤ b.hi)

pub grid_product-is : (a b : Ends) → grid_product a b ≡ record { lo = floor_over (least_product a b) UNIT; hi = ceil_over (greatest_product a b) UNIT }
unfolding grid_product rounded_out product enclosure_of times over frac
grid_product-is a b i = record {
  lo = (ap (floor_at UNIT) (four_least-frac (a.lo *ℤ b.lo) (a.lo *ℤ b.hi) (a.hi *ℤ b.lo) (a.hi *ℤ b.hi) (UNIT * UNIT) unit_by_unit) ∙ floor_is (frac (least_product a b) (UNIT * UNIT) unit_by_unit) UNIT UNIT (lit≤ tt) (lit≤ tt) refl) i;
  hi = (ap (ceil_at UNIT) (four_greatest-frac (a.lo *ℤ b.lo) (a.lo *ℤ b.hi) (a.hi *ℤ b.lo) (a.hi *ℤ b.hi) (UNIT * UNIT) unit_by_unit) ∙ ceil_is (frac (greatest_product a b) (UNIT * UNIT) unit_by_unit) UNIT UNIT (lit≤ tt) (lit≤ tt) refl) i;
}

-- a top times 1 over a bottom times n
part_bottom : (n : ℕ) → 0 < n → UNIT * max n 1 ≡ n * UNIT
part_bottom n h = omega arith

by_one : (z : ℤ) → z *ℤ pos 1 ≡ z
by_one z = omega (arith, ints)

pub grid_divide_by-is : (a : Ends) (n : ℕ) → 0 < n → grid_divide_by a n ≡ record { lo = floor_over a.lo n; hi = ceil_over a.hi n }
unfolding grid_divide_by rounded_out divide_by enclosure_of times over
grid_divide_by-is a n h i = record {
  lo = (floor_is (times (over a.lo UNIT) (over (pos 1) n)) UNIT n (lit≤ tt) h (part_bottom n h) ∙ ap (λ z. floor_over z n) (by_one a.lo)) i;
  hi = (ceil_is (times (over a.hi UNIT) (over (pos 1) n)) UNIT n (lit≤ tt) h (part_bottom n h) ∙ ap (λ z. ceil_over z n) (by_one a.hi)) i;
}

pub grid_scale_units-is : (a : Ends) (n : ℕ) → grid_scale_units a n ≡ record { lo = floor_over (a.lo *ℤ pos n) UNIT; hi = ceil_over (a.hi *ℤ pos n) UNIT }
unfolding grid_scale_units range_around scale_units enclosure_of times over
grid_scale_units-is a n i = record {
  lo = floor_is (times (over a.lo UNIT) (over (pos n) 1)) 1 UNIT (lit≤ tt) (lit≤ tt) refl i;
  hi = ceil_is (times (over a.hi UNIT) (over (pos n) 1)) 1 UNIT (lit≤ tt) (lit≤ tt) refl i;
}

abbrev pub units : Range → Ends
units r = record { lo = r.lo; hi = r.hi }

pub grid_times_ratio-is : (a : Ends) (r : Range) (n : ℕ) → 0 < n → grid_times_ratio a r n ≡ record { lo = floor_over (least_product a (units r)) n; hi = ceil_over (greatest_product a (units r)) n }
unfolding grid_times_ratio rounded_out times_ratio divide_by product enclosure_of enclosure_of_range times over frac
grid_times_ratio-is a r n h i = record {
  lo = (ap (λ x. floor_at UNIT (times x (over (pos 1) n))) (four_least-frac (a.lo *ℤ r.lo) (a.lo *ℤ r.hi) (a.hi *ℤ r.lo) (a.hi *ℤ r.hi) UNIT unit_by_one) ∙ floor_is (times (frac (least_product a (units r)) UNIT unit_by_one) (over (pos 1) n)) UNIT n (lit≤ tt) h (part_bottom n h) ∙ ap (λ z. floor_over z n) (by_one (least_product a (units r)))) i;
  hi = (ap (λ x. ceil_at UNIT (times x (over (pos 1) n))) (four_greatest-frac (a.lo *ℤ r.lo) (a.lo *ℤ r.hi) (a.hi *ℤ r.lo) (a.hi *ℤ r.hi) UNIT unit_by_one) ∙ ceil_is (times (frac (greatest_product a (units r)) UNIT unit_by_one) (over (pos 1) n)) UNIT n (lit≤ tt) h (part_bottom n h) ∙ ap (λ z. ceil_over z n) (by_one (greatest_product a (units r)))) i;
}

floor-greatest : (n : ℕ) (a b : Fraction) → 0 < n → floor_at n (greatest a b) ≡ int_max (floor_at n a) (floor_at n b)
floor-greatest n a b h = elim (greatest_cases a b) [ inl c ↦ rw c.0 (greater (floor_at n a) (floor_at n b) (floor_mono n a b h c.1)) | inr c ↦ rw c.0 (less (floor_at n a) (floor_at n b) (floor_mono n b a h c.1)) ]
  where
    greater : (x y : ℤ) → x ≤ℤ y → y ≡ int_max x y
    greater x y s = omega (arith, ints, clamps)

    less : (x y : ℤ) → y ≤ℤ x → x ≡ int_max x y
    less x y s = omega (arith, ints, clamps)

floor_on_grid : (x : ℤ) (p : 0 < UNIT) → floor_at UNIT (frac x UNIT p) ≡ x
unfolding frac
floor_on_grid x p = floor_is (frac x UNIT p) UNIT 1 (lit≤ tt) (lit≤ tt) refl ∙ div-one x

ceil_on_grid : (x : ℤ) (p : 0 < UNIT) → ceil_at UNIT (frac x UNIT p) ≡ x
unfolding frac
ceil_on_grid x p = ceil_is (frac x UNIT p) UNIT 1 (lit≤ tt) (lit≤ tt) refl ∙ ceil-one x

zero-floor : floor_at UNIT (over (pos 0) 1) ≡ pos 0
unfolding floor_at over
zero-floor = refl

pub grid_magnitude-is : (a : Ends) → grid_magnitude a ≡ record { lo = int_max (int_max a.lo (neg_ℤ a.hi)) (pos 0); hi = int_max (neg_ℤ a.lo) a.hi }
unfolding grid_magnitude rounded_out magnitude enclosure_of negate over frac
grid_magnitude-is a i = record {
  lo = (floor-greatest UNIT (greatest (over a.lo UNIT) (negate (over a.hi UNIT))) (over (pos 0) 1) (lit≤ tt) ∙ ap₂ int_max (ap (floor_at UNIT) (greatest-frac a.lo (neg_ℤ a.hi) UNIT unit) ∙ floor_on_grid (int_max a.lo (neg_ℤ a.hi)) unit) zero-floor) i;
  hi = (ap (ceil_at UNIT) (greatest-frac (neg_ℤ a.lo) a.hi UNIT unit) ∙ ceil_on_grid (int_max (neg_ℤ a.lo) a.hi) unit) i;
}

-- the greater of z and -z is |z|
absolute-is : (z : ℤ) → int_max z (neg_ℤ z) ≡ pos (unsigned_abs z)
absolute-is z = omega (arith, ints, clamps)

pub grid_signed_square-is : (a : Ends) → grid_signed_square a ≡ record { lo = floor_over (a.lo *ℤ pos (unsigned_abs a.lo)) UNIT; hi = ceil_over (a.hi *ℤ pos (unsigned_abs a.hi)) UNIT }
unfolding grid_signed_square rounded_out signed_square absolute enclosure_of times negate over frac
grid_signed_square-is a i = record {
  lo = (ap (λ x. floor_at UNIT (times (over a.lo UNIT) x)) (greatest-frac a.lo (neg_ℤ a.lo) UNIT unit) ∙ floor_is (times (over a.lo UNIT) (frac (int_max a.lo (neg_ℤ a.lo)) UNIT unit)) UNIT UNIT (lit≤ tt) (lit≤ tt) refl ∙ ap (λ z. floor_over (a.lo *ℤ z) UNIT) (absolute-is a.lo)) i;
  hi = (ap (λ x. ceil_at UNIT (times (over a.hi UNIT) x)) (greatest-frac a.hi (neg_ℤ a.hi) UNIT unit) ∙ ceil_is (times (over a.hi UNIT) (frac (int_max a.hi (neg_ℤ a.hi)) UNIT unit)) UNIT UNIT (lit≤ tt) (lit≤ tt) refl ∙ ap (λ z. ceil_over (a.hi *ℤ z) UNIT) (absolute-is a.hi)) i;
}
