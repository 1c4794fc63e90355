-- Products of ends as the code computes them.
use Rattle.std.proofs.Common.{◌≡◌, ℕ, ◌*◌, ◌^◌, ◌<◌, ◌≤◌, ℤ, pos, ◌*ℤ◌, ◌≤ℤ◌, max, unsigned_abs, FitsSigned, to_z, of_z, refl, arith, ap, ◌∙◌, mul-le-mul, le_trans, lit≤}
use Rattle.std.specs.Int.{w64, w128}
use Rattle.std.proofs.lemmas.Int.{ints}
use Rattle.fixed_interval.specs.declared.Interval.{Interval}
use Rattle.fixed_interval.specs.Interval.{ends}
use Rattle.fixed_interval.specs.Grid.{Ends, reach}
use Rattle.fixed_interval.specs.Whole.{floor_over, ceil_over, least_of_four, greatest_of_four}
use Rattle.fixed_interval.proofs.Bits.{bits_of, fitting, within, narrow, settled}
use Rattle.fixed_interval.proofs.GridLaws.{least_product, greatest_product}
use Rattle.fixed_interval.proofs.Sizes.{abs_product, abs-square, abs-least_product, abs-greatest_product, abs-floor_over, abs-ceil_over, div_ceil_no_more}

pub corner_fits : (x y : ℤ) (s t : ℕ) → FitsSigned w128 x → FitsSigned w128 y → unsigned_abs x ≤ s → unsigned_abs y ≤ t → s * t ≤ 2 ^ 126 → unsigned_abs (bits_of x) * unsigned_abs (bits_of y) ≤ 2 ^ 126
corner_fits x y s t f g h k m = rw (fitting x f, fitting y g) (le_trans (mul-le-mul h k) m)

-- a rounded quotient, as the code has it
pub floored : (r x z : ℤ) (n : ℕ) → 0 < n → r ≡ floor_over (bits_of x) n → x ≡ z → unsigned_abs z ≤ 2 ^ 126 → bits_of r ≡ floor_over z n
floored r x z n p e f h = settled r (floor_over z n) (e ∙ ap (λ y. floor_over y n) (settled x z f h)) (le_trans (abs-floor_over z (2 ^ 126) n p h) (div_ceil_no_more (2 ^ 126) n p))

pub ceiled : (r x z : ℤ) (n : ℕ) → 0 < n → r ≡ ceil_over (bits_of x) n → x ≡ z → unsigned_abs z ≤ 2 ^ 126 → bits_of r ≡ ceil_over z n
ceiled r x z n p e f h = settled r (ceil_over z n) (e ∙ ap (λ y. ceil_over y n) (settled x z f h)) (le_trans (abs-ceil_over z (2 ^ 126) n p h) (div_ceil_no_more (2 ^ 126) n p))

-- an interval's ends and the two numbers p and q, which the code reads as the ends of b, are factors whose products fit
pub record AreFactors (a : Interval) (b : Ends) (p q : ℤ) : Type 0 where
  pub low : p ≡ b.lo
  pub high : q ≡ b.hi
  pub fits : reach (ends a) * reach b ≤ 2 ^ 126

module _ {a : Interval} {b : Ends} {p q : ℤ} (f : AreFactors a b p q) where
  pub corners_fit : max (unsigned_abs (bits_of a.lo)) (unsigned_abs (bits_of a.hi)) * max (unsigned_abs p) (unsigned_abs q) ≤ 2 ^ 126
  corners_fit = rw (within a.lo a.low_in_range, within a.hi a.high_in_range, f.low, f.high) f.fits

  pub least_corner : (x : ℤ) → x ≡ least_of_four (bits_of a.lo *ℤ p) (bits_of a.lo *ℤ q) (bits_of a.hi *ℤ p) (bits_of a.hi *ℤ q) → x ≡ least_product (ends a) b
  least_corner x e = e ∙ (λ i. let s = within a.lo a.low_in_range i in let t = within a.hi a.high_in_range i in least_of_four (s *ℤ f.low i) (s *ℤ f.high i) (t *ℤ f.low i) (t *ℤ f.high i))

  pub greatest_corner : (x : ℤ) → x ≡ greatest_of_four (bits_of a.lo *ℤ p) (bits_of a.lo *ℤ q) (bits_of a.hi *ℤ p) (bits_of a.hi *ℤ q) → x ≡ greatest_product (ends a) b
  greatest_corner x e = e ∙ (λ i. let s = within a.lo a.low_in_range i in let t = within a.hi a.high_in_range i in greatest_of_four (s *ℤ f.low i) (s *ℤ f.high i) (t *ℤ f.low i) (t *ℤ f.high i))

  least_small : unsigned_abs (least_product (ends a) b) ≤ 2 ^ 126
  least_small = le_trans (abs-least_product (ends a) b) f.fits

  greatest_small : unsigned_abs (greatest_product (ends a) b) ≤ 2 ^ 126
  greatest_small = le_trans (abs-greatest_product (ends a) b) f.fits

  pub least_fits : (x : ℤ) → x ≡ least_of_four (bits_of a.lo *ℤ p) (bits_of a.lo *ℤ q) (bits_of a.hi *ℤ p) (bits_of a.hi *ℤ q) → unsigned_abs (bits_of x) ≤ 2 ^ 126
  least_fits x e = rw (settled x _ (least_corner x e) least_small) least_small

  pub greatest_fits : (x : ℤ) → x ≡ greatest_of_four (bits_of a.lo *ℤ p) (bits_of a.lo *ℤ q) (bits_of a.hi *ℤ p) (bits_of a.hi *ℤ q) → unsigned_abs (bits_of x) ≤ 2 ^ 126
  greatest_fits x e = rw (settled x _ (greatest_corner x e) greatest_small) greatest_small

  pub quotient_low : (r x : ℤ) (n : ℕ) → 0 < n → x ≡ least_of_four (bits_of a.lo *ℤ p) (bits_of a.lo *ℤ q) (bits_of a.hi *ℤ p) (bits_of a.hi *ℤ q) → r ≡ floor_over (bits_of x) n → bits_of r ≡ floor_over (least_product (ends a) b) n
  quotient_low r x n h e g = floored r x _ n h g (least_corner x e) least_small

  pub quotient_high : (r x : ℤ) (n : ℕ) → 0 < n → x ≡ greatest_of_four (bits_of a.lo *ℤ p) (bits_of a.lo *ℤ q) (bits_of a.hi *ℤ p) (bits_of a.hi *ℤ q) → r ≡ ceil_over (bits_of x) n → bits_of r ≡ ceil_over (greatest_product (ends a) b) n
  quotient_high r x n h e g = ceiled r x _ n h g (greatest_corner x e) greatest_small

pub interval_factors : (a b : Interval) → reach (ends a) * reach (ends b) ≤ 2 ^ 126 → AreFactors a (ends b) (bits_of b.lo) (bits_of b.hi)
interval_factors a b h = record { low = within b.lo b.low_in_range; high = within b.hi b.high_in_range; fits = h }

pub narrow_enough : (a b : Interval) → reach (ends a) < 2 ^ 63 → reach (ends b) < 2 ^ 63 → reach (ends a) * reach (ends b) ≤ 2 ^ 126
narrow_enough a b h k =
    let first : reach (ends a) ≤ 2 ^ 63 = omega (arith, h) in
    let second : reach (ends b) ≤ 2 ^ 63 = omega (arith, k) in
    le_trans (mul-le-mul first second) (lit≤ tt)

-- an interval and a range of units always are
pub range_factors : (a : Interval) (b : Ends) → unsigned_abs b.lo ≤ 2 ^ 44 → unsigned_abs b.hi ≤ 2 ^ 44 → AreFactors a b (bits_of (to_z w64 (of_z w64 b.lo))) (bits_of (to_z w64 (of_z w64 b.hi)))
range_factors a b h k =
    let s : reach (ends a) ≤ 2 ^ 71 = omega (arith, a.low_in_range, a.high_in_range) in
    let t : reach b ≤ 2 ^ 44 = omega arith in
    record { low = narrow b.lo (le_trans h (lit≤ tt)); high = narrow b.hi (le_trans k (lit≤ tt)); fits = le_trans (mul-le-mul s t) (lit≤ tt) }

-- ---- a number times whole units
pub scaled : (x u : ℤ) → unsigned_abs x ≤ 2 ^ 71 → pos 0 ≤ℤ u → u ≤ℤ pos (2 ^ 45) → bits_of x *ℤ bits_of (to_z w64 (of_z w64 u)) ≡ x *ℤ pos (unsigned_abs u)
scaled x u h k m =
    let s : pos (unsigned_abs u) ≡ u = omega (arith, ints) in
    rw (within x h, narrow u (omega (arith, ints)), s) refl

pub scaled_fits : (x u : ℤ) → unsigned_abs x ≤ 2 ^ 71 → pos 0 ≤ℤ u → u ≤ℤ pos (2 ^ 45) → unsigned_abs (x *ℤ pos (unsigned_abs u)) ≤ 2 ^ 126
scaled_fits x u h k m =
    let s : unsigned_abs u ≤ 2 ^ 45 = omega (arith, ints) in
    le_trans (abs_product x (pos (unsigned_abs u)) (2 ^ 71) (2 ^ 45) h s) (lit≤ tt)

pub factors_fit : (x u : ℤ) → unsigned_abs x ≤ 2 ^ 71 → pos 0 ≤ℤ u → u ≤ℤ pos (2 ^ 45) → unsigned_abs (bits_of x) * unsigned_abs (bits_of (to_z w64 (of_z w64 u))) ≤ 2 ^ 126
factors_fit x u h k m =
    let s : unsigned_abs u ≤ 2 ^ 45 = omega (arith, ints) in
    rw (within x h, narrow u s) (le_trans (mul-le-mul h s) (lit≤ tt))

pub scaled_fits_bits : (r x u : ℤ) → unsigned_abs x ≤ 2 ^ 71 → pos 0 ≤ℤ u → u ≤ℤ pos (2 ^ 45) → r ≡ bits_of x *ℤ bits_of (to_z w64 (of_z w64 u)) → unsigned_abs (bits_of r) ≤ 2 ^ 126
scaled_fits_bits r x u h k m e =
    let f = scaled_fits x u h k m in
    rw (settled r (x *ℤ pos (unsigned_abs u)) (e ∙ scaled x u h k m) f) f

-- ---- squares that keep the sign
pub square : (r x : ℤ) → unsigned_abs x ≤ 2 ^ 71 → r ≡ bits_of x *ℤ pos (unsigned_abs (bits_of x)) → r ≡ x *ℤ pos (unsigned_abs x)
square r x h e = e ∙ (λ i. within x h i *ℤ pos (unsigned_abs (within x h i)))

module _ (a : Interval) (fits : reach (ends a) * reach (ends a) ≤ 2 ^ 126) where
  pub low_square_small : unsigned_abs (a.lo *ℤ pos (unsigned_abs a.lo)) ≤ 2 ^ 126
  low_square_small = le_trans (abs-square a.lo (reach (ends a)) (omega arith)) fits

  pub high_square_small : unsigned_abs (a.hi *ℤ pos (unsigned_abs a.hi)) ≤ 2 ^ 126
  high_square_small = le_trans (abs-square a.hi (reach (ends a)) (omega arith)) fits

  pub low_factors_fit : unsigned_abs (bits_of a.lo) * unsigned_abs (bits_of a.lo) ≤ 2 ^ 126
  low_factors_fit = let s : unsigned_abs a.lo ≤ reach (ends a) = omega arith in rw (within a.lo a.low_in_range) (le_trans (mul-le-mul s s) fits)

  pub high_factors_fit : unsigned_abs (bits_of a.hi) * unsigned_abs (bits_of a.hi) ≤ 2 ^ 126
  high_factors_fit = let s : unsigned_abs a.hi ≤ reach (ends a) = omega arith in rw (within a.hi a.high_in_range) (le_trans (mul-le-mul s s) fits)

-- a number that is settled stays small once read
pub settled_small : (r z : ℤ) → r ≡ z → unsigned_abs z ≤ 2 ^ 126 → unsigned_abs (bits_of r) ≤ 2 ^ 126
settled_small r z e h = rw (settled r z e h) h
