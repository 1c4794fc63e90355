-- A polynomial whose linear coefficient outweighs the others rises, or falls, over the centuries about the epoch.
use Rattle.std.proofs.Common.{◌≡◌, ℕ, ◌+◌, ◌*◌, ◌≤◌, ℤ, pos, neg_ℤ, ◌+ℤ◌, ◌*ℤ◌, ◌≤ℤ◌, unsigned_abs, arith, ap, mul-le-mul_right}
use Rattle.std.proofs.lemmas.Int.{ints}
use borrow.Author.Differences.{up, down}
use Rattle.fixed_interval.specs.Fraction.{Fraction, ◌≤ᶠ◌, over, plus, times}
use Rattle.fixed_interval.proofs.FractionLaws.{≤ᶠ_refl, plus_mono, times_anti}
use Rattle.fixed_interval.proofs.Sizes.{abs_sum, abs_product, abs-scaled}
use Rattle.fixed_interval.proofs.Whole.{one_part, plus-times, flat}
use Rattle.meeus_terms.specs.Polynomials.{linear, quadratic, cubic, linear_top, quadratic_top, cubic_top}
use Rattle.meeus_terms.proofs.Differences.{gap, slope, quadratic_difference, cubic_difference}

-- at most two centuries from the epoch
pub record IsNear (t : Fraction) : Type 0 where
  pub near : unsigned_abs t.top ≤ 2 * t.bottom

-- ---- the polynomials as tops over powers of the bottom

pub linear_is : (a b : ℤ) (t : Fraction) → ((linear a b t).top ≡ linear_top a b t.top t.bottom) × ((linear a b t).bottom ≡ t.bottom)
unfolding linear plus times over
linear_is a b t = (omega (arith, ints), omega arith)

pub by_one : (z : ℤ) → z *ℤ pos 1 ≡ z
by_one z = omega (arith, ints)

-- what one more step of Horner's gives
step_is : (a p s s' : ℤ) (n k k' : ℕ) → s ≡ s' → n * k ≡ k' → (a *ℤ pos (n * k)) +ℤ ((p *ℤ s) *ℤ pos 1) ≡ (a *ℤ pos k') +ℤ (p *ℤ s')
step_is a p s s' n k k' e f i = (a *ℤ pos (f i)) +ℤ (by_one (p *ℤ e i) i)

pub quadratic_is : (a b c : ℤ) (t : Fraction) → ((quadratic a b c t).top ≡ quadratic_top a b c t.top t.bottom) × ((quadratic a b c t).bottom ≡ t.bottom * t.bottom)
unfolding quadratic plus times over
quadratic_is a b c t =
    let inner = linear_is b c t in
    let k : t.bottom * (linear b c t).bottom ≡ t.bottom * t.bottom = ap (λ (z : ℕ). t.bottom * z) inner.1 in
    (step_is a t.top _ _ t.bottom (linear b c t).bottom (t.bottom * t.bottom) inner.0 k, omega (arith, k))

pub cubic_is : (a b c d : ℤ) (t : Fraction) → ((cubic a b c d t).top ≡ cubic_top a b c d t.top t.bottom) × ((cubic a b c d t).bottom ≡ t.bottom * t.bottom * t.bottom)
unfolding cubic plus times over
cubic_is a b c d t =
    let inner = quadratic_is b c d t in
    let k : t.bottom * (quadratic b c d t).bottom ≡ t.bottom * (t.bottom * t.bottom) = ap (λ (z : ℕ). t.bottom * z) inner.1 in
    let k' : t.bottom * (quadratic b c d t).bottom ≡ t.bottom * t.bottom * t.bottom = omega (arith, k) in
    (step_is a t.top _ _ t.bottom (quadratic b c d t).bottom (t.bottom * t.bottom * t.bottom) inner.0 k', omega (arith, k'))

-- ---- signs

pub rises_by : (g k : ℤ) → pos 0 ≤ℤ g → pos 0 ≤ℤ k → pos 0 ≤ℤ (g *ℤ k)
rises_by g k s t =
    let u : down g ≡ 0 = omega (arith, ints, s, one_part g) in
    let v : down k ≡ 0 = omega (arith, ints, t, one_part k) in
    omega (arith, ints, ap (λ (z : ℕ). z * up k) u, ap (λ (z : ℕ). up g * z) v)

pub falls_by : (g k : ℤ) → pos 0 ≤ℤ g → k ≤ℤ pos 0 → (g *ℤ k) ≤ℤ pos 0
falls_by g k s t =
    let u : down g ≡ 0 = omega (arith, ints, s, one_part g) in
    let v : up k ≡ 0 = omega (arith, ints, t, one_part k) in
    omega (arith, ints, ap (λ (z : ℕ). z * down k) u, ap (λ (z : ℕ). up g * z) v)

-- the parts of the slope beside b are at most 4 |c|
sum_small : (p q : ℤ) (n m : ℕ) → unsigned_abs p ≤ 2 * n → unsigned_abs q ≤ 2 * m → unsigned_abs ((p *ℤ pos m) +ℤ (q *ℤ pos n)) ≤ 4 * (n * m)
sum_small p q n m h k =
    let s = abs_sum (p *ℤ pos m) (q *ℤ pos n) in
    let u = abs-scaled p m (2 * n) h in
    let v = abs-scaled q n (2 * m) k in
    omega (arith, s, u, v)

pub slope_near : (b c p q : ℤ) (n m : ℕ) → unsigned_abs p ≤ 2 * n → unsigned_abs q ≤ 2 * m → unsigned_abs (c *ℤ ((p *ℤ pos m) +ℤ (q *ℤ pos n))) ≤ 4 * unsigned_abs c * (n * m)
slope_near b c p q n m h k =
    let s = abs_product c ((p *ℤ pos m) +ℤ (q *ℤ pos n)) (unsigned_abs c) (4 * (n * m)) (omega arith) (sum_small p q n m h k) in
    omega (arith, s)

pub slope_above : (b c p q : ℤ) (n m : ℕ) → pos (4 * unsigned_abs c) ≤ℤ b → unsigned_abs p ≤ 2 * n → unsigned_abs q ≤ 2 * m → pos 0 ≤ℤ slope b c p q n m
slope_above b c p q n m steep h k = at_least (c *ℤ ((p *ℤ pos m) +ℤ (q *ℤ pos n))) (n * m) (slope_near b c p q n m h k)
  where
    at_least : (z : ℤ) (u : ℕ) → unsigned_abs z ≤ 4 * unsigned_abs c * u → pos 0 ≤ℤ ((b *ℤ pos u) +ℤ z)
    at_least z u s =
        let t : 4 * unsigned_abs c + down b ≤ up b = omega (arith, ints, steep) in
        omega (arith, ints, s, mul-le-mul_right u t)

pub slope_below : (b c p q : ℤ) (n m : ℕ) → b ≤ℤ neg_ℤ (pos (4 * unsigned_abs c)) → unsigned_abs p ≤ 2 * n → unsigned_abs q ≤ 2 * m → slope b c p q n m ≤ℤ pos 0
slope_below b c p q n m steep h k = at_most (c *ℤ ((p *ℤ pos m) +ℤ (q *ℤ pos n))) (n * m) (slope_near b c p q n m h k)
  where
    at_most : (z : ℤ) (u : ℕ) → unsigned_abs z ≤ 4 * unsigned_abs c * u → ((b *ℤ pos u) +ℤ z) ≤ℤ pos 0
    at_most z u s =
        let t : 4 * unsigned_abs c + up b ≤ down b = omega (arith, ints, steep) in
        omega (arith, ints, s, mul-le-mul_right u t)

gap_above : (x y : Fraction) → x ≤ᶠ y → pos 0 ≤ℤ gap x.top y.top x.bottom y.bottom
gap_above x y h = omega (arith, ints, h.crossed)

-- ---- rise and fall

higher : (f g d : ℤ) → g ≡ f +ℤ d → pos 0 ≤ℤ d → f ≤ℤ g
higher f g d e h = omega (arith, ints, e)

lower : (f g d : ℤ) → g ≡ f +ℤ d → d ≤ℤ pos 0 → g ≤ℤ f
lower f g d e h = omega (arith, ints, e)

pub linear_falls : (a b : ℤ) → b ≤ℤ pos 0 → (x y : Fraction) → x ≤ᶠ y → linear a b y ≤ᶠ linear a b x
unfolding linear over
linear_falls a b h x y o = plus_mono _ _ _ _ (≤ᶠ_refl _) (times_anti _ _ _ o h)

pub quadratic_rises : (a b c : ℤ) → pos (4 * unsigned_abs c) ≤ℤ b → (x y : Fraction) → IsNear x → IsNear y → x ≤ᶠ y → quadratic a b c x ≤ᶠ quadratic a b c y
quadratic_rises a b c steep x y h k o =
    let s = quadratic_is a b c x in
    let t = quadratic_is a b c y in
    let d = rises_by _ _ (gap_above x y o) (slope_above b c x.top y.top x.bottom y.bottom steep h.near k.near) in
    record { crossed = rw (s.0, s.1, t.0, t.1) (higher _ _ _ (quadratic_difference a b c x.top y.top x.bottom y.bottom) d) }

pub quadratic_falls : (a b c : ℤ) → b ≤ℤ neg_ℤ (pos (4 * unsigned_abs c)) → (x y : Fraction) → IsNear x → IsNear y → x ≤ᶠ y → quadratic a b c y ≤ᶠ quadratic a b c x
quadratic_falls a b c steep x y h k o =
    let s = quadratic_is a b c x in
    let t = quadratic_is a b c y in
    let d = falls_by _ _ (gap_above x y o) (slope_below b c x.top y.top x.bottom y.bottom steep h.near k.near) in
    record { crossed = rw (s.0, s.1, t.0, t.1) (lower _ _ _ (quadratic_difference a b c x.top y.top x.bottom y.bottom) d) }

-- b and two remainders that it outweighs, over u v
outweighed : (b y z : ℤ) (s t u v : ℕ) → b ≤ℤ neg_ℤ (pos (s + t)) → unsigned_abs y ≤ s * u → unsigned_abs z ≤ t * (u * v) → ((((b *ℤ pos u) +ℤ y) *ℤ pos v) +ℤ z) ≤ℤ pos 0
outweighed b y z s t u v steep h k =
    let w : s + t + up b ≤ down b = omega (arith, ints, steep) in
    let x : up y ≤ s * u + down y = omega (arith, ints, h) in
    rw (plus-times (b *ℤ pos u) y (pos v), flat b u v) (omega (arith, ints, k, mul-le-mul_right (u * v) w, mul-le-mul_right v x))

pub cubic_slope_below : (b c d p q : ℤ) (n m : ℕ) → b ≤ℤ neg_ℤ (pos (4 * unsigned_abs c + 12 * unsigned_abs d)) → unsigned_abs p ≤ 2 * n → unsigned_abs q ≤ 2 * m → ((quadratic_top b c d q m *ℤ pos (n * n)) +ℤ (p *ℤ (pos m *ℤ slope c d p q n m))) ≤ℤ pos 0
cubic_slope_below b c d p q n m steep h k =
    let x = unsigned_abs c in
    let y = unsigned_abs d in
    let first : unsigned_abs ((c *ℤ pos m) +ℤ (q *ℤ d)) ≤ x * m + 2 * m * y = omega (arith, abs_sum (c *ℤ pos m) (q *ℤ d), abs-scaled c m x (omega arith), abs_product q d (2 * m) y k (omega arith)) in
    let second = abs_product q ((c *ℤ pos m) +ℤ (q *ℤ d)) (2 * m) (x * m + 2 * m * y) k first in
    let third : unsigned_abs (slope c d p q n m) ≤ (x + 4 * y) * (n * m) = omega (arith, abs_sum (c *ℤ pos (n * m)) (d *ℤ ((p *ℤ pos m) +ℤ (q *ℤ pos n))), abs-scaled c (n * m) x (omega arith), slope_near c d p q n m h k) in
    let fourth = abs_product (pos m) (slope c d p q n m) m ((x + 4 * y) * (n * m)) (omega arith) third in
    let fifth = abs_product p (pos m *ℤ slope c d p q n m) (2 * n) (m * ((x + 4 * y) * (n * m))) h fourth in
    outweighed b _ _ (2 * x + 4 * y) (2 * x + 8 * y) (m * m) (n * n) (omega (arith, ints, steep)) (omega (arith, second)) (omega (arith, fifth))

pub cubic_falls : (a b c d : ℤ) → b ≤ℤ neg_ℤ (pos (4 * unsigned_abs c + 12 * unsigned_abs d)) → (x y : Fraction) → IsNear x → IsNear y → x ≤ᶠ y → cubic a b c d y ≤ᶠ cubic a b c d x
cubic_falls a b c d steep x y h k o =
    let s = cubic_is a b c d x in
    let t = cubic_is a b c d y in
    let e = falls_by _ _ (gap_above x y o) (cubic_slope_below b c d x.top y.top x.bottom y.bottom steep h.near k.near) in
    record { crossed = rw (s.0, s.1, t.0, t.1) (lower _ _ _ (cubic_difference a b c d x.top y.top x.bottom y.bottom) e) }
