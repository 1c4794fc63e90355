-- The tops of the polynomials at minutes within the limits: how great they are, how they rise and fall, and what their
-- quotients are.
use Rattle.std.proofs.Common.{◌≡◌, ℕ, ◌+◌, ◌*◌, ◌^◌, ◌<◌, ◌≤◌, ℤ, pos, neg_ℤ, ◌+ℤ◌, ◌-ℤ◌, ◌*ℤ◌, ◌≤ℤ◌, unsigned_abs, to_z, of_z, arith, ap, sym, subst, refl, lit≤, ◌∙◌, le_of_mul-le-mul_right, lt_of_mul-lt-mul_right, mul-le-mul_right}
use Rattle.std.specs.Int.{w64, int_div_euclid}
use Rattle.std.proofs.lemmas.Int.{ints}
use borrow.Author.Differences.{up, down, at_most_in}
use Rattle.fixed_interval.specs.Fraction.{Fraction, over, times, floor_at, ceil_at}
use Rattle.fixed_interval.specs.Whole.{floor_over, ceil_over}
use Rattle.fixed_interval.proofs.Bits.{bits_of, settled}
use Rattle.fixed_interval.proofs.FractionLaws.{over_mono}
use Rattle.fixed_interval.proofs.GridLaws.{floor_is, ceil_is}
use Rattle.fixed_interval.proofs.Sizes.{abs_sum, abs_product, abs-scaled}
use Rattle.fixed_interval.proofs.Whole.{one_part, div-parts}
use Rattle.solar_terms.specs.declared.Minutes.{Minutes}
use Rattle.meeus_terms.specs.Polynomials.{centuries, linear, quadratic, cubic, linear_top, quadratic_top, cubic_top}
use Rattle.meeus_terms.proofs.Differences.{gap, slope, quadratic_difference, cubic_difference}
use Rattle.meeus_terms.proofs.LineLaws.{held_within}
use Rattle.meeus_terms.proofs.Monotony.{by_one, linear_is, quadratic_is, cubic_is, rises_by, falls_by, slope_near, slope_above, slope_below, cubic_slope_below}

pub linear_small : (a b k : ℤ) → unsigned_abs k ≤ 53_200_000 → unsigned_abs (linear_top a b k 52_596_000) ≤ 53_200_000 * (unsigned_abs a + unsigned_abs b)
linear_small a b k h =
    let s = abs_sum (a *ℤ pos 52_596_000) (k *ℤ b) in
    let u = abs-scaled a 52_596_000 (unsigned_abs a) (omega arith) in
    let v = abs_product k b 53_200_000 (unsigned_abs b) h (omega arith) in
    omega (arith, s, u, v)

pub quadratic_small : (a b c k : ℤ) → unsigned_abs k ≤ 53_200_000 → unsigned_abs (quadratic_top a b c k 52_596_000) ≤ 2_830_240_000_000_000 * (unsigned_abs a + unsigned_abs b + unsigned_abs c)
quadratic_small a b c k h =
    let s = abs_sum (a *ℤ pos (52_596_000 * 52_596_000)) (k *ℤ linear_top b c k 52_596_000) in
    let u = abs-scaled a (52_596_000 * 52_596_000) (unsigned_abs a) (omega arith) in
    let v = abs_product k (linear_top b c k 52_596_000) 53_200_000 _ h (linear_small b c k h) in
    omega (arith, s, u, v)

pub cubic_small : (a b c d k : ℤ) → unsigned_abs k ≤ 53_200_000 → unsigned_abs a ≤ 2 ^ 45 → unsigned_abs b + unsigned_abs c + unsigned_abs d ≤ 2 ^ 45 → unsigned_abs (cubic_top a b c d k 52_596_000) ≤ 2 ^ 124
cubic_small a b c d k h p q =
    let s = abs_sum (a *ℤ pos (52_596_000 * 52_596_000 * 52_596_000)) (k *ℤ quadratic_top b c d k 52_596_000) in
    let u = abs-scaled a (52_596_000 * 52_596_000 * 52_596_000) (unsigned_abs a) (omega arith) in
    let v = abs_product k (quadratic_top b c d k 52_596_000) 53_200_000 _ h (quadratic_small b c d k h) in
    omega (arith, s, u, v)

-- ---- rise and fall between two minutes

-- what a difference over n says of the tops
rise_of : (s t d : ℤ) (n : ℕ) → 0 < n → t *ℤ pos n ≡ (s *ℤ pos n) +ℤ d → pos 0 ≤ℤ d → s ≤ℤ t
rise_of s t d n p e h =
    let o : (up s + down t) * n ≤ (up t + down s) * n = omega (arith, ints, e, h) in
    at_most_in s t (le_of_mul-le-mul_right o p)

fall_of : (s t d : ℤ) (n : ℕ) → 0 < n → t *ℤ pos n ≡ (s *ℤ pos n) +ℤ d → d ≤ℤ pos 0 → t ≤ℤ s
fall_of s t d n p e h =
    let o : (up t + down s) * n ≤ (up s + down t) * n = omega (arith, ints, e, h) in
    at_most_in t s (le_of_mul-le-mul_right o p)

later : (k l : ℤ) (n : ℕ) → k ≤ℤ l → pos 0 ≤ℤ gap k l n n
later k l n h =
    let o : up k + down l ≤ up l + down k = omega (arith, ints, h) in
    omega (arith, ints, mul-le-mul_right n o)

pub quadratic_rise : (a b c k l : ℤ) → pos (4 * unsigned_abs c) ≤ℤ b → unsigned_abs k ≤ 53_200_000 → unsigned_abs l ≤ 53_200_000 → k ≤ℤ l → quadratic_top a b c k 52_596_000 ≤ℤ quadratic_top a b c l 52_596_000
quadratic_rise a b c k l steep p q h =
    rise_of _ _ _ _ (lit≤ tt) (quadratic_difference a b c k l 52_596_000 52_596_000)
    (rises_by _ _ (later k l 52_596_000 h) (slope_above b c k l 52_596_000 52_596_000 steep (omega (arith, p)) (omega (arith, q))))

pub quadratic_fall : (a b c k l : ℤ) → b ≤ℤ neg_ℤ (pos (4 * unsigned_abs c)) → unsigned_abs k ≤ 53_200_000 → unsigned_abs l ≤ 53_200_000 → k ≤ℤ l → quadratic_top a b c l 52_596_000 ≤ℤ quadratic_top a b c k 52_596_000
quadratic_fall a b c k l steep p q h =
    fall_of _ _ _ _ (lit≤ tt) (quadratic_difference a b c k l 52_596_000 52_596_000)
    (falls_by _ _ (later k l 52_596_000 h) (slope_below b c k l 52_596_000 52_596_000 steep (omega (arith, p)) (omega (arith, q))))

pub cubic_fall : (a b c d k l : ℤ) → b ≤ℤ neg_ℤ (pos (4 * unsigned_abs c + 12 * unsigned_abs d)) → unsigned_abs k ≤ 53_200_000 → unsigned_abs l ≤ 53_200_000 → k ≤ℤ l → cubic_top a b c d l 52_596_000 ≤ℤ cubic_top a b c d k 52_596_000
cubic_fall a b c d k l steep p q h =
    fall_of _ _ _ _ (lit≤ tt) (cubic_difference a b c d k l 52_596_000 52_596_000)
    (falls_by _ _ (later k l 52_596_000 h) (cubic_slope_below b c d k l 52_596_000 52_596_000 steep (omega (arith, p)) (omega (arith, q))))

-- over at most 720 minutes a quadratic top moves by at most 720 centuries times b and 4 c
pub quadratic_moves : (a b c k l : ℤ) → unsigned_abs k ≤ 53_200_000 → unsigned_abs l ≤ 53_200_000 → k ≤ℤ l → (l -ℤ k) ≤ℤ pos 720 → quadratic_top a b c l 52_596_000 ≤ℤ (quadratic_top a b c k 52_596_000 +ℤ pos (37_869_120_000 * (unsigned_abs b + 4 * unsigned_abs c)))
quadratic_moves a b c k l p q h w = moves _ _ _ (quadratic_difference a b c k l 52_596_000 52_596_000) far
  where
    moves : (s t d : ℤ) → t *ℤ pos 2_766_339_216_000_000 ≡ (s *ℤ pos 2_766_339_216_000_000) +ℤ d → unsigned_abs d ≤ 37_869_120_000 * ((unsigned_abs b + 4 * unsigned_abs c) * 2_766_339_216_000_000) → t ≤ℤ (s +ℤ pos (37_869_120_000 * (unsigned_abs b + 4 * unsigned_abs c)))
    moves s t d e r = omega (arith, ints, e, r)

    far : unsigned_abs (gap k l 52_596_000 52_596_000 *ℤ slope b c k l 52_596_000 52_596_000) ≤ 37_869_120_000 * ((unsigned_abs b + 4 * unsigned_abs c) * 2_766_339_216_000_000)
    far = abs_product (gap k l 52_596_000 52_596_000) (slope b c k l 52_596_000 52_596_000) 37_869_120_000 ((unsigned_abs b + 4 * unsigned_abs c) * 2_766_339_216_000_000) near steep
      where
        near : unsigned_abs (gap k l 52_596_000 52_596_000) ≤ 37_869_120_000
        near = omega (arith, ints, h, w)

        steep : unsigned_abs (slope b c k l 52_596_000 52_596_000) ≤ (unsigned_abs b + 4 * unsigned_abs c) * 2_766_339_216_000_000
        steep = omega (arith, abs_sum (b *ℤ pos 2_766_339_216_000_000) (c *ℤ ((k *ℤ pos 52_596_000) +ℤ (l *ℤ pos 52_596_000))), abs-scaled b 2_766_339_216_000_000 (unsigned_abs b) (omega arith), slope_near b c k l 52_596_000 52_596_000 (omega (arith, p)) (omega (arith, q)))

-- and one that falls, a linear top, by at most 720 times b
pub linear_moves : (a b k l : ℤ) → b ≤ℤ pos 0 → k ≤ℤ l → (l -ℤ k) ≤ℤ pos 720 → linear_top a b k 52_596_000 ≤ℤ (linear_top a b l 52_596_000 +ℤ pos (720 * unsigned_abs b))
linear_moves a b k l h o w =
    let n : up l + down k ≤ up k + down l + 720 = omega (arith, ints, w) in
    let z : up b ≡ 0 = omega (arith, ints, h, one_part b) in
    omega (arith, ints, z, ap (λ (y : ℕ). y * up k) z, ap (λ (y : ℕ). y * up l) z, ap (λ (y : ℕ). y * down k) z, ap (λ (y : ℕ). y * down l) z, mul-le-mul_right (down b) n)

-- ---- the polynomials at a minute within the limits, rounded

time_within : (k : ℤ) → unsigned_abs k ≤ 53_200_000 → centuries (over k 1) ≡ times (over k 1) (over (pos 1) 52_596_000)
unfolding centuries
time_within k h = ap (λ (j : Fraction). times j (over (pos 1) 52_596_000)) (held_within (over k 1) (over_mono 1 _ _ (omega (arith, ints, h))) (over_mono 1 _ _ (omega (arith, ints, h))))

-- a fraction whose top and bottom are the minute's and a century
record IsTime (t : Fraction) (k : ℤ) : Type 0 where
  top : t.top ≡ k
  bottom : t.bottom ≡ 52_596_000

plain_time : (k : ℤ) → IsTime (times (over k 1) (over (pos 1) 52_596_000)) k
unfolding times over
plain_time k = record { top = by_one k; bottom = refl }

time_is : (k : ℤ) → unsigned_abs k ≤ 53_200_000 → IsTime (centuries (over k 1)) k
time_is k h = subst (λ (t : Fraction). IsTime t k) (sym (time_within k h)) (plain_time k)

module _ (k : ℤ) (h : unsigned_abs k ≤ 53_200_000) where
  pub linear_here : (a b : ℤ) → ((linear a b (centuries (over k 1))).top ≡ linear_top a b k 52_596_000) × ((linear a b (centuries (over k 1))).bottom ≡ 52_596_000)
  linear_here a b =
      let t = time_is k h in
      let e = linear_is a b (centuries (over k 1)) in
      (e.0 ∙ (λ i. linear_top a b (t.top i) (t.bottom i)), e.1 ∙ t.bottom)

  pub quadratic_here : (a b c : ℤ) → ((quadratic a b c (centuries (over k 1))).top ≡ quadratic_top a b c k 52_596_000) × ((quadratic a b c (centuries (over k 1))).bottom ≡ 2_766_339_216_000_000)
  quadratic_here a b c =
      let t = time_is k h in
      let e = quadratic_is a b c (centuries (over k 1)) in
      (e.0 ∙ (λ i. quadratic_top a b c (t.top i) (t.bottom i)), e.1 ∙ ap (λ (n : ℕ). n * n) t.bottom)

  pub cubic_here : (a b c d : ℤ) → ((cubic a b c d (centuries (over k 1))).top ≡ cubic_top a b c d k 52_596_000) × ((cubic a b c d (centuries (over k 1))).bottom ≡ 145_498_377_404_736_000_000_000)
  cubic_here a b c d =
      let t = time_is k h in
      let e = cubic_is a b c d (centuries (over k 1)) in
      (e.0 ∙ (λ i. cubic_top a b c d (t.top i) (t.bottom i)), e.1 ∙ ap (λ (n : ℕ). n * n * n) t.bottom)

-- ---- as the code has them

pub first_within : (m : Minutes) → unsigned_abs m.first ≤ 53_200_000
first_within m = omega (arith, ints, m.not_before, m.ordered, m.not_after)

pub last_within : (m : Minutes) → unsigned_abs m.last ≤ 53_200_000
last_within m = omega (arith, ints, m.not_before, m.ordered, m.not_after)

-- what a call at the minute k gave
pub read : (f : ℤ → ℤ) (x k : ℤ) → unsigned_abs k ≤ 53_200_000 → x ≡ f (to_z w64 (of_z w64 k)) → unsigned_abs x ≤ 2 ^ 124 → bits_of x ≡ f k
read f x k p e h = settled x (f k) (e ∙ ap f (word k p)) (subst (λ (y : ℤ). unsigned_abs y ≤ 2 ^ 126) (e ∙ ap f (word k p)) (omega arith))
  where
    word : (k : ℤ) → unsigned_abs k ≤ 53_200_000 → to_z w64 (of_z w64 k) ≡ k
    word k p = omega (arith, ints)

pub floor_here : (r x z : ℤ) (f : Fraction) (n : ℕ) → 0 < n → r ≡ floor_over (bits_of x) n → bits_of x ≡ z → (f.top ≡ z) × (f.bottom ≡ n) → r ≡ floor_at 1 f
floor_here r x z f n p e s g = e ∙ ap (λ (y : ℤ). floor_over y n) (s ∙ sym g.0) ∙ sym (floor_is f 1 n (lit≤ tt) p (g.1 ∙ omega arith))

pub ceil_here : (r x z : ℤ) (f : Fraction) (n : ℕ) → 0 < n → r ≡ ceil_over (bits_of x) n → bits_of x ≡ z → (f.top ≡ z) × (f.bottom ≡ n) → r ≡ ceil_at 1 f
ceil_here r x z f n p e s g = e ∙ ap (λ (y : ℤ). ceil_over y n) (s ∙ sym g.0) ∙ sym (ceil_is f 1 n (lit≤ tt) p (g.1 ∙ omega arith))

-- quotients of tops that are apart by k
quotients_near : (x y : ℤ) (n k w : ℕ) → 0 < n → y ≤ℤ (x +ℤ pos k) → k ≤ w * n → ceil_over y n ≤ℤ (floor_over x n +ℤ pos (w + 1))
quotients_near x y n k w p h l = core (int_div_euclid x (pos n)) (int_div_euclid (neg_ℤ y) (pos n)) (omega (arith, ints, h, l, (div-parts x n p).1, (div-parts (neg_ℤ y) n p).1))
  where
    core : (q r : ℤ) → (down q + down r) * n < (up q + up r + w + 2) * n → neg_ℤ r ≤ℤ (q +ℤ pos (w + 1))
    core q r s = let t : down q + down r < up q + up r + w + 2 = lt_of_mul-lt-mul_right n s in omega (arith, ints)

pub range_narrow : (r s x y u v : ℤ) (n k w : ℕ) → 0 < n → r ≡ floor_over (bits_of x) n → s ≡ ceil_over (bits_of y) n → bits_of x ≡ u → bits_of y ≡ v → v ≤ℤ (u +ℤ pos k) → k ≤ w * n → (s -ℤ r) ≤ℤ pos (w + 1)
range_narrow r s x y u v n k w p e f g h o l =
    let r' : r ≡ floor_over u n = e ∙ ap (λ (z : ℤ). floor_over z n) g in
    let s' : s ≡ ceil_over v n = f ∙ ap (λ (z : ℤ). ceil_over z n) h in
    apart r s (floor_over u n) (ceil_over v n) r' s' (quotients_near u v n k w p o l)
  where
    apart : (r s q t : ℤ) → r ≡ q → s ≡ t → t ≤ℤ (q +ℤ pos (w + 1)) → (s -ℤ r) ≤ℤ pos (w + 1)
    apart r s q t e f h = omega (arith, ints, e, f, h)
