-- Whole square roots by what they are: the greatest number whose square is at most n, and the least whose square is at least n.
use Rattle.std.proofs.Common.{◌≡◌, ℕ, zero, suc, ◌+◌, ◌*◌, ◌/◌, ◌<◌, ◌≤◌, Bool, true, false, nat_le, ◌==◌, if◌then◌else◌, ℤ, pos, negsuc, neg_ℤ, ◌*ℤ◌, ◌^◌, ap, ◌∙◌, lit≤, refl, inl, inr, arith, mul-pos, mul-le-mul, mul-le-mul_right, le_of_mul-le-mul_right, le_antisymm, eq-or-lt_of_le, le-div_iff_mul-le}
use Rattle.std.specs.Int.{div_ceil}
use Rattle.std.proofs.lemmas.Int.{ints}
use borrow.Author.Tests.{leb-true, leb-false, eqb-true, eqb-false}
use Rattle.fixed_interval.specs.Enclosure.{root_from, whole_root, root_up, natural, root}
use Rattle.fixed_interval.specs.Fraction.{over, negate, floor_at, ceil_at}
use Rattle.fixed_interval.specs.Grid.{Ends, UNIT, enclosure_of, rounded_out, grid_root}
use Rattle.fixed_interval.specs.Whole.{ceil_over}
use Rattle.fixed_interval.proofs.Whole.{div-parts}
use Rattle.fixed_interval.proofs.GridLaws.{floor_is, ceil_is}
use Rattle.fixed_interval.proofs.Sizes.{div_ceil_least, div_ceil_covers}

record IsRootUpTo (n k r : ℕ) : Type 0 where
  below : r * r ≤ n
  small : r ≤ k
  next : r < k → n < (r + 1) * (r + 1)

root_from-is : (n k : ℕ) → IsRootUpTo n k (root_from n k)
unfolding root_from
root_from-is n zero = record { below = omega arith; small = omega arith; next = λ h. omega arith }
root_from-is n (suc k) = by (nat_le (suc k * suc k) n) refl (root_from n k) (root_from-is n k)
  where
    at_k : (r : ℕ) → n < suc k * suc k → r ≡ k → n < (r + 1) * (r + 1)
    at_k r h q = rw q (omega arith)

    next_of : (r : ℕ) → n < suc k * suc k → IsRootUpTo n k r → n < (r + 1) * (r + 1)
    next_of r a h = elim (eq-or-lt_of_le h.small) [ inl q ↦ at_k r a q | inr l ↦ h.next l ]

    by : (t : Bool) → nat_le (suc k * suc k) n ≡ t → (r : ℕ) → IsRootUpTo n k r → IsRootUpTo n (suc k) (if t then suc k else r)
    by true e r h = record { below = leb-true _ _ e; small = omega arith; next = λ s. omega arith }
    by false e r h = record { below = h.below; small = omega (arith, h.small); next = λ s. next_of r (leb-false _ _ e) h }

-- the greatest number whose square is at most n
pub whole_root_below : (n : ℕ) → whole_root n * whole_root n ≤ n
unfolding whole_root
whole_root_below n = (root_from-is n n).below

pub whole_root_next : (n : ℕ) → n < (whole_root n + 1) * (whole_root n + 1)
unfolding whole_root
whole_root_next n = by (root_from n n) (root_from-is n n)
  where
    at_n : (r : ℕ) → r ≡ n → n < (r + 1) * (r + 1)
    at_n r q = rw q (omega arith)

    by : (r : ℕ) → IsRootUpTo n n r → n < (r + 1) * (r + 1)
    by r h = elim (eq-or-lt_of_le h.small) [ inl q ↦ at_n r q | inr l ↦ h.next l ]

-- squares keep the order, both ways
squares_le : (s t : ℕ) → s * s < (t + 1) * (t + 1) → s ≤ t
squares_le s t h = by (nat_le s t) refl
  where
    by : (b : Bool) → nat_le s t ≡ b → s ≤ t
    by true e = leb-true _ _ e
    by false e = let l : t + 1 ≤ s = omega (arith, leb-false s t e) in absurd (omega (arith, mul-le-mul l l))

pub whole_root_greatest : (n s : ℕ) → s * s ≤ n → s ≤ whole_root n
whole_root_greatest n s h = squares_le s (whole_root n) (omega (arith, whole_root_next n))

pub whole_root_unique : (n r : ℕ) → r * r ≤ n → n < (r + 1) * (r + 1) → whole_root n ≡ r
whole_root_unique n r h k = le_antisymm (squares_le (whole_root n) r (omega (arith, whole_root_below n))) (whole_root_greatest n r h)

pub whole_root_mono : (m n : ℕ) → m ≤ n → whole_root m ≤ whole_root n
whole_root_mono m n h = whole_root_greatest n (whole_root m) (omega (arith, whole_root_below m))

-- the least number whose square is at least n
pub root_up_above : (n : ℕ) → n ≤ root_up n * root_up n
unfolding root_up
root_up_above n = by (whole_root n * whole_root n == n) refl
  where
    by : (t : Bool) → (whole_root n * whole_root n == n) ≡ t → n ≤ (if t then whole_root n else whole_root n + 1) * (if t then whole_root n else whole_root n + 1)
    by true e = omega (arith, eqb-true _ _ e)
    by false e = omega (arith, whole_root_next n)

pub root_up_least : (n s : ℕ) → n ≤ s * s → root_up n ≤ s
unfolding root_up
root_up_least n s h = by (whole_root n * whole_root n == n) refl
  where
    by : (t : Bool) → (whole_root n * whole_root n == n) ≡ t → (if t then whole_root n else whole_root n + 1) ≤ s
    by true e = squares_le (whole_root n) s (omega (arith, eqb-true _ _ e))
    by false e = other (nat_le s (whole_root n)) refl
      where
        other : (b : Bool) → nat_le s (whole_root n) ≡ b → whole_root n + 1 ≤ s
        other true f = let l = leb-true _ _ f in absurd (eqb-false _ _ e (omega (arith, mul-le-mul l l, whole_root_below n)))
        other false f = omega (arith, leb-false _ _ f)

pub root_up_mono : (m n : ℕ) → m ≤ n → root_up m ≤ root_up n
root_up_mono m n h = root_up_least m (root_up n) (omega (arith, root_up_above n))

-- a bound on the square is one on the root
pub whole_root_within : (n s : ℕ) → n ≤ s * s → whole_root n ≤ s
whole_root_within n s h = squares_le (whole_root n) s (omega (arith, whole_root_below n))

pub roots_ordered : (m n : ℕ) → m ≤ n → whole_root m ≤ root_up n
roots_ordered m n h = whole_root_within m (root_up n) (omega (arith, root_up_above n))

pub root_up-square : (n r : ℕ) → r * r ≡ n → root_up n ≡ r
root_up-square n r e = le_antisymm (root_up_least n r (omega arith)) (squares_le r (root_up n) (omega (arith, root_up_above n)))

pub root_up-between : (n r : ℕ) → r * r < n → n < (r + 1) * (r + 1) → root_up n ≡ r + 1
root_up-between n r h k = le_antisymm (root_up_least n (r + 1) (omega arith)) (above (root_up n) (root_up_above n))
  where
    above : (v : ℕ) → n ≤ v * v → r + 1 ≤ v
    above v l = by (nat_le (r + 1) v) refl
      where
        by : (b : Bool) → nat_le (r + 1) v ≡ b → r + 1 ≤ v
        by true e = leb-true _ _ e
        by false e = let m : v ≤ r = omega (arith, leb-false _ _ e) in absurd (omega (arith, mul-le-mul m m))

-- a square factor comes out of the root
pub whole_root-scaled : (n k : ℕ) → 0 < k → whole_root (n * (k * k)) / k ≡ whole_root n
whole_root-scaled n k h = core (whole_root (n * (k * k))) (whole_root_below (n * (k * k))) (whole_root_greatest (n * (k * k)))
  where
    core : (w : ℕ) → w * w ≤ n * (k * k) → ((s : ℕ) → s * s ≤ n * (k * k) → s ≤ w) → w / k ≡ whole_root n
    core w below greatest =
        let q = w / k in
        let part : q * k ≤ w = omega arith in
        let s : (q * q) * (k * k) ≤ n * (k * k) = omega (arith, mul-le-mul part part) in
        let r = whole_root n in
        let t : (r * k) * (r * k) ≤ n * (k * k) = omega (arith, mul-le-mul_right (k * k) (whole_root_below n)) in
        let u : r * k ≤ w = greatest (r * k) t in
        le_antisymm (whole_root_greatest n q (le_of_mul-le-mul_right s (mul-pos h h))) (omega (arith, (le-div_iff_mul-le h).1 u))

pub root_up-scaled : (n k : ℕ) → 0 < k → div_ceil (root_up (n * (k * k))) k ≡ root_up n
root_up-scaled n k h = core (root_up (n * (k * k))) (root_up_above (n * (k * k))) (root_up_least (n * (k * k)))
  where
    core : (v : ℕ) → n * (k * k) ≤ v * v → ((s : ℕ) → n * (k * k) ≤ s * s → v ≤ s) → div_ceil v k ≡ root_up n
    core v above least = le_antisymm (div_ceil_least v k (root_up n) h (least (root_up n * k) up_fits)) (root_up_least n (div_ceil v k) down_fits)
      where
        up_fits : n * (k * k) ≤ (root_up n * k) * (root_up n * k)
        up_fits = omega (arith, mul-le-mul_right (k * k) (root_up_above n))

        squared : (c : ℕ) → v ≤ c * k → n ≤ c * c
        squared c l = let s : n * (k * k) ≤ (c * c) * (k * k) = omega (arith, mul-le-mul l l) in le_of_mul-le-mul_right s (mul-pos h h)

        down_fits : n ≤ div_ceil v k * div_ceil v k
        down_fits = squared (div_ceil v k) (div_ceil_covers v k h)

-- ---- the root on the grid
natural-neg : (m : ℕ) → natural (neg_ℤ (pos m)) ≡ 0
unfolding natural
natural-neg zero = refl
natural-neg (suc m) = refl

pub natural-times : (z : ℤ) (k : ℕ) → natural (z *ℤ pos k) ≡ natural z * k
unfolding natural
natural-times (pos n) k = refl
natural-times (negsuc n) k = natural-neg (suc n * k) ∙ omega arith

fine_floor : (z : ℤ) → floor_at (2 ^ 192) (over z UNIT) ≡ z *ℤ pos (2 ^ 136)
unfolding floor_at over
fine_floor z = omega (arith, ints, div-parts (z *ℤ pos (2 ^ 192)) UNIT (lit≤ tt))

fine_ceil : (z : ℤ) → ceil_at (2 ^ 192) (over z UNIT) ≡ z *ℤ pos (2 ^ 136)
unfolding ceil_at floor_at over negate
fine_ceil z = omega (arith, ints, div-parts (neg_ℤ z *ℤ pos (2 ^ 192)) UNIT (lit≤ tt))

-- counted in 2^-192, a number of the grid is its count under the root times a square
fine_count : (z : ℤ) → natural (z *ℤ pos (2 ^ 136)) ≡ natural z * UNIT * (2 ^ 40 * 2 ^ 40)
fine_count z = natural-times z (2 ^ 136) ∙ omega arith

ceil_over-pos : (v : ℕ) → ceil_over (pos v) (2 ^ 40) ≡ pos (div_ceil v (2 ^ 40))
ceil_over-pos zero = refl
ceil_over-pos (suc v) = ap pos (omega arith)

pub grid_root-is : (a : Ends) → grid_root a ≡ record { lo = pos (whole_root (natural a.lo * UNIT)); hi = pos (root_up (natural a.hi * UNIT)) }
unfolding grid_root rounded_out root enclosure_of over
grid_root-is a i = record {
  lo = (floor_is (over (pos (whole_root (natural (floor_at (2 ^ 192) (over a.lo UNIT))))) (2 ^ 96)) UNIT (2 ^ 40) (lit≤ tt) (lit≤ tt) refl ∙ ap (λ n. pos (whole_root n / 2 ^ 40)) (ap natural (fine_floor a.lo) ∙ fine_count a.lo) ∙ ap pos (whole_root-scaled (natural a.lo * UNIT) (2 ^ 40) (lit≤ tt))) i;
  hi = (ceil_is (over (pos (root_up (natural (ceil_at (2 ^ 192) (over a.hi UNIT))))) (2 ^ 96)) UNIT (2 ^ 40) (lit≤ tt) (lit≤ tt) refl ∙ ap (λ n. ceil_over (pos (root_up n)) (2 ^ 40)) (ap natural (fine_ceil a.hi) ∙ fine_count a.hi) ∙ ceil_over-pos (root_up (natural a.hi * UNIT * (2 ^ 40 * 2 ^ 40))) ∙ ap pos (root_up-scaled (natural a.hi * UNIT) (2 ^ 40) (lit≤ tt))) i;
}
