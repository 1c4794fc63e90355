-- Sums of fractions.
use Rattle.std.proofs.Common.{◌≡◌, ℕ, ◌*◌, ℤ, pos, negsuc, neg_ℤ, ◌+ℤ◌, ◌*ℤ◌, ◌≤ℤ◌, arith}
use Rattle.std.proofs.lemmas.Int.{ints}
use borrow.Author.Differences.{same_in}
use Rattle.fixed_interval.specs.Fraction.{Fraction, ◌≤ᶠ◌, over, negate, plus, times}
use Rattle.fixed_interval.proofs.Whole.{parts, plus-times, flat}
use Rattle.fixed_interval.proofs.FractionLaws.{≤ᶠ_refl, ≤ᶠ_trans, plus_mono}

pub plus_assoc_right : (a b c : Fraction) → plus (plus a b) c ≤ᶠ plus a (plus b c)
unfolding plus
plus_assoc_right a b c =
    let p = a.bottom * (b.bottom * c.bottom) in
    let q = (a.bottom * b.bottom) * c.bottom in
    let x = (a.top *ℤ pos b.bottom) +ℤ (b.top *ℤ pos a.bottom) in
    let y = (b.top *ℤ pos c.bottom) +ℤ (c.top *ℤ pos b.bottom) in
    record { crossed = rw (plus-times (x *ℤ pos c.bottom) (c.top *ℤ pos (a.bottom * b.bottom)) (pos p), flat x c.bottom p, plus-times (a.top *ℤ pos b.bottom) (b.top *ℤ pos a.bottom) (pos (c.bottom * p)), flat a.top b.bottom (c.bottom * p), flat b.top a.bottom (c.bottom * p), flat c.top (a.bottom * b.bottom) p, plus-times (a.top *ℤ pos (b.bottom * c.bottom)) (y *ℤ pos a.bottom) (pos q), flat a.top (b.bottom * c.bottom) q, flat y a.bottom q, plus-times (b.top *ℤ pos c.bottom) (c.top *ℤ pos b.bottom) (pos (a.bottom * q)), flat b.top c.bottom (a.bottom * q), flat c.top b.bottom (a.bottom * q)) (omega (arith, ints)) }

pub plus_assoc_left : (a b c : Fraction) → plus a (plus b c) ≤ᶠ plus (plus a b) c
unfolding plus
plus_assoc_left a b c =
    let p = a.bottom * (b.bottom * c.bottom) in
    let q = (a.bottom * b.bottom) * c.bottom in
    let x = (a.top *ℤ pos b.bottom) +ℤ (b.top *ℤ pos a.bottom) in
    let y = (b.top *ℤ pos c.bottom) +ℤ (c.top *ℤ pos b.bottom) in
    record { crossed = rw (plus-times (x *ℤ pos c.bottom) (c.top *ℤ pos (a.bottom * b.bottom)) (pos p), flat x c.bottom p, plus-times (a.top *ℤ pos b.bottom) (b.top *ℤ pos a.bottom) (pos (c.bottom * p)), flat a.top b.bottom (c.bottom * p), flat b.top a.bottom (c.bottom * p), flat c.top (a.bottom * b.bottom) p, plus-times (a.top *ℤ pos (b.bottom * c.bottom)) (y *ℤ pos a.bottom) (pos q), flat a.top (b.bottom * c.bottom) q, flat y a.bottom q, plus-times (b.top *ℤ pos c.bottom) (c.top *ℤ pos b.bottom) (pos (a.bottom * q)), flat b.top c.bottom (a.bottom * q), flat c.top b.bottom (a.bottom * q)) (omega (arith, ints)) }

-- twice a fraction
pub plus_self : (s : Fraction) → plus s s ≤ᶠ times s (over (pos 2) 1)
unfolding plus times over
plus_self s = record { crossed = core s.top s.bottom }
  where
    core : (x : ℤ) (p : ℕ) → (((x *ℤ pos p) +ℤ (x *ℤ pos p)) *ℤ pos (p * 1)) ≤ℤ ((x *ℤ pos 2) *ℤ pos (p * p))
    core x p = rw (plus-times (x *ℤ pos p) (x *ℤ pos p) (pos (p * 1)), flat x p (p * 1), flat x 2 (p * p)) (omega (arith, ints))

pub minus_self : (s : Fraction) → negate (times s (over (pos 2) 1)) ≤ᶠ plus (negate s) (negate s)
unfolding plus times over negate
minus_self s = record { crossed = core s.top s.bottom }
  where
    core : (x : ℤ) (p : ℕ) → (neg_ℤ (x *ℤ pos 2) *ℤ pos (p * p)) ≤ℤ (((neg_ℤ x *ℤ pos p) +ℤ (neg_ℤ x *ℤ pos p)) *ℤ pos (p * 1))
    core x p =
        let left : neg_ℤ (x *ℤ pos 2) *ℤ pos (p * p) ≡ neg_ℤ (x *ℤ pos (2 * (p * p))) = same_in _ _ (simp parts (omega arith)) in
        let right : neg_ℤ x *ℤ pos (p * (p * 1)) ≡ neg_ℤ (x *ℤ pos (p * (p * 1))) = same_in _ _ (simp parts (omega arith)) in
        rw (left, plus-times (neg_ℤ x *ℤ pos p) (neg_ℤ x *ℤ pos p) (pos (p * 1)), flat (neg_ℤ x) p (p * 1), right) (omega (arith, ints))

-- a difference and what was taken away
pub plus_back : (s t : Fraction) → plus (plus s (negate t)) t ≤ᶠ s
unfolding plus negate
plus_back s t = record { crossed = core s.top t.top s.bottom t.bottom }
  where
    core : (x y : ℤ) (p q : ℕ) → (((((x *ℤ pos q) +ℤ (neg_ℤ y *ℤ pos p)) *ℤ pos q) +ℤ (y *ℤ pos (p * q))) *ℤ pos p) ≤ℤ (x *ℤ pos ((p * q) * q))
    core x y p q =
        let n = neg_ℤ y in
        let z = (x *ℤ pos q) +ℤ (n *ℤ pos p) in
        let turned : neg_ℤ y *ℤ pos (p * (q * p)) ≡ neg_ℤ (y *ℤ pos (p * (q * p))) = same_in _ _ (simp parts (omega arith)) in
        rw (plus-times (z *ℤ pos q) (y *ℤ pos (p * q)) (pos p), flat z q p, plus-times (x *ℤ pos q) (n *ℤ pos p) (pos (q * p)), flat x q (q * p), flat n p (q * p), flat y (p * q) p, turned) (omega (arith, ints))

pub times_not_negative : (z : ℤ) (k : ℕ) → pos 0 ≤ℤ z → pos 0 ≤ℤ (z *ℤ pos k)
times_not_negative (pos n) k h = omega (arith, ints)
times_not_negative (negsuc n) k h = absurd (omega (arith, ints, h))

pub plus_more : (x y : Fraction) → pos 0 ≤ℤ y.top → x ≤ᶠ plus x y
unfolding plus
plus_more x y h = record { crossed = rw (plus-times (x.top *ℤ pos y.bottom) (y.top *ℤ pos x.bottom) (pos x.bottom), flat x.top y.bottom x.bottom, flat y.top x.bottom x.bottom) (core x.top (y.top *ℤ pos (x.bottom * x.bottom)) (x.bottom * y.bottom) (y.bottom * x.bottom) (omega arith) (times_not_negative y.top (x.bottom * x.bottom) h)) }
  where
    core : (a b : ℤ) (m n : ℕ) → m ≡ n → pos 0 ≤ℤ b → (a *ℤ pos m) ≤ℤ ((a *ℤ pos n) +ℤ b)
    core a b m n e h = rw e (omega (arith, ints))

pub pair_rises_by : (s t : Fraction) → t ≤ᶠ s → pos 0 ≤ℤ (plus s (negate t)).top
unfolding plus negate
pair_rises_by s t h = core s.top t.top s.bottom t.bottom h.crossed
  where
    core : (x y : ℤ) (p q : ℕ) → (y *ℤ pos p) ≤ℤ (x *ℤ pos q) → pos 0 ≤ℤ ((x *ℤ pos q) +ℤ (neg_ℤ y *ℤ pos p))
    core x y p q h = let turned : neg_ℤ y *ℤ pos p ≡ neg_ℤ (y *ℤ pos p) = same_in _ _ (simp parts (omega arith)) in rw turned (omega (arith, ints, h))

-- a sum that rises by a pair, and one that falls by a pair
pub pair_rises : (x s t : Fraction) → t ≤ᶠ s → x ≤ᶠ plus x (plus s (negate t))
pair_rises x s t h = plus_more x (plus s (negate t)) (pair_rises_by s t h)

pub pair_falls : (x s t u : Fraction) → u ≤ᶠ t → plus (plus x (plus s (negate t))) u ≤ᶠ plus x s
pair_falls x s t u h =
    ≤ᶠ_trans _ _ _ (plus_mono (plus x (plus s (negate t))) (plus x (plus s (negate t))) u t (≤ᶠ_refl (plus x (plus s (negate t)))) h)
    (≤ᶠ_trans _ _ _ (plus_assoc_right x (plus s (negate t)) t) (plus_mono x x (plus (plus s (negate t)) t) s (≤ᶠ_refl x) (plus_back s t)))
