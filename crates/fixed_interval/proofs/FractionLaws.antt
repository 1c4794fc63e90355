-- Fractions are an ordered ring, and rounding them down keeps their order.
use Rattle.std.proofs.Common.{◌≡◌, ℕ, ◌+◌, ◌*◌, ◌<◌, ◌≤◌, ◌⊎◌, Bool, true, false, if◌then◌else◌, int_le, ℤ, pos, neg_ℤ, ◌*ℤ◌, ◌≤ℤ◌, arith, ap, refl, inl, inr, mul-le-mul_right, max, le_of_mul-le-mul_right, lt_of_mul-lt-mul_right, mul-lt-mul_of_pos_right, mul-pos}
use Rattle.std.specs.Int.{int_div_euclid}
use Rattle.std.proofs.lemmas.Int.{ints, by_lt_z}
use borrow.Author.Differences.{up, down, le_out, at_most_in}
use Rattle.fixed_interval.specs.Fraction.{Fraction, ◌≤ᶠ◌, ◌<ᶠ◌, over, negate, plus, times, least, greatest, floor_at, ceil_at}
use Rattle.fixed_interval.proofs.Whole.{parts, one_part, plus-times, flat, div-parts}

-- ---- order
pub le_parts : (a b : Fraction) → a ≤ᶠ b → up a.top * b.bottom + down b.top * a.bottom ≤ up b.top * a.bottom + down a.top * b.bottom
le_parts a b h = omega (arith, ints, h.crossed)

pub le_from : (a b : Fraction) → up a.top * b.bottom + down b.top * a.bottom ≤ up b.top * a.bottom + down a.top * b.bottom → a ≤ᶠ b
le_from a b h = record { crossed = omega (arith, ints) }

pub ≤ᶠ_refl : (a : Fraction) → a ≤ᶠ a
≤ᶠ_refl a = le_from a a (omega arith)

pub ≤ᶠ_trans : (a b c : Fraction) → a ≤ᶠ b → b ≤ᶠ c → a ≤ᶠ c
≤ᶠ_trans a b c h k =
    let p = mul-le-mul_right c.bottom (le_parts a b h) in
    let q = mul-le-mul_right a.bottom (le_parts b c k) in
    let s : (up a.top * c.bottom + down c.top * a.bottom) * b.bottom ≤ (up c.top * a.bottom + down a.top * c.bottom) * b.bottom = omega arith in
    le_from a c (le_of_mul-le-mul_right s b.positive)

pub ≤ᶠ_total : (a b : Fraction) → (a ≤ᶠ b) ⊎ (b ≤ᶠ a)
≤ᶠ_total a b = by_lt_z (a.top *ℤ pos b.bottom) (b.top *ℤ pos a.bottom) (λ h. inl (record { crossed = omega (arith, ints, h) })) (λ h. inr (record { crossed = h }))

-- ---- strict order
lt_parts : (a b : Fraction) → a <ᶠ b → up a.top * b.bottom + down b.top * a.bottom < up b.top * a.bottom + down a.top * b.bottom
lt_parts a b h = omega (arith, ints, h.crossed)

lt_from : (a b : Fraction) → up a.top * b.bottom + down b.top * a.bottom < up b.top * a.bottom + down a.top * b.bottom → a <ᶠ b
lt_from a b h = record { crossed = omega (arith, ints) }

pub <ᶠ_le : (a b : Fraction) → a <ᶠ b → a ≤ᶠ b
<ᶠ_le a b h = le_from a b (omega (arith, lt_parts a b h))

pub <ᶠ_irrefl : (a : Fraction) → a <ᶠ a → ⊥
<ᶠ_irrefl a h = omega (arith, lt_parts a a h)

pub <ᶠ_≤ᶠ_trans : (a b c : Fraction) → a <ᶠ b → b ≤ᶠ c → a <ᶠ c
<ᶠ_≤ᶠ_trans a b c h k =
    let p = mul-lt-mul_of_pos_right {k = c.bottom} (lt_parts a b h) c.positive in
    let q = mul-le-mul_right a.bottom (le_parts b c k) in
    let s : (up a.top * c.bottom + down c.top * a.bottom) * b.bottom < (up c.top * a.bottom + down a.top * c.bottom) * b.bottom = omega arith in
    lt_from a c (lt_of_mul-lt-mul_right b.bottom s)

pub ≤ᶠ_<ᶠ_trans : (a b c : Fraction) → a ≤ᶠ b → b <ᶠ c → a <ᶠ c
≤ᶠ_<ᶠ_trans a b c h k =
    let p = mul-le-mul_right c.bottom (le_parts a b h) in
    let q = mul-lt-mul_of_pos_right {k = a.bottom} (lt_parts b c k) a.positive in
    let s : (up a.top * c.bottom + down c.top * a.bottom) * b.bottom < (up c.top * a.bottom + down a.top * c.bottom) * b.bottom = omega arith in
    lt_from a c (lt_of_mul-lt-mul_right b.bottom s)

-- ---- ring operations
pub negate_le : (a b : Fraction) → a ≤ᶠ b → negate b ≤ᶠ negate a
unfolding negate
negate_le a b h = le_from (negate b) (negate a) (simp parts (omega (arith, le_parts a b h)))

pub plus_mono : (a b c d : Fraction) → a ≤ᶠ b → c ≤ᶠ d → plus a c ≤ᶠ plus b d
unfolding plus
plus_mono a b c d h k = record { crossed = rw (plus-times (a.top *ℤ pos c.bottom) (c.top *ℤ pos a.bottom) (pos (b.bottom * d.bottom)), plus-times (b.top *ℤ pos d.bottom) (d.top *ℤ pos b.bottom) (pos (a.bottom * c.bottom)), flat a.top c.bottom (b.bottom * d.bottom), flat c.top a.bottom (b.bottom * d.bottom), flat b.top d.bottom (a.bottom * c.bottom), flat d.top b.bottom (a.bottom * c.bottom)) (omega (arith, ints, mul-le-mul_right (c.bottom * d.bottom) (le_parts a b h), mul-le-mul_right (a.bottom * b.bottom) (le_parts c d k))) }

pub times_mono : (a b c : Fraction) → a ≤ᶠ b → pos 0 ≤ℤ c.top → times a c ≤ᶠ times b c
unfolding times
times_mono a b c h s =
    let z : down c.top ≡ 0 = omega (arith, ints, s, one_part c.top) in
    let k = mul-le-mul_right (up c.top * c.bottom) (le_parts a b h) in
    le_from (times a c) (times b c) (simp (parts, z) (omega arith))

pub times_anti : (a b c : Fraction) → a ≤ᶠ b → c.top ≤ℤ pos 0 → times b c ≤ᶠ times a c
unfolding times
times_anti a b c h s =
    let z : up c.top ≡ 0 = omega (arith, ints, s, one_part c.top) in
    let k = mul-le-mul_right (down c.top * c.bottom) (le_parts a b h) in
    le_from (times b c) (times a c) (simp (parts, z) (omega arith))

pub times_turn : (a b : Fraction) → times a b ≤ᶠ times b a
unfolding times
times_turn a b = le_from (times a b) (times b a) (simp parts (omega arith))

-- ---- least and greatest
pub least_cases : (a b : Fraction) → ((least a b ≡ a) × (a ≤ᶠ b)) ⊎ ((least a b ≡ b) × (b ≤ᶠ a))
unfolding least
least_cases a b = by (int_le (a.top *ℤ pos b.bottom) (b.top *ℤ pos a.bottom)) refl
  where
    by : (t : Bool) → int_le (a.top *ℤ pos b.bottom) (b.top *ℤ pos a.bottom) ≡ t → (((if t then a else b) ≡ a) × (a ≤ᶠ b)) ⊎ (((if t then a else b) ≡ b) × (b ≤ᶠ a))
    by true e = inl (refl, record { crossed = omega (arith, ints) })
    by false e = inr (refl, record { crossed = omega (arith, ints) })

pub greatest_cases : (a b : Fraction) → ((greatest a b ≡ b) × (a ≤ᶠ b)) ⊎ ((greatest a b ≡ a) × (b ≤ᶠ a))
unfolding greatest
greatest_cases a b = by (int_le (a.top *ℤ pos b.bottom) (b.top *ℤ pos a.bottom)) refl
  where
    by : (t : Bool) → int_le (a.top *ℤ pos b.bottom) (b.top *ℤ pos a.bottom) ≡ t → (((if t then b else a) ≡ b) × (a ≤ᶠ b)) ⊎ (((if t then b else a) ≡ a) × (b ≤ᶠ a))
    by true e = inl (refl, record { crossed = omega (arith, ints) })
    by false e = inr (refl, record { crossed = omega (arith, ints) })

pub least_left : (a b : Fraction) → least a b ≤ᶠ a
least_left a b = elim (least_cases a b) [ inl c ↦ rw c.0 (≤ᶠ_refl a) | inr c ↦ rw c.0 c.1 ]

pub least_right : (a b : Fraction) → least a b ≤ᶠ b
least_right a b = elim (least_cases a b) [ inl c ↦ rw c.0 c.1 | inr c ↦ rw c.0 (≤ᶠ_refl b) ]

pub least_above : (a b c : Fraction) → c ≤ᶠ a → c ≤ᶠ b → c ≤ᶠ least a b
least_above a b c h k = elim (least_cases a b) [ inl s ↦ rw s.0 h | inr s ↦ rw s.0 k ]

pub greatest_left : (a b : Fraction) → a ≤ᶠ greatest a b
greatest_left a b = elim (greatest_cases a b) [ inl c ↦ rw c.0 c.1 | inr c ↦ rw c.0 (≤ᶠ_refl a) ]

pub greatest_right : (a b : Fraction) → b ≤ᶠ greatest a b
greatest_right a b = elim (greatest_cases a b) [ inl c ↦ rw c.0 (≤ᶠ_refl b) | inr c ↦ rw c.0 c.1 ]

pub greatest_below : (a b c : Fraction) → a ≤ᶠ c → b ≤ᶠ c → greatest a b ≤ᶠ c
greatest_below a b c h k = elim (greatest_cases a b) [ inl s ↦ rw s.0 k | inr s ↦ rw s.0 h ]

pub least_mono : (a b c d : Fraction) → a ≤ᶠ b → c ≤ᶠ d → least a c ≤ᶠ least b d
least_mono a b c d h k = least_above b d (least a c) (≤ᶠ_trans _ _ _ (least_left a c) h) (≤ᶠ_trans _ _ _ (least_right a c) k)

pub greatest_mono : (a b c d : Fraction) → a ≤ᶠ b → c ≤ᶠ d → greatest a c ≤ᶠ greatest b d
greatest_mono a b c d h k = greatest_below a c (greatest b d) (≤ᶠ_trans _ _ _ h (greatest_left b d)) (≤ᶠ_trans _ _ _ k (greatest_right b d))

-- ---- rounding
same_bottom : (x n : ℕ) → 0 < n → x * max n 1 ≡ x * n
same_bottom x n h = ap (λ (m : ℕ). x * m) (omega arith)

-- the floor lies below, and is the greatest that does
pub floor_below : (n : ℕ) (a : Fraction) → 0 < n → over (floor_at n a) n ≤ᶠ a
unfolding over floor_at
floor_below n a h =
    let q = int_div_euclid (a.top *ℤ pos n) (pos a.bottom) in
    let d = simp parts at (div-parts (a.top *ℤ pos n) a.bottom a.positive) in
    let s : up q * a.bottom + down a.top * max n 1 ≤ up a.top * max n 1 + down q * a.bottom = omega (arith, d, same_bottom (up a.top) n h, same_bottom (down a.top) n h) in
    le_from _ _ s

pub floor_greatest : (n : ℕ) (z : ℤ) (a : Fraction) → 0 < n → over z n ≤ᶠ a → z ≤ℤ floor_at n a
unfolding over floor_at
floor_greatest n z a h k = core (int_div_euclid (a.top *ℤ pos n) (pos a.bottom)) (simp parts at (div-parts (a.top *ℤ pos n) a.bottom a.positive)).1 (le_parts (over z n) a k)
  where
    core : (q : ℤ) → down q * a.bottom + (up a.top * n + down a.top * 0) < up q * a.bottom + (up a.top * 0 + down a.top * n) + a.bottom → up z * a.bottom + down a.top * max n 1 ≤ up a.top * max n 1 + down z * a.bottom → z ≤ℤ q
    core q d m = by_lt_z q z (λ u. let w : up q + down z + 1 ≤ up z + down q = omega (arith, ints, u) in absurd (omega (arith, d, m, mul-le-mul_right a.bottom w, same_bottom (up a.top) n h, same_bottom (down a.top) n h))) (λ u. u)

pub floor_mono : (n : ℕ) (a b : Fraction) → 0 < n → a ≤ᶠ b → floor_at n a ≤ℤ floor_at n b
floor_mono n a b h k = floor_greatest n (floor_at n a) b h (≤ᶠ_trans _ _ _ (floor_below n a h) k)

negate-over : (z : ℤ) (n : ℕ) (a : Fraction) → over z n ≤ᶠ negate a → a ≤ᶠ over (neg_ℤ z) n
unfolding over negate
negate-over z n a h = le_from a (over (neg_ℤ z) n) (simp parts (let e = simp parts at (le_parts (over z n) (negate a) h) in omega (arith, e)))

over-negate : (z : ℤ) (n : ℕ) (a : Fraction) → a ≤ᶠ over z n → over (neg_ℤ z) n ≤ᶠ negate a
unfolding over negate
over-negate z n a h = le_from (over (neg_ℤ z) n) (negate a) (simp parts (omega (arith, le_parts a (over z n) h)))

-- the ceiling lies above, and is the least that does
pub ceil_above : (n : ℕ) (a : Fraction) → 0 < n → a ≤ᶠ over (ceil_at n a) n
unfolding ceil_at
ceil_above n a h = negate-over (floor_at n (negate a)) n a (floor_below n (negate a) h)

pub ceil_least : (n : ℕ) (z : ℤ) (a : Fraction) → 0 < n → a ≤ᶠ over z n → ceil_at n a ≤ℤ z
unfolding ceil_at
ceil_least n z a h k = let f = floor_greatest n (neg_ℤ z) (negate a) h (over-negate z n a k) in omega (arith, ints, f)

pub ceil_mono : (n : ℕ) (a b : Fraction) → 0 < n → a ≤ᶠ b → ceil_at n a ≤ℤ ceil_at n b
ceil_mono n a b h k = ceil_least n (ceil_at n b) a h (≤ᶠ_trans _ _ _ k (ceil_above n b h))

pub over_mono : (n : ℕ) (y z : ℤ) → y ≤ℤ z → over y n ≤ᶠ over z n
unfolding over
over_mono n y z h = le_from (over y n) (over z n) (let s : up y + down z ≤ up z + down y = omega (arith, ints, h) in let t = mul-le-mul_right (max n 1) s in core (max n 1) t)
  where
    core : (k : ℕ) → (up y + down z) * k ≤ (up z + down y) * k → up y * k + down z * k ≤ up z * k + down y * k
    core k t = omega arith

-- an order between a fraction and one over a bottom n, as one of whole numbers
pub from_over : (n : ℕ) (y z : ℤ) → 0 < n → over y n ≤ᶠ over z n → y ≤ℤ z
unfolding over
from_over n y z h k = core (max n 1) (over y n).positive (le_parts (over y n) (over z n) k)
  where
    core : (m : ℕ) → 0 < m → up y * m + down z * m ≤ up z * m + down y * m → y ≤ℤ z
    core m p l = let s : (up y + down z) * m ≤ (up z + down y) * m = omega arith in let t : up y + down z ≤ up z + down y = le_of_mul-le-mul_right s p in omega (arith, ints)

pub floor_at_most_ceil : (n : ℕ) (a b : Fraction) → 0 < n → a ≤ᶠ b → floor_at n a ≤ℤ ceil_at n b
floor_at_most_ceil n a b h k = from_over n _ _ h (≤ᶠ_trans _ _ _ (floor_below n a h) (≤ᶠ_trans _ _ _ k (ceil_above n b h)))

-- a finer grid rounds no further out
over-finer : (z : ℤ) (n k : ℕ) (a : Fraction) → 0 < n → 0 < k → over z n ≤ᶠ a → over (z *ℤ pos k) (n * k) ≤ᶠ a
unfolding over
over-finer z n k a h p l =
    let e : max (n * k) 1 ≡ max n 1 * k = finer_bottom in
    le_from (over (z *ℤ pos k) (n * k)) a (rw e (simp parts (omega (arith, mul-le-mul_right k (le_parts (over z n) a l)))))
  where
    positive : 0 < n * k
    positive = mul-pos h p

    finer_bottom : max (n * k) 1 ≡ max n 1 * k
    finer_bottom = let e : max n 1 ≡ n = omega arith in rw e (omega (arith, positive))

pub floor_finer : (n k : ℕ) (a : Fraction) → 0 < n → 0 < k → (floor_at n a *ℤ pos k) ≤ℤ floor_at (n * k) a
floor_finer n k a h p = floor_greatest (n * k) _ a (mul-pos h p) (over-finer (floor_at n a) n k a h p (floor_below n a h))

pub ceil_finer : (n k : ℕ) (a : Fraction) → 0 < n → 0 < k → ceil_at (n * k) a ≤ℤ (ceil_at n a *ℤ pos k)
unfolding ceil_at
ceil_finer n k a h p = turned (floor_at n (negate a)) (floor_at (n * k) (negate a)) (floor_finer n k (negate a) h p)
  where
    turned : (x y : ℤ) → (x *ℤ pos k) ≤ℤ y → neg_ℤ y ≤ℤ (neg_ℤ x *ℤ pos k)
    turned x y l = at_most_in _ _ (simp parts (let s = simp parts at (le_out (x *ℤ pos k) y l) in omega (arith, s)))
