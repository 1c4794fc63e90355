-- Products of signed numbers: the laws that write a polynomial out, and the signs of products.
-- An integer z is read by `omega` as `up z - down z`.
use Rattle.std.proofs.Common.{◌≡◌, ℕ, ◌+◌, ◌*◌, arith, ap, ◌∙◌}
use Rattle.std.proofs.Math.IntN.{ℤ, pos, negsuc, ◌+ℤ◌, ◌-ℤ◌, ◌*ℤ◌, neg_ℤ, *ℤ_comm}
use Rattle.std.specs.Prelude.{◌≤ℤ◌, ◌<ℤ◌}
use Rattle.std.proofs.lemmas.Int.{ints, by_lt_z}
use Rattle.plane_edges.specs.Magnitude.{IsWithin}
use borrow.Author.Differences.{up, down}

pub add_mul : (a b c : ℤ) → (a +ℤ b) *ℤ c ≡ a *ℤ c +ℤ b *ℤ c
add_mul a b c =
    let s : up (a +ℤ b) + down a + down b ≡ down (a +ℤ b) + up a + up b = omega (arith, ints) in
    omega (arith, ints, ap (λ (n : ℕ). n * up c) s, ap (λ (n : ℕ). n * down c) s)

pub neg_mul : (a b : ℤ) → neg_ℤ a *ℤ b ≡ neg_ℤ (a *ℤ b)
neg_mul a b =
    let s : up (neg_ℤ a) + up a ≡ down (neg_ℤ a) + down a = omega (arith, ints) in
    omega (arith, ints, ap (λ (n : ℕ). n * up b) s, ap (λ (n : ℕ). n * down b) s)

pub mul_add : (a b c : ℤ) → a *ℤ (b +ℤ c) ≡ a *ℤ b +ℤ a *ℤ c
mul_add a b c = *ℤ_comm a (b +ℤ c) ∙ add_mul b c a ∙ omega (arith, ints)

pub mul_neg : (a b : ℤ) → a *ℤ neg_ℤ b ≡ neg_ℤ (a *ℤ b)
mul_neg a b = *ℤ_comm a (neg_ℤ b) ∙ neg_mul b a ∙ omega (arith, ints)

pub mul_mul : (a b c : ℤ) → a *ℤ (b *ℤ c) ≡ (a *ℤ b) *ℤ c
mul_mul a b c =
    let s : up (b *ℤ c) + (up b * down c + down b * up c) ≡ down (b *ℤ c) + (up b * up c + down b * down c) = omega (arith, ints) in
    let t : up (a *ℤ b) + (up a * down b + down a * up b) ≡ down (a *ℤ b) + (up a * up b + down a * down b) = omega (arith, ints) in
    omega (arith, ints, ap (λ (n : ℕ). up a * n) s, ap (λ (n : ℕ). down a * n) s, ap (λ (n : ℕ). n * up c) t, ap (λ (n : ℕ). n * down c) t)

-- a product of sums, written out
pub ruleset expand = (add_mul, neg_mul, mul_add, mul_neg, mul_mul)

pub mul_nonneg : (a b : ℤ) → pos 0 ≤ℤ a → pos 0 ≤ℤ b → pos 0 ≤ℤ (a *ℤ b)
mul_nonneg (pos a) (pos b) p q = omega (arith, ints)
mul_nonneg (pos a) (negsuc b) p q = omega (arith, ints)
mul_nonneg (negsuc a) (pos b) p q = omega (arith, ints)
mul_nonneg (negsuc a) (negsuc b) p q = omega (arith, ints)

-- a number that is at least another by a difference that isn't negative
pub times_mono : (a b c : ℤ) → pos 0 ≤ℤ c → a ≤ℤ b → (a *ℤ c) ≤ℤ (b *ℤ c)
times_mono a b c p h =
    let f = mul_nonneg (b -ℤ a) c (omega (arith, ints)) p in
    let e : (b -ℤ a) *ℤ c ≡ b *ℤ c -ℤ a *ℤ c = simp expand (omega (arith, ints)) in
    omega (arith, ints)

pub mul_pos : (a b : ℤ) → pos 0 <ℤ a → pos 0 <ℤ b → pos 0 <ℤ (a *ℤ b)
mul_pos a b p q =
    let f = mul_nonneg (a -ℤ pos 1) (b -ℤ pos 1) (omega (arith, ints)) (omega (arith, ints)) in
    let e : (a -ℤ pos 1) *ℤ (b -ℤ pos 1) ≡ a *ℤ b -ℤ a -ℤ b +ℤ pos 1 = simp expand (omega (arith, ints)) in
    omega (arith, ints)

pub times_strict : (a b c : ℤ) → pos 0 <ℤ c → a <ℤ b → (a *ℤ c) <ℤ (b *ℤ c)
times_strict a b c p h =
    let f = mul_pos (b -ℤ a) c (omega (arith, ints)) p in
    let e : (b -ℤ a) *ℤ c ≡ b *ℤ c -ℤ a *ℤ c = simp expand (omega (arith, ints)) in
    omega (arith, ints)

-- a factor above 0 is cancelled
pub less_of_times : (a b c : ℤ) → pos 0 <ℤ c → (a *ℤ c) <ℤ (b *ℤ c) → a <ℤ b
less_of_times a b c p h =
    by_lt_z a b (λ less. less)
    (λ most. let f = times_mono b a c (omega (arith, ints)) most in omega (arith, ints))

pub order_of_times : (a b c : ℤ) → pos 0 <ℤ c → (a *ℤ c) ≤ℤ (b *ℤ c) → a ≤ℤ b
order_of_times a b c p h =
    by_lt_z b a (λ less. let f = times_strict b a c p less in omega (arith, ints)) (λ most. most)

-- the other factor of a product above 0
pub factor_pos : (a b : ℤ) → pos 0 ≤ℤ a → pos 0 <ℤ (a *ℤ b) → pos 0 <ℤ b
factor_pos a b p h =
    by_lt_z (pos 0) b (λ less. less)
    (λ most.
    let f = mul_nonneg a (neg_ℤ b) p (omega (arith, ints)) in
    let e : a *ℤ neg_ℤ b ≡ neg_ℤ (a *ℤ b) = mul_neg a b in
    omega (arith, ints))

pub negative_factor : (a b : ℤ) → pos 0 <ℤ a → (a *ℤ b) <ℤ pos 0 → b <ℤ pos 0
negative_factor a b p h =
    let e : a *ℤ neg_ℤ b ≡ neg_ℤ (a *ℤ b) = mul_neg a b in
    let f = factor_pos a (neg_ℤ b) (omega (arith, ints)) (omega (arith, ints)) in
    omega (arith, ints)

-- a product of two numbers within limits
pub mul_within : (m n x y : ℤ) → IsWithin m x → IsWithin n y → IsWithin (m *ℤ n) (x *ℤ y)
mul_within m n x y p q =
    let a = mul_nonneg (m -ℤ x) (n +ℤ y) (omega (arith, ints, p.high)) (omega (arith, ints, q.low)) in
    let b = mul_nonneg (m +ℤ x) (n -ℤ y) (omega (arith, ints, p.low)) (omega (arith, ints, q.high)) in
    let c = mul_nonneg (m -ℤ x) (n -ℤ y) (omega (arith, ints, p.high)) (omega (arith, ints, q.high)) in
    let d = mul_nonneg (m +ℤ x) (n +ℤ y) (omega (arith, ints, p.low)) (omega (arith, ints, q.low)) in
    let e = simp expand at a in
    let f = simp expand at b in
    let g = simp expand at c in
    let h = simp expand at d in
    record { low = omega (arith, ints); high = omega (arith, ints) }
