-- Whole numbers. `omega` reads an integer z as `up z - down z`; these lemmas take a product of products and of sums apart for it.
use Rattle.std.proofs.Common.{◌≡◌, ℕ, ◌+◌, ◌*◌, ◌<◌, ◌≤◌, ◌⊎◌, ℤ, pos, negsuc, neg_ℤ, ◌+ℤ◌, ◌-ℤ◌, ◌*ℤ◌, ◌≤ℤ◌, ◌<ℤ◌, arith, ap, refl, inl, inr, mul-le-mul_right, mul-lt-mul_of_pos_right, mul-pos}
use Rattle.std.specs.Int.{int_div_euclid}
use Rattle.std.proofs.lemmas.Int.{ints, by_lt_z}
use borrow.Author.Differences.{up, down, same_in, product_is, neg_is, sum_is_lem}

-- ---- products of products
pub up-times : (a b : ℤ) → up (a *ℤ b) ≡ up a * up b + down a * down b
up-times a b = (product_is a b).0

pub down-times : (a b : ℤ) → down (a *ℤ b) ≡ up a * down b + down a * up b
down-times a b = (product_is a b).1

pub up-neg : (a : ℤ) → up (neg_ℤ a) ≡ down a
up-neg a = (neg_is a).0

pub down-neg : (a : ℤ) → down (neg_ℤ a) ≡ up a
down-neg a = (neg_is a).1

pub ruleset parts = (up-times, down-times, up-neg, down-neg)

pub times_assoc : (a b c : ℤ) → (a *ℤ b) *ℤ c ≡ a *ℤ (b *ℤ c)
times_assoc a b c = same_in _ _ (simp parts (omega arith))

-- one of the two parts is 0
pub one_part : (z : ℤ) → (up z ≡ 0) ⊎ (down z ≡ 0)
one_part (pos n) = inr refl
one_part (negsuc n) = inl refl

-- ---- products of sums
unfoldable pub diff : ℕ → ℕ → ℤ
diff m n = pos m -ℤ pos n

pub diff_is : (m n : ℕ) → up (diff m n) + n ≡ down (diff m n) + m
unfolding diff
diff_is m n = omega (arith, sum_is_lem (pos m) (neg_ℤ (pos n)), neg_is (pos n))

pub parts_is : (z : ℤ) → z ≡ diff (up z) (down z)
parts_is z = omega (arith, ints, diff_is)

pub diff-plus : (a b c d : ℕ) → diff a b +ℤ diff c d ≡ diff (a + c) (b + d)
diff-plus a b c d = omega (arith, ints, diff_is)

pub diff-neg : (a b : ℕ) → neg_ℤ (diff a b) ≡ diff b a
diff-neg a b = omega (arith, ints, diff_is)

pub diff_same : (a b c d : ℕ) → a + d ≡ c + b → diff a b ≡ diff c d
diff_same a b c d e = omega (arith, ints, diff_is)

pub diff-times : (a b c d : ℕ) → diff a b *ℤ diff c d ≡ diff (a * c + b * d) (a * d + b * c)
diff-times a b c d =
    let x = diff_is a b in
    let y = diff_is c d in
    let u = up (diff a b) in
    let v = down (diff a b) in
    same_in _ _ (simp parts (omega (arith, diff_is (a * c + b * d) (a * d + b * c), ap (λ (n : ℕ). n * c) x, ap (λ (n : ℕ). n * d) x, ap (λ (n : ℕ). n * u) y, ap (λ (n : ℕ). n * v) y)))

pub ruleset diffs = (diff-plus, diff-neg, diff-times)

pub plus-times : (a b c : ℤ) → (a +ℤ b) *ℤ c ≡ (a *ℤ c) +ℤ (b *ℤ c)
plus-times a b c = rw (parts_is a, parts_is b, parts_is c) (simp diffs (diff_same _ _ _ _ (omega arith)))

pub flat : (x : ℤ) (p q : ℕ) → (x *ℤ pos p) *ℤ pos q ≡ x *ℤ pos (p * q)
flat x p q = times_assoc x (pos p) (pos q)

-- ---- quotients rounded down
pub div-parts : (a : ℤ) (k : ℕ) → 0 < k → (up (int_div_euclid a (pos k)) * k + down a ≤ down (int_div_euclid a (pos k)) * k + up a) × (down (int_div_euclid a (pos k)) * k + up a < up (int_div_euclid a (pos k)) * k + down a + k)
div-parts (pos a) k h = omega arith
div-parts (negsuc a) k h = omega arith

-- the quotient is the only q with q k ≤ a < q k + k
pub div_unique : (a q : ℤ) (k : ℕ) → 0 < k → (q *ℤ pos k) ≤ℤ a → a <ℤ ((q *ℤ pos k) +ℤ pos k) → int_div_euclid a (pos k) ≡ q
div_unique a q k h low high = core a q k (int_div_euclid a (pos k)) (div-parts a k h).0 (div-parts a k h).1 low high
  where
    core : (a q : ℤ) (k : ℕ) (d : ℤ) → up d * k + down a ≤ down d * k + up a → down d * k + up a < up d * k + down a + k → (q *ℤ pos k) ≤ℤ a → a <ℤ ((q *ℤ pos k) +ℤ pos k) → d ≡ q
    core a q k d s t l m = by_lt_z d q (λ u. let n : up d + down q + 1 ≤ up q + down d = omega (arith, ints, u) in absurd (omega (arith, ints, mul-le-mul_right k n))) (λ u. by_lt_z q d (λ v. let n : up q + down d + 1 ≤ up d + down q = omega (arith, ints, v) in absurd (omega (arith, ints, mul-le-mul_right k n))) (λ v. omega (arith, ints, u, v)))

-- a common factor of both leaves the quotient as it is
pub div-scaled : (t : ℤ) (m n : ℕ) → 0 < m → 0 < n → int_div_euclid (t *ℤ pos n) (pos (m * n)) ≡ int_div_euclid t (pos m)
div-scaled t m n h k = core (int_div_euclid t (pos m)) (div-parts t m h)
  where
    core : (q : ℤ) → (up q * m + down t ≤ down q * m + up t) × (down q * m + up t < up q * m + down t + m) → int_div_euclid (t *ℤ pos n) (pos (m * n)) ≡ q
    core q d = div_unique (t *ℤ pos n) q (m * n) (mul-pos h k) (omega (arith, ints, mul-le-mul_right n d.0)) (omega (arith, ints, mul-lt-mul_of_pos_right {k = n} d.1 k))

-- a whole number is its own quotient by 1
pub div-one : (t : ℤ) → int_div_euclid t (pos 1) ≡ t
div-one t = omega (arith, ints, div-parts t 1 (omega arith))

pub ceil-one : (t : ℤ) → neg_ℤ (int_div_euclid (neg_ℤ t) (pos 1)) ≡ t
ceil-one t = rw (div-one (neg_ℤ t)) (omega (arith, ints))
