-- Newton's steps for a whole root: from a number at or above the root they stay there, and fall until its square is at most n.
use Rattle.std.proofs.Common.{◌≡◌, ℕ, ◌+◌, ◌*◌, ◌-◌, ◌/◌, ◌%◌, ◌^◌, ◌<◌, ◌≤◌, Bool, true, false, nat_le, refl, arith, sym, mul-le-mul, mul-le-mul_right, lit≤, zero, suc, pow-add}
use Rattle.std.proofs.Math.Nat.{add-sub_of_le, lt-mul-div-succ, div-lt_iff_lt-mul, lt_of_lt_of_le, pow-le-pow_right}
use Rattle.std.proofs.lemmas.Nat.{leading_length, pow_pos}
use lib.Count.{count_leading_zeros}
use borrow.Author.Tests.{leb-true, leb-false}

-- of two numbers that rise and two that rise, the products in order are the greater
in_order : (a b c d : ℕ) → a ≤ b → c ≤ d → a * d + b * c ≤ a * c + b * d
in_order a b c d h k = rw (sym (add-sub_of_le h), sym (add-sub_of_le k)) (omega arith)

-- a product of two numbers is at most the square of what their mean is at most
below_mean : (x p m : ℕ) → x + p ≤ 2 * m → x * p ≤ m * m
below_mean x p m h = by (nat_le m x) (nat_le m p) refl refl
  where
    by : (s t : Bool) → nat_le m x ≡ s → nat_le m p ≡ t → x * p ≤ m * m
    by true _ e f = let k = leb-true m x e in omega (arith, in_order m x p m k (omega arith), mul-le-mul_right m h)
    by false true e f = let k = leb-true m p f in omega (arith, in_order x m m p (omega (arith, leb-false m x e)) k, mul-le-mul_right m h)
    by false false e f = mul-le-mul (omega (arith, leb-false m x e)) (omega (arith, leb-false m p f))

-- a step from any number leads to one at the root or above it
pub step_above : (n x : ℕ) → 0 < x → n < ((x + n / x) / 2 + 1) * ((x + n / x) / 2 + 1)
step_above n x h = by (n / x) (lt-mul-div-succ n h)
  where
    by : (q : ℕ) → n < x * (q + 1) → n < ((x + q) / 2 + 1) * ((x + q) / 2 + 1)
    by q l = omega (arith, l, below_mean x (q + 1) ((x + q) / 2 + 1) (omega arith))

-- and from a number above the root, it falls
pub positive : (n x : ℕ) → n < x * x → 0 < x
positive n zero h = omega (arith, h)
positive n (suc x) h = omega arith

pub quotient_below : (n x : ℕ) → n < x * x → n / x < x
quotient_below n x h = (div-lt_iff_lt-mul (positive n x h)).1 h

pub step_falls : (n x : ℕ) → n < x * x → (x + n / x) / 2 < x
step_falls n x h = omega (arith, quotient_below n x h)

-- as many ones as half of the digits of n
pub half_of_digits : (n : ℕ) → n < 2 ^ 64 → (k : ℕ) × ((65 - count_leading_zeros 64 n) / 2 ≡ k) × (k ≤ 32) × (n < 2 ^ k * 2 ^ k)
half_of_digits n h = by (leading_length 64 n h)
  where
    by : ((m : ℕ) × (count_leading_zeros 64 n + m ≡ 64) × (n < 2 ^ m) × (2 ^ m ≤ 2 * n + 1)) → (k : ℕ) × ((65 - count_leading_zeros 64 n) / 2 ≡ k) × (k ≤ 32) × (n < 2 ^ k * 2 ^ k)
    by l = (((l.0 + 1) / 2), omega (arith, l.1), omega (arith, l.1), rw (sym (pow-add 2 ((l.0 + 1) / 2) ((l.0 + 1) / 2))) (lt_of_lt_of_le l.2 (pow-le-pow_right (lit≤ tt) (omega arith))))

ones_below : (p n : ℕ) → 0 < p → p ≤ 2 ^ 32 → n < p * p → (n < (1 * p % 2 ^ 64 - 1 + 1) * (1 * p % 2 ^ 64 - 1 + 1)) × (1 * p % 2 ^ 64 - 1 < 2 ^ 32)
ones_below p n h k l = let e : 1 * p % 2 ^ 64 - 1 + 1 ≡ p = omega arith in (rw e l, omega arith)

pub starts_above : (n : ℕ) → n < 2 ^ 64 → let p = 2 ^ ((65 - count_leading_zeros 64 n) / 2) in (n < (1 * p % 2 ^ 64 - 1 + 1) * (1 * p % 2 ^ 64 - 1 + 1)) × (1 * p % 2 ^ 64 - 1 < 2 ^ 32)
starts_above n h = let k = half_of_digits n h in rw k.1 (ones_below (2 ^ k.0) n (pow_pos k.0) (pow-le-pow_right (lit≤ tt) k.2) k.3)

-- the root of the higher word with ones below it is not below the root
pub words_above : (n r : ℕ) → r < 2 ^ 32 → n / 2 ^ 64 < (r + 1) * (r + 1) → n < (r * 2 ^ 32 % 2 ^ 64 + (2 ^ 32 - 1) + 1) * (r * 2 ^ 32 % 2 ^ 64 + (2 ^ 32 - 1) + 1)
words_above n r h k = let e : r * 2 ^ 32 % 2 ^ 64 + (2 ^ 32 - 1) + 1 ≡ (r + 1) * 2 ^ 32 = omega arith in rw e (omega (arith, k))
