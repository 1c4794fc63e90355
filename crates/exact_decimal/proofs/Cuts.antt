-- Digits that are cut at a place: the front is the quotient by a power of ten, and the rest the remainder.
use Rattle.std.proofs.Common.{◌≡◌, ◌⊎◌, inl, inr, ℕ, zero, suc, ◌+◌, ◌-◌, ◌*◌, ◌^◌, ◌<◌, ◌≤◌, List, [], ◌∷◌, ◌++◌, length, get_or, take, drop, sym, ap, ◌∙◌, subst, arith}
use Rattle.std.specs.Int.Digits.{number_from_digits, number_from_digits_after, AllBelowBase}
use Rattle.std.proofs.lemmas.Int.Digits.{number_after_append, number_more, number_lt}
use Rattle.std.proofs.lemmas.Bool.{cases_lt}
use Rattle.std.proofs.lemmas.List.{length-take, get_or_past, take_all}
use Rattle.std.proofs.lemmas.Nat.{pow-add}
use Rattle.std.proofs.Math.Nat.{pow-suc, one-le-pow, mul-lt-mul_of_pos_right, pow-le-pow_right}
use Rattle.exact_decimal.specs.Digits.{AreDigits, leading}

-- digits before these count by their place
pub after_is : (n : ℕ) (ds : List ℕ) → number_from_digits_after 10 n ds ≡ n * 10 ^ length ds + number_from_digits 10 ds
after_is n [] = omega arith
after_is n (d ∷ ds) =
    let more : number_from_digits_after 10 n (d ∷ ds) ≡ (n * 10 + d) * 10 ^ length ds + number_from_digits 10 ds = after_is (n * 10 + d) ds in
    let first : number_from_digits 10 (d ∷ ds) ≡ (0 * 10 + d) * 10 ^ length ds + number_from_digits 10 ds = after_is (0 * 10 + d) ds in
    let power : 10 ^ length (d ∷ ds) ≡ 10 ^ length ds * 10 = pow-suc 10 (length ds) in
    more ∙ (shift n d (10 ^ length ds) (number_from_digits 10 ds) ∙ sym (ap (λ (p : ℕ). n * p + number_from_digits 10 (d ∷ ds)) power ∙ ap (λ (v : ℕ). n * (10 ^ length ds * 10) + v) first))
  where
    shift : (n d p v : ℕ) → (n * 10 + d) * p + v ≡ n * (p * 10) + ((0 * 10 + d) * p + v)
    shift n d p v = omega arith

pub value_append : (xs ys : List ℕ) → number_from_digits 10 (xs ++ ys) ≡ number_from_digits 10 xs * 10 ^ length ys + number_from_digits 10 ys
value_append xs ys = number_after_append 10 0 xs ys ∙ after_is (number_from_digits 10 xs) ys

pub value_cons : (d : ℕ) (ds : List ℕ) → number_from_digits 10 (d ∷ ds) ≡ d * 10 ^ length ds + number_from_digits 10 ds
value_cons d ds = after_is (0 * 10 + d) ds ∙ omega arith

pub below_take : (i : ℕ) (ds : List ℕ) → AllBelowBase 10 ds → AllBelowBase 10 (take i ds)
below_take zero ds h = tt
below_take (suc i) [] h = tt
below_take (suc i) (d ∷ ds) h = (h.0, below_take i ds h.1)

pub below_drop : (i : ℕ) (ds : List ℕ) → AllBelowBase 10 ds → AllBelowBase 10 (drop i ds)
below_drop zero ds h = h
below_drop (suc i) [] h = tt
below_drop (suc i) (d ∷ ds) h = below_drop i ds h.1

pub leading_more : (ds : List ℕ) (i : ℕ) → leading ds (i + 1) ≡ 10 * leading ds i + get_or ds i 0
unfolding leading
leading_more ds i = by (cases_lt i (length ds))
  where
    inside : (v d a b : ℕ) → a ≡ 0 → b ≡ 0 → (v * 10 + d) * 10 ^ a ≡ 10 * (v * 10 ^ b) + d
    inside v d a b ha hb = rw (ha, hb) (omega arith)

    outside : (v p : ℕ) → v * (p * 10) ≡ 10 * (v * p) + 0
    outside v p = omega arith

    by : (i < length ds) ⊎ (length ds ≤ i) → number_from_digits 10 (take (i + 1) ds) * 10 ^ (i + 1 - length ds) ≡ 10 * (number_from_digits 10 (take i ds) * 10 ^ (i - length ds)) + get_or ds i 0
    by (inl h) = rw (number_more 10 ds i h) (inside (number_from_digits 10 (take i ds)) (get_or ds i 0) (i + 1 - length ds) (i - length ds) (omega arith) (omega arith))
    by (inr h) =
        let more : i + 1 - length ds ≡ suc (i - length ds) = omega arith in
        rw (take_all (i + 1) ds (omega arith), take_all i ds h, get_or_past ds i 0 h, more, pow-suc 10 (i - length ds)) (outside (number_from_digits 10 ds) (10 ^ (i - length ds)))

pub leading_small : (ds : List ℕ) (i : ℕ) → AllBelowBase 10 ds → leading ds i < 10 ^ i
unfolding leading
leading_small ds i h =
    let front : number_from_digits 10 (take i ds) < 10 ^ length (take i ds) = number_lt 10 (take i ds) (below_take i ds h) in
    let size : length (take i ds) + (i - length ds) ≡ i = omega (arith, length-take i ds) in
    subst (λ (n : ℕ). number_from_digits 10 (take i ds) * 10 ^ (i - length ds) < 10 ^ n) size
    (rw (pow-add 10 (length (take i ds)) (i - length ds)) (mul-lt-mul_of_pos_right front (one-le-pow (i - length ds) 10 (omega arith))))

pub leading_none : (ds : List ℕ) → 0 ≡ leading ds 0
unfolding leading
leading_none ds = omega arith

pub leading_fits : (ds : List ℕ) (i : ℕ) → AreDigits ds → i ≤ 16 → leading ds i < 10 ^ 16
leading_fits ds i h small = omega (arith, leading_small ds i h.below_ten, pow-le-pow_right {n = 10} (omega arith) small)

pub ruleset leading_steps = (leading_none, leading_more, leading_fits)
