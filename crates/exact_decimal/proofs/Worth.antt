-- What digits times ten to an exponent are worth, read off the digits at the point.
use Rattle.std.proofs.Common.{◌≡◌, ◌≢◌, ℕ, zero, suc, ◌+◌, ◌-◌, ◌*◌, ◌/◌, ◌%◌, ◌^◌, ◌<◌, ◌≤◌, ◌==◌, Bool, true, false, cond, eqb, leb, List, [], ◌∷◌, ◌++◌, length, get_or, take, drop, Some, None, refl, sym, ◌∙◌, subst, arith, add-one, min, ℤ, pos, negsuc, ◌+ℤ◌, ◌≤ℤ◌, ◌<ℤ◌}
use Rattle.std.specs.Prelude.{option_and_then, if◌then◌else◌, ◌&&◌}
use Rattle.std.specs.List.{list_all}
use Rattle.std.specs.Int.Digits.{number_from_digits, AllBelowBase}
use Rattle.std.proofs.lemmas.Bool.{leb-true, leb-false, le-leb, lt-leb, eqb-true, eqb-false, ne_eqb}
use Rattle.std.proofs.lemmas.Int.{ints}
use Rattle.std.proofs.lemmas.Int.Digits.{number_lt}
use Rattle.std.proofs.lemmas.List.{take-append-drop, length-drop, get_or_past, take_all, drop_all, drop_more}
use Rattle.std.proofs.lemmas.Nat.{pow-add, mod-mul-add, div-mul-add, le-div}
use Rattle.std.proofs.Math.Nat.{pow-suc, one-le-pow, mul-le-mul_right, pow-le-pow_right}
use Rattle.exact_decimal.specs.Digits.{AreDigits, leading}
use Rattle.exact_decimal.specs.Micro.{nearest, exactly, no_greater}
use Rattle.exact_decimal.proofs.Cuts.{value_append, value_cons, below_drop}

-- a quotient to the nearest, by the first digit of the rest
rounded : (a y r p : ℕ) → r < p → y < 10 → (2 * (a * (p * 10) + (y * p + r)) + p * 10) / (2 * (p * 10)) ≡ a + cond (leb 5 y) 1 0
rounded a y r p small digit = by (leb 5 y) refl
  where
    up : (z : ℕ) → z < 5 → (2 * (a * (p * 10) + ((5 + z) * p + r)) + p * 10) / (2 * (p * 10)) ≡ a + 1
    up z h =
        let most : z * p ≤ 4 * p = mul-le-mul_right p (omega arith) in
        let parts : 2 * (a * (p * 10) + ((5 + z) * p + r)) + p * 10 ≡ (a + 1) * (2 * (p * 10)) + (2 * (z * p) + 2 * r) = omega arith in
        rw parts (div-mul-add (a + 1) (2 * (p * 10)) (2 * (z * p) + 2 * r) (omega arith))

    by : (t : Bool) → leb 5 y ≡ t → (2 * (a * (p * 10) + (y * p + r)) + p * 10) / (2 * (p * 10)) ≡ a + cond t 1 0
    by true e =
        let five : 5 ≤ y = leb-true 5 y e in
        let same : y ≡ 5 + (y - 5) = omega arith in
        subst (λ (x : ℕ). (2 * (a * (p * 10) + (x * p + r)) + p * 10) / (2 * (p * 10)) ≡ a + 1) (sym same) (up (y - 5) (omega arith))
    by false e =
        let five : y < 5 = leb-false 5 y e in
        let most : y * p ≤ 4 * p = mul-le-mul_right p (omega arith) in
        let parts : 2 * (a * (p * 10) + (y * p + r)) + p * 10 ≡ a * (2 * (p * 10)) + (2 * (y * p) + 2 * r + p * 10) = omega arith in
        rw parts (div-mul-add a (2 * (p * 10)) (2 * (y * p) + 2 * r + p * 10) (omega arith) ∙ omega arith)

-- where digits are cut: the front, and the rest, which is below a power of ten
record IsCut (ds : List ℕ) (p k : ℕ) : Type 0 where
  value : number_from_digits 10 ds ≡ number_from_digits 10 (take p ds) * 10 ^ k + number_from_digits 10 (drop p ds)
  rest : number_from_digits 10 (drop p ds) < 10 ^ k
  front : leading ds p ≡ number_from_digits 10 (take p ds)

cut : (ds : List ℕ) (p k : ℕ) → AreDigits ds → p + k ≡ length ds → IsCut ds p k
unfolding leading
cut ds p k h at_place =
    let size : length (drop p ds) ≡ k = omega (arith, length-drop p ds) in
    let none : p - length ds ≡ 0 = omega arith in
    record {
      value = subst (λ (xs : List ℕ). number_from_digits 10 xs ≡ number_from_digits 10 (take p ds) * 10 ^ k + number_from_digits 10 (drop p ds)) (take-append-drop p ds)
          (subst (λ (n : ℕ). number_from_digits 10 (take p ds ++ drop p ds) ≡ number_from_digits 10 (take p ds) * 10 ^ n + number_from_digits 10 (drop p ds)) size (value_append (take p ds) (drop p ds)));
      rest = subst (λ (n : ℕ). number_from_digits 10 (drop p ds) < 10 ^ n) size (number_lt 10 (drop p ds) (below_drop p ds h.below_ten));
      front = rw none (omega arith);
    }

-- the front of digits whose zeros begin at the point or before it
whole_front : (ds : List ℕ) (p k : ℕ) → p ≡ length ds + k → leading ds p ≡ number_from_digits 10 ds * 10 ^ k
unfolding leading
whole_front ds p k e =
    let more : p - length ds ≡ k = omega arith in
    rw (take_all p ds (omega arith), more) refl

below_ten_at : (ds : List ℕ) (p : ℕ) → AllBelowBase 10 ds → get_or ds p 0 < 10
below_ten_at [] p h = omega arith
below_ten_at (d ∷ ds) zero h = h.0
below_ten_at (d ∷ ds) (suc p) h = below_ten_at ds p h.1

least_value : (ds : List ℕ) (k : ℕ) → AreDigits ds → length ds ≡ suc k → 10 ^ k ≤ number_from_digits 10 ds
least_value [] k h e = omega arith
least_value (d ∷ ds) k h e =
    let size : length ds ≡ k = omega arith in
    let once : 1 * 10 ^ length ds ≤ d * 10 ^ length ds = mul-le-mul_right (10 ^ length ds) h.first in
    subst (λ (n : ℕ). 10 ^ n ≤ number_from_digits 10 (d ∷ ds)) size (omega (arith, value_cons d ds))

power_le : (i j : ℕ) → i ≤ j → 10 ^ i ≤ 10 ^ j
power_le i j h = pow-le-pow_right (omega arith) h

most_value : (ds : List ℕ) (k : ℕ) → AreDigits ds → length ds ≤ k → number_from_digits 10 ds < 10 ^ k
most_value ds k h e = omega (arith, number_lt 10 ds h.below_ten, power_le (length ds) k e)

div_small : (a b : ℕ) → a < b → a / b ≡ 0
div_small a b h = let none : 0 * b + a ≡ a = omega arith in subst (λ (n : ℕ). n / b ≡ 0) none (div-mul-add 0 b a h)

great : (ds : List ℕ) (k : ℕ) → AreDigits ds → 0 < length ds → 16 < length ds + k → 10 ^ 16 ≤ number_from_digits 10 ds * 10 ^ k
great ds k h some above =
    let least : 10 ^ (length ds - 1) ≤ number_from_digits 10 ds = least_value ds (length ds - 1) h (omega arith) in
    let moved : 10 ^ (length ds - 1) * 10 ^ k ≤ number_from_digits 10 ds * 10 ^ k = mul-le-mul_right (10 ^ k) least in
    let more : 10 ^ 16 ≤ 10 ^ (length ds - 1 + k) = power_le 16 (length ds - 1 + k) (omega arith) in
    omega (arith, pow-add 10 (length ds - 1) k)

greater : (ds : List ℕ) (k : ℕ) → AreDigits ds → 0 < length ds → 16 + suc k < length ds → 10 ^ 16 * 10 ^ (k + 1) ≤ number_from_digits 10 ds
greater ds k h some above =
    let least : 10 ^ (length ds - 1) ≤ number_from_digits 10 ds = least_value ds (length ds - 1) h (omega arith) in
    let more : 10 ^ (16 + (k + 1)) ≤ 10 ^ (length ds - 1) = power_le (16 + (k + 1)) (length ds - 1) (omega arith) in
    omega (arith, pow-add 10 16 (k + 1))

pub nearest_at : (ds : List ℕ) (p : ℕ) (e : ℤ) → AreDigits ds → pos p ≡ pos (length ds) +ℤ e → nearest (number_from_digits 10 ds) e ≡ leading ds p + cond (leb 5 (get_or ds p 0)) 1 0
nearest_at ds p (pos k) h at_place =
    let place : p ≡ length ds + k = omega (arith, ints) in
    rw (get_or_past ds p 0 (omega arith)) (omega (arith, whole_front ds p k place))
nearest_at ds p (negsuc k) h at_place =
    let place : p + suc k ≡ length ds = omega (arith, ints) in
    let whole : IsCut ds p (suc k) = cut ds p (suc k) h place in
    let fraction : drop p ds ≡ get_or ds p 0 ∷ drop (p + 1) ds = drop_more ds p 0 (omega arith) in
    let size : length (drop (p + 1) ds) ≡ k = omega (arith, length-drop (p + 1) ds) in
    let first : number_from_digits 10 (drop p ds) ≡ get_or ds p 0 * 10 ^ k + number_from_digits 10 (drop (p + 1) ds) =
    rw fraction (subst (λ (n : ℕ). number_from_digits 10 (get_or ds p 0 ∷ drop (p + 1) ds) ≡ get_or ds p 0 * 10 ^ n + number_from_digits 10 (drop (p + 1) ds)) size (value_cons (get_or ds p 0) (drop (p + 1) ds))) in
    let small : number_from_digits 10 (drop (p + 1) ds) < 10 ^ k = subst (λ (n : ℕ). number_from_digits 10 (drop (p + 1) ds) < 10 ^ n) size (number_lt 10 (drop (p + 1) ds) (below_drop (p + 1) ds h.below_ten)) in
    let power : 10 ^ (k + 1) ≡ 10 ^ k * 10 = rw add-one (pow-suc 10 k) in
    rw (whole.value, first, whole.front, pow-suc 10 k, power) (rounded (number_from_digits 10 (take p ds)) (get_or ds p 0) (number_from_digits 10 (drop (p + 1) ds)) (10 ^ k) small (below_ten_at ds p h.below_ten))

pub nearest_none : (ds : List ℕ) (e : ℤ) → length ds ≡ 0 → 0 ≡ min (nearest (number_from_digits 10 ds) e) (10 ^ 15)
nearest_none [] (pos k) h = omega arith
nearest_none [] (negsuc k) h =
    let some : 1 ≤ 10 ^ (k + 1) = one-le-pow (k + 1) 10 (omega arith) in
    rw (div_small (2 * 0 + 10 ^ (k + 1)) (2 * 10 ^ (k + 1)) (omega arith)) refl
nearest_none (d ∷ ds) e h = omega arith

-- zeros follow the point
pub nearest_below : (ds : List ℕ) (e : ℤ) → AreDigits ds → (pos (length ds) +ℤ e) <ℤ pos 0 → 0 ≡ min (nearest (number_from_digits 10 ds) e) (10 ^ 15)
nearest_below ds (pos k) h below = omega (arith, ints)
nearest_below ds (negsuc k) h below =
    let small : number_from_digits 10 ds < 10 ^ k = most_value ds k h (omega (arith, ints)) in
    let power : 10 ^ (k + 1) ≡ 10 ^ k * 10 = rw add-one (pow-suc 10 k) in
    rw (div_small (2 * number_from_digits 10 ds + 10 ^ (k + 1)) (2 * 10 ^ (k + 1)) (omega arith)) refl

-- more than sixteen digits stand before the point
pub nearest_above : (ds : List ℕ) (e : ℤ) → AreDigits ds → 0 < length ds → pos 16 <ℤ (pos (length ds) +ℤ e) → 10 ^ 15 ≡ min (nearest (number_from_digits 10 ds) e) (10 ^ 15)
nearest_above ds (pos k) h some above =
    let most : 10 ^ 16 ≤ number_from_digits 10 ds * 10 ^ k = great ds k h some (omega (arith, ints)) in
    omega arith
nearest_above ds (negsuc k) h some above =
    let most : 10 ^ 16 * 10 ^ (k + 1) ≤ number_from_digits 10 ds = greater ds k h some (omega (arith, ints)) in
    let quotient : 10 ^ 15 ≤ (2 * number_from_digits 10 ds + 10 ^ (k + 1)) / (2 * 10 ^ (k + 1)) = le-div (10 ^ 15) (2 * number_from_digits 10 ds + 10 ^ (k + 1)) (2 * 10 ^ (k + 1)) (omega (arith, one-le-pow (k + 1) 10 (omega arith))) (omega arith) in
    omega arith

pub ruleset nearest_digits = (nearest_at)

-- zeros alone are worth nothing, and nothing else is
zeros : (ds : List ℕ) → list_all (λ d. d == 0) ds ≡ eqb (number_from_digits 10 ds) 0
zeros [] = refl
zeros (d ∷ ds) = by (zeros ds) (eqb d 0) refl
  where
    by : list_all (λ x. x == 0) ds ≡ eqb (number_from_digits 10 ds) 0 → (t : Bool) → eqb d 0 ≡ t → (t && list_all (λ x. x == 0) ds) ≡ eqb (number_from_digits 10 (d ∷ ds)) 0
    by rest true e = rw (eqb-true d 0 e) rest
    by rest false e =
        let first : d ≢ 0 = eqb-false d 0 e in
        let once : 1 * 10 ^ length ds ≤ d * 10 ^ length ds = mul-le-mul_right (10 ^ length ds) (omega arith) in
        sym (ne_eqb (number_from_digits 10 (d ∷ ds)) 0 (λ none. omega (arith, value_cons d ds, one-le-pow (length ds) 10 (omega arith))))

exactly_cut : (a r p : ℕ) → r < p → (if (a * p + r) % p == 0 then Some ((a * p + r) / p) else None) ≡ cond (eqb r 0) (Some a) None
exactly_cut a r p small = rw (mod-mul-add a p r small, div-mul-add a p r small) refl

exactly_at : (ds : List ℕ) (p : ℕ) (e : ℤ) → AreDigits ds → pos p ≡ pos (length ds) +ℤ e → exactly (number_from_digits 10 ds) e ≡ cond (list_all (λ d. d == 0) (drop p ds)) (Some (leading ds p)) None
exactly_at ds p (pos k) h at_place =
    let place : p ≡ length ds + k = omega (arith, ints) in
    rw (drop_all p ds (omega arith), whole_front ds p k place) refl
exactly_at ds p (negsuc k) h at_place =
    let place : p + (k + 1) ≡ length ds = omega (arith, ints) in
    let whole : IsCut ds p (k + 1) = cut ds p (k + 1) h place in
    rw (zeros (drop p ds), whole.front, whole.value) (exactly_cut (number_from_digits 10 (take p ds)) (number_from_digits 10 (drop p ds)) (10 ^ (k + 1)) whole.rest)

pub exactly_some : (ds : List ℕ) (p : ℕ) (e : ℤ) → AreDigits ds → pos p ≡ pos (length ds) +ℤ e → leading ds p ≤ 10 ^ 15 → list_all (λ d. d == 0) (drop p ds) ≡ true → Some (leading ds p) ≡ option_and_then no_greater (exactly (number_from_digits 10 ds) e)
exactly_some ds p e h at_place small zero_from = rw (exactly_at ds p e h at_place, zero_from, le-leb (leading ds p) (10 ^ 15) small) refl

pub exactly_fraction : (ds : List ℕ) (p : ℕ) (e : ℤ) → AreDigits ds → pos p ≡ pos (length ds) +ℤ e → list_all (λ d. d == 0) (drop p ds) ≡ false → None ≡ option_and_then no_greater (exactly (number_from_digits 10 ds) e)
exactly_fraction ds p e h at_place some = rw (exactly_at ds p e h at_place, some) refl

pub exactly_great : (ds : List ℕ) (p : ℕ) (e : ℤ) → AreDigits ds → pos p ≡ pos (length ds) +ℤ e → 10 ^ 15 < leading ds p → None ≡ option_and_then no_greater (exactly (number_from_digits 10 ds) e)
exactly_great ds p e h at_place great = rw (exactly_at ds p e h at_place) (by (list_all (λ d. d == 0) (drop p ds)))
  where
    by : (t : Bool) → None ≡ option_and_then no_greater (cond t (Some (leading ds p)) None)
    by true = rw (lt-leb (leading ds p) (10 ^ 15) great) refl
    by false = refl

-- a value below one is whole where it is 0
exactly_small : (r p : ℕ) → r < p → (if r % p == 0 then Some (r / p) else None) ≡ cond (eqb r 0) (Some 0) None
exactly_small r p small = let none : 0 * p + r ≡ r = omega arith in subst (λ (n : ℕ). (if n % p == 0 then Some (n / p) else None) ≡ cond (eqb r 0) (Some 0) None) none (exactly_cut 0 r p small)

pub exactly_none : (ds : List ℕ) (e : ℤ) → length ds ≡ 0 → Some 0 ≡ option_and_then no_greater (exactly (number_from_digits 10 ds) e)
exactly_none [] (pos k) h = let none : 0 * 10 ^ k ≡ 0 = omega arith in rw none refl
exactly_none [] (negsuc k) h =
    let some : 1 ≤ 10 ^ (k + 1) = one-le-pow (k + 1) 10 (omega arith) in
    rw (exactly_small 0 (10 ^ (k + 1)) some) refl
exactly_none (d ∷ ds) e h = absurd (some (length ds) h)
  where
    some : (n : ℕ) → suc n ≡ 0 → ⊥
    some n e = omega arith

-- no digit stands before the point
pub exactly_below : (ds : List ℕ) (e : ℤ) → AreDigits ds → 0 < length ds → (pos (length ds) +ℤ e) ≤ℤ pos 0 → None ≡ option_and_then no_greater (exactly (number_from_digits 10 ds) e)
exactly_below ds (pos k) h some below = absurd (omega (arith, ints))
exactly_below ds (negsuc k) h some below =
    let least : 10 ^ (length ds - 1) ≤ number_from_digits 10 ds = least_value ds (length ds - 1) h (omega arith) in
    let positive : number_from_digits 10 ds ≢ 0 = omega (arith, one-le-pow (length ds - 1) 10 (omega arith)) in
    let small : number_from_digits 10 ds < 10 ^ (k + 1) = most_value ds (k + 1) h (omega (arith, ints)) in
    rw (exactly_small (number_from_digits 10 ds) (10 ^ (k + 1)) small, ne_eqb (number_from_digits 10 ds) 0 positive) refl

-- more than sixteen digits stand before the point
pub exactly_above : (ds : List ℕ) (e : ℤ) → AreDigits ds → 0 < length ds → pos 16 <ℤ (pos (length ds) +ℤ e) → None ≡ option_and_then no_greater (exactly (number_from_digits 10 ds) e)
exactly_above ds (pos k) h some above =
    let most : 10 ^ 16 ≤ number_from_digits 10 ds * 10 ^ k = great ds k h some (omega (arith, ints)) in
    rw (lt-leb (number_from_digits 10 ds * 10 ^ k) (10 ^ 15) (omega arith)) refl
exactly_above ds (negsuc k) h some above =
    let most : 10 ^ 16 * 10 ^ (k + 1) ≤ number_from_digits 10 ds = greater ds k h some (omega (arith, ints)) in
    let quotient : 10 ^ 16 ≤ number_from_digits 10 ds / 10 ^ (k + 1) = le-div (10 ^ 16) (number_from_digits 10 ds) (10 ^ (k + 1)) (one-le-pow (k + 1) 10 (omega arith)) most in
    by (number_from_digits 10 ds % 10 ^ (k + 1) == 0) (number_from_digits 10 ds / 10 ^ (k + 1)) (omega arith)
  where
    by : (t : Bool) (n : ℕ) → 10 ^ 15 < n → None ≡ option_and_then no_greater (if t then Some n else None)
    by true n great = rw (lt-leb n (10 ^ 15) great) refl
    by false n great = refl

pub ruleset exactly_digits = (exactly_some, exactly_fraction, exactly_great, exactly_none, exactly_below, exactly_above)
