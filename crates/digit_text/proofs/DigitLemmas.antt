-- Digits and their values.
use Rattle.std.proofs.Common.{◌≡◌, ℕ, ◌+◌, ◌*◌, ◌^◌, ◌<◌, ◌≤◌, Bool, true, false, List, length, get_or, refl, arith}
use native.Mathlib.Numerals.{unary_clauses}
use Rattle.std.proofs.Math.Nat.{pow-le-pow_right}
use Rattle.std.proofs.lemmas.List.Folds.{list_all_at}
use Rattle.std.specs.List.{list_all}

-- where all pass a test, the one at i does
pub passes_at : (p : ℕ → Bool) (xs : List ℕ) (i : ℕ) → i < length xs → list_all p xs ≡ true → p (get_or xs i 0) ≡ true
passes_at p xs i here all = by (p (get_or xs i 0)) refl where
  by : (t : Bool) → p (get_or xs i 0) ≡ t → p (get_or xs i 0) ≡ true
  by true e = e
  by false e = let none : list_all p xs ≡ false = list_all_at p xs i 0 here e in cc

-- fewer digits
pub is_below_most : (value i most : ℕ) → value < 10 ^ i → i ≤ most → value < 10 ^ most
is_below_most value i most below few =
    let more : 10 ^ i ≤ 10 ^ most = pow-le-pow_right {n = 10} (omega arith) few in
    omega (arith, more)

-- one more digit
pub is_below_next : (value digit i : ℕ) → value < 10 ^ i → digit < 10 → value * 10 + digit < 10 ^ (i + 1)
is_below_next value digit i below small =
    let next : 10 ^ (i + 1) ≡ 10 ^ i * 10 = simp unary_clauses refl in
    omega (arith, next)
