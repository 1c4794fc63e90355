-- The floor of a square root is determined by its two squares.
use Rattle.std.proofs.Common.{◌≡◌, ℕ, zero, suc, ◌+◌, ◌*◌, ◌<◌, ◌≤◌, Bool, true, false, cond, leb, refl, arith, inl, inr}
use Rattle.std.proofs.Math.Nat.{mul-le-mul}
use Rattle.std.proofs.lemmas.Bool.{cases_lt}
use Rattle.std.proofs.lemmas.Bool.Decides.{nat_tests}
use Rattle.method_table.specs.Horizon.{root_from, floor_root}

-- squares are in the order of their roots
pub square_lt : (a b : ℕ) → a * a < b * b → a < b
square_lt a b h =
    elim (cases_lt a b) [ inl k ↦ k | inr k ↦ (let m : b * b ≤ a * a = mul-le-mul k k in omega arith) ]

root_from-step : (n r k : ℕ) (t : Bool) → leb (suc k * suc k) n ≡ t → r ≤ suc k → r * r ≤ n → n < (r + 1) * (r + 1) → (r ≤ k → root_from n k ≡ r) → cond t (suc k) (root_from n k) ≡ r
root_from-step n r k true e below square next rest =
    let s : suc k * suc k ≤ n = grind (arith, nat_tests) in
    let b : suc k < r + 1 = square_lt (suc k) (r + 1) (omega arith) in
    omega arith
root_from-step n r k false e below square next rest =
    let s : n < suc k * suc k = grind (arith, nat_tests) in
    let b : r < suc k = square_lt r (suc k) (omega arith) in
    rest (omega arith)

pub root_from-is : (n r k : ℕ) → r ≤ k → r * r ≤ n → n < (r + 1) * (r + 1) → root_from n k ≡ r
unfolding root_from
root_from-is n r zero below square next = omega arith
root_from-is n r (suc k) below square next =
    root_from-step n r k _ refl below square next (λ h. root_from-is n r k h square next)

root_le : (n r : ℕ) → r * r ≤ n → r ≤ n
root_le n zero h = omega arith
root_le n (suc r) h = omega arith

-- a number with these two squares is the root
pub floor_root-is : (n r : ℕ) → r * r ≤ n → n < (r + 1) * (r + 1) → floor_root n ≡ r
unfolding floor_root
floor_root-is n r square next = root_from-is n r n (root_le n r square) square next
