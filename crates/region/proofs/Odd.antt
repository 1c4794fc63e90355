-- Odd counts, as sums of tests.
use Rattle.std.proofs.Common.{◌≡◌, ℕ, ◌+◌, ◌%◌, ◌⊎◌, inl, inr, Bool, true, false, cond, List, [], ◌∷◌, ◌++◌, arith, refl, sym, ap, ◌∙◌}
use Rattle.std.specs.Prelude.{◌==◌, count_by, fold}
use Rattle.std.proofs.lemmas.Bool.Decides.{nat_tests}
use Rattle.plane_edges.specs.Plane.{xor}
use Rattle.region.specs.Rings.{is_odd}
use Rattle.plane_edges.proofs.Truth.{same, by_same, by_table}

-- an odd number of elements pass the test
abbrev pub odd_by : {X : Type 0} → (X → Bool) → List X → Bool
odd_by f [] = false
odd_by f (x ∷ xs) = xor (f x) (odd_by f xs)

pub xor_assoc : (a b c : Bool) → xor (xor a b) c ≡ xor a (xor b c)
xor_assoc a b c = by_same _ _ (by_table (λ x y z w. same (xor (xor x y) z) (xor x (xor y z))) refl a b c true)

pub xor_false : (a : Bool) → xor a false ≡ a
xor_false true = refl
xor_false false = refl

pub xor_self : (a : Bool) → xor a a ≡ false
xor_self true = refl
xor_self false = refl

pub middle_out : (a b c : Bool) → xor (xor a b) (xor b c) ≡ xor a c
middle_out a b c = by_same _ _ (by_table (λ x y z w. same (xor (xor x y) (xor y z)) (xor x z)) refl a b c true)

halves : (n : ℕ) → (n % 2 ≡ 0) ⊎ (n % 2 ≡ 1)
halves n = elim (n % 2 == 0) as (λ b. n % 2 == 0 ≡ b → (n % 2 ≡ 0) ⊎ (n % 2 ≡ 1)) [
  | true ↦ λ e. inl (grind (arith, nat_tests))
  | false ↦ λ e. inr (grind (arith, nat_tests))
] refl

is_odd-add : (n : ℕ) (b : Bool) → is_odd (n + cond b 1 0) ≡ xor (is_odd n) b
is_odd-add n true =
    elim (halves n) [
      | inl h ↦ let k : (n + 1) % 2 ≡ 1 = omega arith in rw (h, k) refl
      | inr h ↦ let k : (n + 1) % 2 ≡ 0 = omega arith in rw (h, k) refl
    ]
is_odd-add n false = grind arith

is_odd-fold : {X : Type 0} (f : X → Bool) (n : ℕ) (xs : List X)
    → is_odd (fold (λ a x. a + cond (f x) 1 0) n xs) ≡ xor (is_odd n) (odd_by f xs)
is_odd-fold f n [] = sym (xor_false (is_odd n))
is_odd-fold f n (x ∷ xs) =
    is_odd-fold f (n + cond (f x) 1 0) xs
    ∙ ap (λ b. xor b (odd_by f xs)) (is_odd-add n (f x))
    ∙ xor_assoc (is_odd n) (f x) (odd_by f xs)

pub is_odd-count_by : {X : Type 0} (f : X → Bool) (xs : List X) → is_odd (count_by f xs) ≡ odd_by f xs
is_odd-count_by f xs = is_odd-fold f 0 xs

pub odd_by-append : {X : Type 0} (f : X → Bool) (xs ys : List X) → odd_by f (xs ++ ys) ≡ xor (odd_by f xs) (odd_by f ys)
odd_by-append f [] ys = refl
odd_by-append f (x ∷ xs) ys =
    ap (λ b. xor (f x) b) (odd_by-append f xs ys) ∙ sym (xor_assoc (f x) (odd_by f xs) (odd_by f ys))
