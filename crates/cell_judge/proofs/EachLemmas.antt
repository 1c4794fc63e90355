-- Lists whose elements are as their numbers ask: made one by one, and read.
use Rattle.std.proofs.Common.{◌≡◌, ℕ, ◌<◌, ◌≤◌, List, [], ◌∷◌, ◌++◌, length, length-append, get_or, Some, ◌⊎◌, inl, inr, refl, sym, ap, subst, ◌∙◌, arith}
use Rattle.std.specs.List.{slice_get}
use Rattle.std.proofs.lemmas.Bool.{cases_lt}
use Rattle.std.proofs.lemmas.List.{get_or_append_left, get_or_at}
use Rattle.std.proofs.lemmas.Option.{get_or_from_slice_get, slice_get-get_or, slice_get_read, slice_get_within}
use Rattle.cell_judge.specs.Each.{Each}

-- one more element
pub each_more : {A : Type 0} (P : ℕ → A → Type 0) (xs : List A) (x : A) → Each P xs → P (length xs) x → Each P (xs ++ x ∷ [])
each_more {A} P xs x before here = record {
  at = λ n y found. by_lt n y found (cases_lt n (length xs));
}
  where
    by_lt : (n : ℕ) (y : A) → slice_get (xs ++ x ∷ []) n ≡ Some y → (n < length xs) ⊎ (length xs ≤ n) → P n y
    by_lt n y found (inl earlier) =
        let is = get_or_from_slice_get (xs ++ x ∷ []) n y y found in
        before.at n y (slice_get-get_or xs n y earlier ∙ ap Some (sym (get_or_append_left xs (x ∷ []) y n earlier) ∙ is))
    by_lt n y found (inr later) =
        let inside = slice_get_within (xs ++ x ∷ []) n y found in
        let last : length xs ≡ n = omega (arith, length-append xs (x ∷ [])) in
        let same : x ≡ y = sym (get_or_at xs x [] y n last) ∙ get_or_from_slice_get (xs ++ x ∷ []) n y y found in
        subst (P n) same (subst (λ (k : ℕ). P k x) last here)

-- an element that was read
pub read : {A : Type 0} (P : ℕ → A → Type 0) (xs : List A) (n : ℕ) (x : A) → Each P xs → n < length xs → x ≡ get_or xs n x → P n x
read P xs n x each inside is = each.at n x (slice_get_read xs (length xs) n x refl inside is)
