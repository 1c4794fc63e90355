-- What holds of an `Ok` gives what follows from it; and places of lists.
use Rattle.std.proofs.Common.{◌≡◌, ◌<◌, List, [], ◌∷◌, length, Result, Ok, Err, IfOk, refl, arith, map, get_or, ℕ, zero, suc, Some, ap, sym}
use Rattle.std.specs.List.{slice_get}

pub if_ok_map : {T E : Type 0} (r : Result T E) (P Q : T → Type 0) → ((x : T) → P x → Q x) → IfOk r P → IfOk r Q
if_ok_map (Ok x) P Q f h = f x h
if_ok_map (Err e) P Q f h = tt

-- what holds at each number and each text holds at these
pub if_ok_at : {T E N S : Type 0} (r : Result T E) (F : N → S → T → Type 0) (n : N) (s : S) → IfOk r (λ x. (n : N) (s : S) → F n s x) → IfOk r (λ x. F n s x)
if_ok_at (Ok x) F n s h = h n s
if_ok_at (Err e) F n s h = tt

pub nil_below_one : {A : Type 0} (xs : List A) → length xs < 1 → xs ≡ []
nil_below_one [] h = refl
nil_below_one (x ∷ xs) h = absurd (omega arith)

-- the image of the item at a place
pub map_at : {A B : Type 0} (v : A → B) (xs : List A) (k : ℕ) (x : A) → k < length (map v xs) → x ≡ get_or xs k x → slice_get (map v xs) k ≡ Some (v x)
map_at v [] k x h e = absurd (omega arith)
map_at v (y ∷ xs) zero x h e = ap (λ z. Some (v z)) (sym e)
map_at v (y ∷ xs) (suc k) x h e = map_at v xs k x (omega arith) e
