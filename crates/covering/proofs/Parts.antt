-- Lists that are made of parts in order, and the parts so far.
use Rattle.std.proofs.Common.{◌≡◌, ℕ, ◌+◌, ◌<◌, Bool, List, [], ◌∷◌, ◌++◌, length, get_or, take, drop, find, Some, None, sym, ap, ◌∙◌, append-nil}
use Rattle.std.specs.List.{flat_map}
use Rattle.std.specs.Option.{option_or}
use Rattle.std.proofs.lemmas.List.{take_more, take-append-drop}
use Rattle.std.proofs.lemmas.List.Concat.{flat_map-append}
use Rattle.std.proofs.lemmas.List.Folds.{find-append}

-- one part more
pub parts_more : {X Y : Type 0} (f : X → List Y) (xs : List X) (i : ℕ) (d : X) → i < length xs → flat_map f (take (i + 1) xs) ≡ flat_map f (take i xs) ++ f (get_or xs i d)
parts_more f xs i d inside =
    ap (flat_map f) (take_more xs i d inside) ∙ (flat_map-append f (take i xs) (get_or xs i d ∷ []) ∙ ap (λ ys. flat_map f (take i xs) ++ ys) (append-nil (f (get_or xs i d))))

-- what is found in no part so far is found first in the next one
pub find-parts_more : {X Y : Type 0} (test : Y → Bool) (f : X → List Y) (xs : List X) (i : ℕ) (d : X) → i < length xs → find test (flat_map f (take i xs)) ≡ None → find test (flat_map f (take (i + 1) xs)) ≡ find test (f (get_or xs i d))
find-parts_more test f xs i d inside none =
    ap (find test) (parts_more f xs i d inside) ∙ (find-append test (flat_map f (take i xs)) (f (get_or xs i d)) ∙ ap (λ o. option_or o (find test (f (get_or xs i d)))) none)

-- and where the next one has it, all have it
pub find-parts_found : {X Y : Type 0} (test : Y → Bool) (f : X → List Y) (xs : List X) (i : ℕ) (d : X) (y : Y) → i < length xs → find test (flat_map f (take i xs)) ≡ None → find test (f (get_or xs i d)) ≡ Some y → find test (flat_map f xs) ≡ Some y
find-parts_found test f xs i d y inside none found =
    let parts = flat_map-append f (take (i + 1) xs) (drop (i + 1) xs) in
    let whole = ap (flat_map f) (sym (take-append-drop (i + 1) xs)) ∙ parts in
    let first = find-parts_more test f xs i d inside none ∙ found in
    ap (find test) whole ∙ (find-append test (flat_map f (take (i + 1) xs)) (flat_map f (drop (i + 1) xs)) ∙ ap (λ o. option_or o (find test (flat_map f (drop (i + 1) xs)))) first)
