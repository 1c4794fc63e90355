-- Values of each item of a list, found one after another.
use Rattle.std.proofs.Common.{◌≡◌, ◌∙◌, ap, refl, sym, List, [], ◌∷◌, ◌++◌, append_assoc, append-nil, Option, Some, None, option_map, option_and_then, length, suc}
use Rattle.std.proofs.lemmas.Option.{option_and_then_some}
use Rattle.ring_survey.specs.Each.{each_of}

-- the values so far, with those that are left
abbrev pub with_front : {B : Type 0} → List B → Option (List B) → Option (List B)
with_front front o = option_map (λ ys. front ++ ys) o

with_front-more : {B : Type 0} (front : List B) (y : B) (o : Option (List B)) → with_front front (option_map (λ ys. y ∷ ys) o) ≡ with_front (front ++ y ∷ []) o
with_front-more front y None = refl
with_front-more front y (Some ys) = ap (λ zs. Some zs) (sym (append_assoc front (y ∷ []) ys))

pub each_start : {B : Type 0} (o : Option (List B)) → with_front [] o ≡ o
each_start None = refl
each_start (Some ys) = refl

-- one more
pub each_more : {A B : Type 0} (read : A → Option B) (x : A) (y : B) (front : List B) (rest tail : List A) → rest ≡ x ∷ tail → read x ≡ Some y → with_front front (each_of read rest) ≡ with_front (front ++ y ∷ []) (each_of read tail)
unfolding each_of
each_more read x y front rest tail e h =
    ap (λ xs. with_front front (each_of read xs)) e
    ∙ (ap (λ o. with_front front (option_and_then (λ z. option_map (λ ys. z ∷ ys) (each_of read tail)) o)) h ∙ with_front-more front y (each_of read tail))

-- one of which nothing is read
pub each_none : {A B : Type 0} (read : A → Option B) (x : A) (front : List B) (rest tail : List A) → rest ≡ x ∷ tail → read x ≡ None → with_front front (each_of read rest) ≡ None
unfolding each_of
each_none read x front rest tail e h =
    ap (λ xs. with_front front (each_of read xs)) e
    ∙ ap (λ o. with_front front (option_and_then (λ z. option_map (λ ys. z ∷ ys) (each_of read tail)) o)) h

-- no more
pub each_end : {A B : Type 0} (read : A → Option B) (front : List B) (rest : List A) → rest ≡ [] → with_front front (each_of read rest) ≡ Some front
unfolding each_of
each_end read front rest e = ap (λ xs. with_front front (each_of read xs)) e ∙ ap (λ zs. Some zs) (append-nil front)

each_length_more : {A B : Type 0} (y : B) (o : Option (List B)) (xs : List A) (ys : List B) → option_map (λ zs. y ∷ zs) o ≡ Some ys → ((zs : List B) → o ≡ Some zs → length zs ≡ length xs) → length ys ≡ suc (length xs)
each_length_more y None xs ys e h = absurd cc
each_length_more y (Some zs) xs ys e h =
    let whole : y ∷ zs ≡ ys = cc in
    ap length (sym whole) ∙ ap suc (h zs refl)

-- one of each
pub each_length : {A B : Type 0} (read : A → Option B) (xs : List A) (ys : List B) → each_of read xs ≡ Some ys → length ys ≡ length xs
unfolding each_of
each_length read [] ys e = (let none : [] ≡ ys = cc in ap length (sym none))
each_length read (x ∷ xs) ys e =
    option_and_then_some (λ y. option_map (λ zs. y ∷ zs) (each_of read xs)) (read x) ys e (λ y here rest.
    each_length_more y (each_of read xs) xs ys rest (each_length read xs))
