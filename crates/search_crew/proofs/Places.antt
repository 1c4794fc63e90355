-- Lists, place by place.
use Rattle.std.proofs.Common.{◌≡◌, ℕ, suc, ◌+◌, ◌<◌, List, [], ◌∷◌, ◌++◌, All, length, length-append, get_or, map, sum_by, take, drop, refl, sym, ap, ◌∙◌, subst, arith}
use Rattle.std.proofs.Math.Seq.{get_or-append_seam}
use Rattle.std.proofs.lemmas.List.{append-nil, get_or-map, get_or_append_left, get_or_push, length-map, take_at}
use Rattle.std.proofs.lemmas.List.Sums.{sum_by-cons}
use mathlib.Core.Logic.{dite}
use native.Mathlib.Decide.{ℕ_discrete}

-- one element more
pub each_push : {X : Type 0} (P : ℕ → X → Type 0) (xs : List X) (x : X) (n : ℕ) → length xs ≡ n → ((k : ℕ) (d : X) → k < n → P k (get_or xs k d)) → P n x → (k : ℕ) (d : X) → k < n + 1 → P k (get_or (xs ++ x ∷ []) k d)
each_push {X} P xs x n counted before here k d inside =
    dite (ℕ_discrete k n)
    (λ e. subst (λ (m : ℕ). P m (get_or (xs ++ x ∷ []) m d)) (sym e) (subst (P n) (sym (get_or_push xs x d n counted)) here))
    (λ ne. let early : k < n = omega arith in subst (P k) (sym (get_or_append_left xs (x ∷ []) d k (omega (arith, counted, early)))) (before k d early))

-- lists that look the same at each place
pub map_same : {X Y : Type 0} (f : X → Y) (xs ys : List X) → length ys ≡ length xs → ((i : ℕ) (d : X) → i < length xs → f (get_or ys i d) ≡ f (get_or xs i d)) → map f ys ≡ map f xs
map_same f [] [] e h = refl
map_same f [] (y ∷ ys) e h = absurd (omega arith)
map_same f (x ∷ xs) [] e h = absurd (omega arith)
map_same f (x ∷ xs) (y ∷ ys) e h =
    ap (λ z. z ∷ map f ys) (h 0 x (omega arith)) ∙ ap (λ zs. f x ∷ zs) (map_same f xs ys (omega arith) (λ i d lt. h (suc i) d (omega arith)))

pub map_twice : {X Y Z : Type 0} (f : Y → Z) (g : X → Y) (xs : List X) → map f (map g xs) ≡ map (λ x. f (g x)) xs
map_twice f g [] = refl
map_twice f g (x ∷ xs) = ap (λ zs. f (g x) ∷ zs) (map_twice f g xs)

pub sum_by-map : {X Y : Type 0} (f : Y → ℕ) (g : X → Y) (xs : List X) → sum_by f (map g xs) ≡ sum_by (λ x. f (g x)) xs
sum_by-map f g [] = refl
sum_by-map f g (x ∷ xs) = let rest = sum_by-map f g xs in omega (arith, rest, sum_by-cons f (g x) (map g xs), sum_by-cons (λ x. f (g x)) x xs)

pub All-of_map : {X Y : Type 0} (P : Y → Type 0) (f : X → Y) (xs : List X) → All P (map f xs) → All (λ x. P (f x)) xs
All-of_map P f xs h i d inside = subst P (get_or-map f xs i d (f d) inside) (h i (f d) (omega (arith, inside, length-map xs f)))

-- a whole list that was written over
pub written_over : {X : Type 0} (new old : List X) (n : ℕ) → length new ≡ length old → n ≡ length old → take n (new ++ drop (length new) old) ≡ new
written_over new old n same whole = take_at new (drop (length new) old) n (omega arith)

-- an element between those before it and those behind it
pub at_seam : {X : Type 0} (P : X → Type 0) (xs : List X) (y : X) (ys all : List X) → xs ++ y ∷ ys ≡ all → All P all → P y
at_seam P xs y ys all e h = subst P (get_or-append_seam xs y ys y) (subst (All P) (sym e) h (length xs) y (omega (arith, length-append xs (y ∷ ys))))

-- nothing is behind these
pub no_more : {X : Type 0} (xs ys all : List X) → xs ++ ys ≡ all → length ys ≡ 0 → xs ≡ all
no_more xs [] all e none = sym (append-nil xs) ∙ e
no_more xs (y ∷ ys) all e none = absurd (omega arith)
