-- Facts of each element, of some element, and of each two, by recursion on the list.
use Rattle.std.proofs.Common.{◌≡◌, subst, zero, suc, List, [], ◌∷◌, ◌++◌, map, get_or, refl, sym, ap, ◌∙◌, Bool, true, false, cond, ◌⊎◌, inl, inr, arith}
pub use Rattle.std.specs.List.{AllByRecursion as Every}
use Rattle.std.specs.Prelude.{AllPairs, Any, Contains, flat_map}
use Rattle.std.proofs.lemmas.List.Elements.{All-contains_itself, All-from_recursion, recursion_from_All}

pub Every-weaker : {X : Type 0} (P Q : X → Type 0) (xs : List X) → ((x : X) → P x → Q x) → Every P xs → Every Q xs
Every-weaker P Q [] f h = tt
Every-weaker P Q (x ∷ xs) f h = (f x h.0, Every-weaker P Q xs f h.1)

pub Every-both : {X : Type 0} (P Q : X → Type 0) (xs : List X) → Every P xs → Every Q xs → Every (λ x. P x × Q x) xs
Every-both P Q [] h k = tt
Every-both P Q (x ∷ xs) h k = ((h.0, k.0), Every-both P Q xs h.1 k.1)

pub Every-append : {X : Type 0} (P : X → Type 0) (xs ys : List X) → Every P xs → Every P ys → Every P (xs ++ ys)
Every-append P [] ys h k = k
Every-append P (x ∷ xs) ys h k = (h.0, Every-append P xs ys h.1 k)

pub Every-map : {X Y : Type 0} (P : Y → Type 0) (f : X → Y) (xs : List X) → Every (λ x. P (f x)) xs → Every P (map f xs)
Every-map P f [] h = tt
Every-map P f (x ∷ xs) h = (h.0, Every-map P f xs h.1)

-- two functions that agree at each element
pub flat_map_same : {X Y : Type 0} (f g : X → List Y) (xs : List X) → Every (λ x. f x ≡ g x) xs → flat_map f xs ≡ flat_map g xs
flat_map_same f g [] h = refl
flat_map_same f g (x ∷ xs) h =
    ap (λ ys. ys ++ flat_map f xs) h.0 ∙ ap (λ ys. g x ++ ys) (flat_map_same f g xs h.1)

-- a fact of a choice, from the fact of each side
pub by_test : {X : Type 0} (P : X → Type 0) (t : Bool) (x y : X) → (t ≡ true → P x) → (t ≡ false → P y) → P (cond t x y)
by_test P true x y f g = f refl
by_test P false x y f g = g refl

-- P holds of some element
abbrev pub Somewhere : {X : Type 0} → (X → Type 0) → List X → Type 0
Somewhere P [] = ⊥
Somewhere P (x ∷ xs) = P x ⊎ Somewhere P xs

pub Somewhere-append_left : {X : Type 0} (P : X → Type 0) (xs ys : List X) → Somewhere P xs → Somewhere P (xs ++ ys)
Somewhere-append_left P [] ys h = absurd h
Somewhere-append_left P (x ∷ xs) ys (inl h) = inl h
Somewhere-append_left P (x ∷ xs) ys (inr h) = inr (Somewhere-append_left P xs ys h)

pub Somewhere-append_right : {X : Type 0} (P : X → Type 0) (xs ys : List X) → Somewhere P ys → Somewhere P (xs ++ ys)
Somewhere-append_right P [] ys h = h
Somewhere-append_right P (x ∷ xs) ys h = inr (Somewhere-append_right P xs ys h)

pub Somewhere-map : {X Y : Type 0} (P : Y → Type 0) (f : X → Y) (xs : List X) → Somewhere (λ x. P (f x)) xs → Somewhere P (map f xs)
Somewhere-map P f [] h = absurd h
Somewhere-map P f (x ∷ xs) (inl h) = inl h
Somewhere-map P f (x ∷ xs) (inr h) = inr (Somewhere-map P f xs h)

-- what holds of some element, in the light of a fact of each
pub Somewhere-weaker : {X : Type 0} (P Q R : X → Type 0) (xs : List X) → ((x : X) → P x → Q x → R x) → Every P xs → Somewhere Q xs → Somewhere R xs
Somewhere-weaker P Q R [] f h k = absurd k
Somewhere-weaker P Q R (x ∷ xs) f h (inl k) = inl (f x h.0 k)
Somewhere-weaker P Q R (x ∷ xs) f h (inr k) = inr (Somewhere-weaker P Q R xs f h.1 k)

pub Any-from_somewhere : {X : Type 0} (P : X → Type 0) (xs : List X) → Somewhere P xs → Any P xs
Any-from_somewhere P [] h = absurd h
Any-from_somewhere P (x ∷ xs) (inl h) = (0, x, omega arith, refl, h)
Any-from_somewhere P (x ∷ xs) (inr h) = let a = Any-from_somewhere P xs h in (suc a.0, a.1, omega (arith, a.2), a.3, a.4)

pub somewhere_from_Any : {X : Type 0} (P : X → Type 0) (xs : List X) → Any P xs → Somewhere P xs
somewhere_from_Any P [] h = absurd (omega (arith, h.2))
somewhere_from_Any P (x ∷ xs) (zero, y, l, e, h) = inl (subst P (sym e) h)
somewhere_from_Any P (x ∷ xs) (suc k, y, l, e, h) = inr (somewhere_from_Any P xs (k, y, omega arith, e, h))

-- R holds of each element and each later one
abbrev pub Pairs : {X : Type 0} → (X → X → Type 0) → List X → Type 0
Pairs R [] = Unit {0}
Pairs R (x ∷ xs) = Every (R x) xs × Pairs R xs

-- what holds of each two, in the light of a fact of each
pub Pairs-weaker : {X : Type 0} (P : X → Type 0) (R S : X → X → Type 0) (xs : List X) → ((x y : X) → P x → P y → R x y → S x y) → Every P xs → Pairs R xs → Pairs S xs
Pairs-weaker P R S [] f h k = tt
Pairs-weaker P R S (x ∷ xs) f h k =
    (Every-weaker (λ y. P y × R x y) (S x) xs (λ y b. f x y h.0 b.0 b.1) (Every-both P (R x) xs h.1 k.0), Pairs-weaker P R S xs f h.1 k.1)

pub Pairs-append : {X : Type 0} (R : X → X → Type 0) (xs ys : List X) → Pairs R xs → Pairs R ys → Every (λ x. Every (R x) ys) xs → Pairs R (xs ++ ys)
Pairs-append R [] ys h k l = k
Pairs-append R (x ∷ xs) ys h k l =
    (Every-append (R x) xs ys h.0 l.0, Pairs-append R xs ys h.1 k l.1)

pub AllPairs-from_pairs : {X : Type 0} (R : X → X → Type 0) (xs : List X) → Pairs R xs → AllPairs R xs
AllPairs-from_pairs R [] h i j d below within = absurd (omega arith)
AllPairs-from_pairs R (x ∷ xs) h i zero d below within = absurd (omega arith)
AllPairs-from_pairs R (x ∷ xs) h zero (suc j) d below within =
    All-from_recursion (R x) xs h.0 j d (omega arith)
AllPairs-from_pairs R (x ∷ xs) h (suc i) (suc j) d below within =
    AllPairs-from_pairs R xs h.1 i j d (omega arith) (omega arith)

pub Every-flat_map : {X Y : Type 0} (P : Y → Type 0) (f : X → List Y) (xs : List X) → Every (λ x. Every P (f x)) xs → Every P (flat_map f xs)
Every-flat_map P f [] h = tt
Every-flat_map P f (x ∷ xs) h = Every-append P (f x) (flat_map f xs) h.0 (Every-flat_map P f xs h.1)

pub Somewhere-flat_map : {X Y : Type 0} (P : Y → Type 0) (f : X → List Y) (xs : List X) → Somewhere (λ x. Somewhere P (f x)) xs → Somewhere P (flat_map f xs)
Somewhere-flat_map P f [] h = absurd h
Somewhere-flat_map P f (x ∷ xs) (inl h) = Somewhere-append_left P (f x) (flat_map f xs) h
Somewhere-flat_map P f (x ∷ xs) (inr h) = Somewhere-append_right P (f x) (flat_map f xs) (Somewhere-flat_map P f xs h)

-- each of these stands in R to each of the later lists
pub later_lists : {X Y : Type 0} (R : Y → Y → Type 0) (f : X → List Y) (us : List Y) (xs : List X) → Every (λ y. Every (λ u. Every (R u) (f y)) us) xs → Every (λ u. Every (R u) (flat_map f xs)) us
later_lists R f [] xs h = tt
later_lists R f (u ∷ us) xs h = (
  Every-flat_map (R u) f xs (Every-weaker (λ y. Every (λ v. Every (R v) (f y)) (u ∷ us)) (λ y. Every (R u) (f y)) xs (λ y k. k.0) h),
  later_lists R f us xs (Every-weaker (λ y. Every (λ v. Every (R v) (f y)) (u ∷ us)) (λ y. Every (λ v. Every (R v) (f y)) us) xs (λ y k. k.1) h),
)

-- what stands in R within each list, and from list to list
pub Pairs-flat_map : {X Y : Type 0} (R : Y → Y → Type 0) (f : X → List Y) (xs : List X) → Every (λ x. Pairs R (f x)) xs → Pairs (λ x y. Every (λ u. Every (R u) (f y)) (f x)) xs → Pairs R (flat_map f xs)
Pairs-flat_map R f [] h k = tt
Pairs-flat_map R f (x ∷ xs) h k =
    Pairs-append R (f x) (flat_map f xs) h.0 (Pairs-flat_map R f xs h.1 k.1) (later_lists R f (f x) xs k.0)

-- the functions of two steps as one
pub flat_map-map : {X Y Z : Type 0} (f : Y → List Z) (g : X → Y) (xs : List X) → flat_map f (map g xs) ≡ flat_map (λ x. f (g x)) xs
flat_map-map f g [] = refl
flat_map-map f g (x ∷ xs) = ap (λ ys. f (g x) ++ ys) (flat_map-map f g xs)

pub Contains-from_somewhere : {X : Type 0} (x : X) (xs : List X) → Somewhere (λ y. y ≡ x) xs → Contains xs x
Contains-from_somewhere x xs h =
    let a = Any-from_somewhere (λ y. y ≡ x) xs h in
    (a.0, a.2, subst (λ z. get_or xs a.0 z ≡ z) a.4 a.3)

pub somewhere_from_Contains : {X : Type 0} (x : X) (xs : List X) → Contains xs x → Somewhere (λ y. y ≡ x) xs
somewhere_from_Contains x xs h = somewhere_from_Any (λ y. y ≡ x) xs (h.0, x, h.1, h.2, refl)

pub Every-all : {X : Type 0} (P : X → Type 0) (xs : List X) → ((x : X) → P x) → Every P xs
Every-all P [] f = tt
Every-all P (x ∷ xs) f = (f x, Every-all P xs f)

-- what holds of an element that is among the list
pub Somewhere-same : {X : Type 0} (P : X → Type 0) (x : X) (xs : List X) → P x → Somewhere (λ y. y ≡ x) xs → Somewhere P xs
Somewhere-same P x [] p h = absurd h
Somewhere-same P x (y ∷ xs) p (inl e) = inl (subst P (sym e) p)
Somewhere-same P x (y ∷ xs) p (inr h) = inr (Somewhere-same P x xs p h)

pub Every-contained : {X : Type 0} (xs : List X) → Every (Contains xs) xs
Every-contained xs = recursion_from_All (Contains xs) xs (All-contains_itself xs)

pub Contains-map : {X Y : Type 0} (f : X → Y) (xs : List X) (x : X) → Contains xs x → Contains (map f xs) (f x)
Contains-map f xs x h =
    Contains-from_somewhere (f x) (map f xs)
    (Somewhere-map (λ y. y ≡ f x) f xs (Somewhere-weaker (λ y. Unit {0}) (λ y. y ≡ x) (λ y. f y ≡ f x) xs (λ y u e. ap f e) (Every-all (λ y. Unit {0}) xs (λ y. tt)) (somewhere_from_Contains x xs h)))
