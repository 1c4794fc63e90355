-- Facts on tests and options that are read off their tables, and what comparisons of signed numbers mean.
use Rattle.std.proofs.Common.{◌≡◌, ◌⊎◌, inl, inr, Bool, true, false, not, ◌&&◌, ◌||◌, cond, Option, Some, None, refl, ap, arith, ◌∙◌}
use Rattle.std.specs.Prelude.{ℤ, ◌≤ℤ◌, ◌<ℤ◌, int_lt, int_le}
use Rattle.std.specs.Option.{option_or, option_map}
use Rattle.std.proofs.lemmas.Int.{ints}
use Rattle.plane_edges.specs.Plane.{xor}

abbrev pub implies : Bool → Bool → Bool
implies a b = not a || b

-- the same answer
abbrev pub same : Bool → Bool → Bool
same a b = not (xor a b)

-- a table that is true in each row
abbrev pub every : (Bool → Bool) → Bool
every f = f true && f false

pub every_at : (f : Bool → Bool) → every f ≡ true → (b : Bool) → f b ≡ true
every_at f t true = first (f true) (f false) t
  where
    first : (x y : Bool) → (x && y) ≡ true → x ≡ true
    first true y h = refl
    first false y h = h
every_at f t false = second (f true) (f false) t
  where
    second : (x y : Bool) → (x && y) ≡ true → y ≡ true
    second true y h = h
    second false y h = cc

pub by_implies : (a b : Bool) → implies a b ≡ true → a ≡ true → b ≡ true
by_implies true b h k = h
by_implies false b h k = cc

pub to_implies : (a b : Bool) → (a ≡ true → b ≡ true) → implies a b ≡ true
to_implies true b h = h refl
to_implies false b h = refl

pub by_same : (a b : Bool) → same a b ≡ true → a ≡ b
by_same true true h = refl
by_same true false h = cc
by_same false true h = cc
by_same false false h = refl

pub and_true : (a b : Bool) → a ≡ true → b ≡ true → (a && b) ≡ true
and_true true b p q = q
and_true false b p q = p

pub or_left : (a b : Bool) → a ≡ true → (a || b) ≡ true
or_left true b p = refl
or_left false b p = cc

pub or_right : (a b : Bool) → b ≡ true → (a || b) ≡ true
or_right true b p = refl
or_right false b p = p

pub or_assoc : (a b c : Bool) → ((a || b) || c) ≡ (a || (b || c))
or_assoc true b c = refl
or_assoc false b c = refl

pub or_cases : (a b : Bool) → (a || b) ≡ true → (a ≡ true) ⊎ (b ≡ true)
or_cases true b h = inl refl
or_cases false b h = inr h

pub xor_comm : (a b : Bool) → xor a b ≡ xor b a
xor_comm true true = refl
xor_comm true false = refl
xor_comm false true = refl
xor_comm false false = refl

pub by_table : (f : Bool → Bool → Bool → Bool → Bool) → every (λ a. every (λ b. every (λ c. every (f a b c)))) ≡ true
    → (a b c d : Bool) → f a b c d ≡ true
by_table f t a b c d =
    every_at (f a b c)
    (every_at (λ z. every (f a b z))
    (every_at (λ y. every (λ z. every (f a y z)))
    (every_at (λ x. every (λ y. every (λ z. every (f x y z)))) t a) b) c) d

pub and_same : (a b m : Bool) → (m ≡ true → a ≡ b) → (a && m) ≡ (b && m)
and_same a b true h = ap (λ x. x && true) (h refl)
and_same true true false h = refl
and_same true false false h = refl
and_same false true false h = refl
and_same false false false h = refl

pub and_left : (a b : Bool) → (a && b) ≡ true → a ≡ true
and_left true b h = refl
and_left false b h = h

pub and_right : (a b : Bool) → (a && b) ≡ true → b ≡ true
and_right true b h = h
and_right false b h = cc

pub and_false : (a b : Bool) → b ≡ false → (a && b) ≡ false
and_false true b h = h
and_false false b h = refl

pub false_and : (a b : Bool) → a ≡ false → (a && b) ≡ false
false_and true b h = cc
false_and false b h = refl

pub not_false : (a : Bool) → not a ≡ true → a ≡ false
not_false true h = cc
not_false false h = refl

pub not_true : (a : Bool) → not a ≡ false → a ≡ true
not_true true h = refl
not_true false h = cc

-- a test between two numbers
pub lt_true : (u v : ℤ) → u <ℤ v → int_lt u v ≡ true
lt_true u v h = grind (arith, ints)

pub lt_false : (u v : ℤ) → v ≤ℤ u → int_lt u v ≡ false
lt_false u v h = grind (arith, ints)

pub is_lt : (u v : ℤ) → int_lt u v ≡ true → u <ℤ v
is_lt u v h = omega (arith, ints)

pub is_ge : (u v : ℤ) → int_lt u v ≡ false → v ≤ℤ u
is_ge u v h = omega (arith, ints)

pub le_of_lt : (u v : ℤ) → u <ℤ v → u ≤ℤ v
le_of_lt u v h = omega (arith, ints)

pub le_true : (u v : ℤ) → u ≤ℤ v → int_le u v ≡ true
le_true u v h = grind (arith, ints)

pub is_le : (u v : ℤ) → int_le u v ≡ true → u ≤ℤ v
is_le u v h = omega (arith, ints)

pub some_when : {A : Type 0} (b : Bool) (x : A) → b ≡ true → cond b (Some x) None ≡ None → ⊥
some_when true x t e = cc
some_when false x t e = cc

pub map_none : {A B : Type 0} (f : A → B) (o : Option A) → option_map f o ≡ None → o ≡ None
map_none f None e = refl
map_none f (Some x) e = cc

pub or_none_left : {A : Type 0} (o p : Option A) → option_or o p ≡ None → o ≡ None
or_none_left None p e = refl
or_none_left (Some x) p e = cc

pub or_none_right : {A : Type 0} (o p : Option A) → option_or o p ≡ None → p ≡ None
or_none_right None p e = e
or_none_right (Some x) p e = cc

pub some_is : {A : Type 0} (b : Bool) (x y : A) → cond b (Some x) None ≡ Some y → (b ≡ true) × (x ≡ y)
some_is true x y e = (refl, cc)
some_is false x y e = cc

pub map_some : {A B : Type 0} (f : A → B) (o : Option A) (y : B) → option_map f o ≡ Some y → (x : A) × (o ≡ Some x) × (f x ≡ y)
map_some f None y e = cc
map_some f (Some x) y e = (x, refl, cc)

pub or_some : {A : Type 0} (o p : Option A) (x : A) → option_or o p ≡ Some x → (o ≡ Some x) ⊎ (p ≡ Some x)
or_some None p x e = inr e
or_some (Some y) p x e = inl e

-- a chain of options, where the first ones answered nothing
pub or_after : {A : Type 0} (o p q : Option A) → None ≡ o → q ≡ p → q ≡ option_or o p
or_after None p q h k = k
or_after (Some x) p q h k = cc

pub or_first : {A : Type 0} (o p q : Option A) (x : A) → Some x ≡ o → q ≡ Some x → q ≡ option_or o p
or_first None p q x h k = cc
or_first (Some y) p q x h k = k ∙ h

pub neither : (a b : Bool) → (a || b) ≡ false → (a ≡ false) × (b ≡ false)
neither true b h = cc
neither false b h = (refl, h)
