-- The greatest ordinal of leaves that pass a test.
use Rattle.std.proofs.Common.{◌≡◌, ℕ, ◌+◌, ◌<◌, ◌≤◌, Bool, true, false, cond, eqb, ltb, List, [], ◌∷◌, ◌++◌, filter, sum_by, max, find, get_or, take, length, Option, Some, refl, sym, ap, ◌∙◌, arith}
use Rattle.std.specs.Prelude.{◌&&◌}
use Rattle.std.specs.Option.{is_some}
use Rattle.std.proofs.lemmas.Bool.{false≢true}
use Rattle.std.proofs.lemmas.Bool.Decides.{nat_tests}
use Rattle.std.proofs.lemmas.List.{take_more}
use Rattle.std.proofs.lemmas.List.Sums.{sum_by-cons}
use Rattle.std.proofs.lemmas.Option.{get_or_from_slice_get, slice_get_within}
use Rattle.std.specs.List.{slice_get}
use Rattle.cell_split.specs.declared.verdict.Leaf.{Leaf}
use Rattle.cell_split.specs.Entries.{greatest_ordinal, last_ordinal}
use Rattle.cell_split.proofs.Every.{Every, by_test}

pub greatest-append : (test : Leaf → Bool) (xs ys : List Leaf) → greatest_ordinal test (xs ++ ys) ≡ max (greatest_ordinal test xs) (greatest_ordinal test ys)
greatest-append test [] ys = omega arith
greatest-append test (x ∷ xs) ys = let h = greatest-append test xs ys in omega arith

-- one leaf more
greatest_more : (test : Leaf → Bool) (xs : List Leaf) (i : ℕ) (d : Leaf) → i < length xs → greatest_ordinal test (take (i + 1) xs) ≡ max (greatest_ordinal test (take i xs)) (cond (test (get_or xs i d)) (last_ordinal (get_or xs i d)) 0)
greatest_more test xs i d inside =
    let e = greatest-append test (take i xs) (get_or xs i d ∷ []) in
    ap (greatest_ordinal test) (take_more xs i d inside) ∙ omega arith

pub greatest_next : (test : Leaf → Bool) (xs : List Leaf) (i : ℕ) (l : Leaf) → slice_get xs i ≡ Some l → greatest_ordinal test (take (i + 1) xs) ≡ max (greatest_ordinal test (take i xs)) (cond (test l) (last_ordinal l) 0)
greatest_next test xs i l e =
    greatest_more test xs i l (slice_get_within xs i l e) ∙ ap (λ (x : Leaf). max (greatest_ordinal test (take i xs)) (cond (test x) (last_ordinal x) 0)) (get_or_from_slice_get xs i l l e)

-- two tests that agree at each leaf
pub greatest_same : (p q : Leaf → Bool) (ls : List Leaf) → Every (λ l. p l ≡ q l) ls → greatest_ordinal p ls ≡ greatest_ordinal q ls
greatest_same p q [] h = refl
greatest_same p q (l ∷ ls) h =
    ap (λ (b : Bool). max (cond b (last_ordinal l) 0) (greatest_ordinal p ls)) h.0 ∙ ap (λ (n : ℕ). max (cond (q l) (last_ordinal l) 0) n) (greatest_same p q ls h.1)

-- no leaf passes
pub greatest_none : (test : Leaf → Bool) (ls : List Leaf) → Every (λ l. test l ≡ false) ls → greatest_ordinal test ls ≡ 0
greatest_none test [] h = refl
greatest_none test (l ∷ ls) h =
    ap (λ (b : Bool). max (cond b (last_ordinal l) 0) (greatest_ordinal test ls)) h.0 ∙ let k = greatest_none test ls h.1 in omega arith

-- it is at most what bounds each leaf
pub greatest_within : (test : Leaf → Bool) (n : ℕ) (ls : List Leaf) → Every (λ l. last_ordinal l ≤ n) ls → greatest_ordinal test ls ≤ n
greatest_within test n [] h = omega arith
greatest_within test n (l ∷ ls) h =
    let k = greatest_within test n ls h.1 in
    let m = h.0 in
    elim (test l) as (λ b. max (cond b (last_ordinal l) 0) (greatest_ordinal test ls) ≤ n) [ true ↦ omega arith | false ↦ omega arith ]

-- what is above 0 is above the ordinal, where each leaf that passes is
pub greatest_above : (test : Leaf → Bool) (ordinal : ℕ) (ls : List Leaf) → ((l : Leaf) → test l ≡ true → ordinal < last_ordinal l) → 0 < greatest_ordinal test ls → ordinal < greatest_ordinal test ls
greatest_above test ordinal [] f h = absurd (omega arith)
greatest_above test ordinal (l ∷ ls) f h =
    step (test l) (last_ordinal l) (greatest_ordinal test ls) (f l) (greatest_above test ordinal ls f) h
  where
    step : (b : Bool) (last rest : ℕ) → (b ≡ true → ordinal < last) → (0 < rest → ordinal < rest) → 0 < max (cond b last 0) rest → ordinal < max (cond b last 0) rest
    step true last rest f g h = let k = f refl in omega arith
    step false last rest f g h = let k = g (omega arith) in omega arith

-- a leaf that passes has the greatest ordinal
pub greatest_found : (test : Leaf → Bool) (n : ℕ) (ls : List Leaf) → greatest_ordinal test ls ≡ n → 0 < n → is_some (find (λ l. test l && eqb (last_ordinal l) n) ls) ≡ true
greatest_found test n [] e h = absurd (omega arith)
greatest_found test n (l ∷ ls) e h =
    step (test l) (last_ordinal l) (greatest_ordinal test ls) (find (λ l. test l && eqb (last_ordinal l) n) ls) e (λ k. greatest_found test n ls k h)
  where
    step : (b : Bool) (last rest : ℕ) (o : Option Leaf) → max (cond b last 0) rest ≡ n → (rest ≡ n → is_some o ≡ true) → is_some (cond (b && eqb last n) (Some l) o) ≡ true
    step true last rest o e f =
        by_test (λ (p : Option Leaf). is_some p ≡ true) (eqb last n) (Some l) o (λ k. refl) (λ k. f (grind (arith, nat_tests)))
    step false last rest o e f = f (omega arith)

-- a leaf that passes, with a last rank above that of this ordinal, weighs 1
abbrev one_if : Bool → ℕ
one_if b = cond b 1 0

abbrev weight : (Leaf → Bool) → ℕ → Leaf → ℕ
weight test n l = one_if (test l && ltb n (last_ordinal l))

light-none : (test : Leaf → Bool) (n : ℕ) (ls : List Leaf) → greatest_ordinal test ls ≤ n → sum_by (weight test n) ls ≡ 0
light-none test n [] h = refl
light-none test n (l ∷ ls) h =
    let rest = light-none test n ls (omega arith) in
    let here = step (test l) (last_ordinal l) (greatest_ordinal test ls) h in
    sum_by-cons (weight test n) l ls ∙ omega arith
  where
    step : (b : Bool) (last rest : ℕ) → max (cond b last 0) rest ≤ n → one_if (b && ltb n last) ≡ 0
    step true last rest h = grind (arith, nat_tests)
    step false last rest h = refl

none-light : (test : Leaf → Bool) (n : ℕ) (ls : List Leaf) → sum_by (weight test n) ls ≡ 0 → greatest_ordinal test ls ≤ n
none-light test n [] h = omega arith
none-light test n (l ∷ ls) h =
    let both = sym (sum_by-cons (weight test n) l ls) ∙ h in
    let rest = none-light test n ls (omega arith) in
    step (test l) (last_ordinal l) (greatest_ordinal test ls) (omega arith) rest
  where
    step : (b : Bool) (last rest : ℕ) → one_if (b && ltb n last) ≡ 0 → rest ≤ n → max (cond b last 0) rest ≤ n
    step true last rest h k = grind (arith, nat_tests)
    step false last rest h k = omega arith

-- what weighs is among the leaves that are kept
kept_weight : (weight : Leaf → ℕ) (kept : Leaf → Bool) (ls : List Leaf) → ((l : Leaf) → kept l ≡ false → weight l ≡ 0) → sum_by weight (filter kept ls) ≡ sum_by weight ls
kept_weight weight kept [] f = refl
kept_weight weight kept (l ∷ ls) f =
    let rest = kept_weight weight kept ls f in
    step (kept l) (filter kept ls) (f l) ∙ (omega arith ∙ sym (sum_by-cons weight l ls))
  where
    step : (b : Bool) (rest : List Leaf) → (b ≡ false → weight l ≡ 0) → sum_by weight (cond b (l ∷ rest) rest) ≡ weight l + sum_by weight rest
    step true rest f = sum_by-cons weight l rest
    step false rest f = let k = f refl in omega arith

-- lists whose kept leaves weigh the same have the same greatest ordinal, where what passes is kept
pub greatest_weighed : (test kept : Leaf → Bool) (xs ys : List Leaf) → ((l : Leaf) → test l ≡ true → kept l ≡ true) → ((weight : Leaf → ℕ) → sum_by weight (filter kept xs) ≡ sum_by weight (filter kept ys)) → greatest_ordinal test xs ≡ greatest_ordinal test ys
greatest_weighed test kept xs ys f same =
    let there : greatest_ordinal test xs ≤ greatest_ordinal test ys = at_most xs ys same in
    let back : greatest_ordinal test ys ≤ greatest_ordinal test xs = at_most ys xs (λ w. sym (same w)) in
    omega arith
  where
    light : (n : ℕ) (l : Leaf) (b k : Bool) → (b ≡ true → k ≡ true) → k ≡ false → one_if (b && ltb n (last_ordinal l)) ≡ 0
    light n l true k g e = absurd (false≢true (sym e ∙ g refl))
    light n l false k g e = refl

    at_most : (as' bs : List Leaf) → ((w : Leaf → ℕ) → sum_by w (filter kept as') ≡ sum_by w (filter kept bs)) → greatest_ordinal test as' ≤ greatest_ordinal test bs
    at_most as' bs same =
        let n = greatest_ordinal test bs in
        let w = weight test n in
        let out = λ (l : Leaf). λ (e : kept l ≡ false). light n l (test l) (kept l) (f l) e in
        none-light test n as' (sym (kept_weight w kept as' out) ∙ (same w ∙ (kept_weight w kept bs out ∙ light-none test n bs (omega arith))))
