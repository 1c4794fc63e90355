-- The first leaf of a kind at a rank: where it is looked for.
use Rattle.std.proofs.Common.{◌≡◌, ℕ, ◌+◌, ◌<◌, ◌≤◌, ◌↔◌, Bool, IsTrue, true, false, cond, eqb, List, [], ◌∷◌, find, get_or, length, take, Option, Some, None, ◌⊎◌, inl, inr, refl, sym, ap, ◌∙◌, subst, arith}
use Rattle.std.specs.Prelude.{◌&&◌}
use Rattle.std.specs.List.{flat_map}
use Rattle.std.specs.Option.{is_some}
use Rattle.std.proofs.lemmas.Bool.{cases_lt, false≢true}
use Rattle.std.proofs.lemmas.Bool.Decides.{nat_tests}
use Rattle.std.proofs.lemmas.List.{take_all}
use Rattle.cell_split.specs.declared.cell.Cell.{Cell}
use Rattle.cell_split.specs.declared.cell.Task.{Task}
use Rattle.cell_split.specs.declared.verdict.Leaf.{Leaf}
use Rattle.cell_split.specs.declared.verdict.Verdict.{Verdict}
use Rattle.cell_split.specs.Entries.{last_ordinal}
use Rattle.cell_split.specs.Judges.{Content, IsTask}
use Rattle.cell_split.specs.Split.{children_of}
use Rattle.cell_split.specs.Tree.{leaves, task_of}
use Rattle.cell_split.specs.Verdicts.{is_split}
use Rattle.cell_split.proofs.Every.{Every, Every-all, Every-weaker, flat_map-map}
use Rattle.cell_split.proofs.LeafLemmas.{IsUnder, leaves_under}
use Rattle.cell_split.proofs.TreeLemmas.{leaves_of_leaf, leaves_of_split}
use Rattle.covering.specs.declared.leaf_walk.Sought.{Sought}
use Rattle.covering.specs.Seeks.{fits, is_sought}
use Rattle.covering.proofs.Parts.{find-parts_found, find-parts_more}

-- the leaves of the children, in order
abbrev pub leaves_below : Content → Task → List Leaf
leaves_below c t = flat_map (λ d. leaves c (task_of t.problem d)) (children_of t.cell)

pub leaves_are_below : (c : Content) (t : Task) → is_split (c.verdict t) ≡ true → leaves c t ≡ leaves_below c t
leaves_are_below c t split = leaves_of_split c t split ∙ flat_map-map (leaves c) (task_of t.problem) (children_of t.cell)

-- the rank is none of the cell's
abbrev pub IsBeyond : ℕ → Task → Type 0
IsBeyond rank t = (rank < t.cell.first) ⊎ (t.cell.last < rank)

and_false : (a b : Bool) → b ≡ false → (a && b) ≡ false
and_false true b h = h
and_false false b h = refl

not_sought : (sought : Sought) (rank : ℕ) (t : Task) (l : Leaf) → IsBeyond rank t → IsUnder t l → is_sought sought rank l ≡ false
not_sought sought rank t l (inl early) under =
    and_false (fits sought l.verdict) (eqb (l.task.cell.last + 1) (rank + 1)) (grind (arith, nat_tests))
not_sought sought rank t l (inr late) under =
    and_false (fits sought l.verdict) (eqb (l.task.cell.last + 1) (rank + 1)) (grind (arith, nat_tests))

pub find_none : (test : Leaf → Bool) (ls : List Leaf) → Every (λ l. test l ≡ false) ls → find test ls ≡ None
find_none test [] h = refl
find_none test (l ∷ ls) h = rw h.0 (find_none test ls h.1)

-- no leaf has the ordinal 0
pub none_at_word_0 : (kind : Verdict → Bool) (ls : List Leaf) → find (λ l. kind l.verdict && eqb (last_ordinal l) 0) ls ≡ None
none_at_word_0 kind ls =
    find_none (λ l. kind l.verdict && eqb (last_ordinal l) 0) ls (Every-all (λ l. (kind l.verdict && eqb (last_ordinal l) 0) ≡ false) ls (λ l. and_false (kind l.verdict) (eqb (l.task.cell.last + 1) 0) (grind (arith, nat_tests))))

-- what is found passes, and has what each leaf has
pub found_has : (P : Leaf → Type 0) (test : Leaf → Bool) (ls : List Leaf) (l : Leaf) → Every P ls → Some l ≡ find test ls → P l × (test l ≡ true)
found_has P test [] l h e = absurd (cc)
found_has P test (x ∷ xs) l h e = step (test x) refl e (λ k. found_has P test xs l h.1 k)
  where
    step : (b : Bool) → test x ≡ b → Some l ≡ cond b (Some x) (find test xs) → (Some l ≡ find test xs → P l × (test l ≡ true)) → P l × (test l ≡ true)
    step true passes e f = let same : x ≡ l = cc in (subst P same h.0, subst (λ y. test y ≡ true) same passes)
    step false passes e f = f e

pub and_parts : (a b : Bool) → (a && b) ≡ true → (a ≡ true) × (b ≡ true)
and_parts true b h = (refl, h)
and_parts false b h = absurd (false≢true h)

-- nothing is found where the rank is none of the task's
pub none_beyond : (c : Content) (t : Task) (sought : Sought) (rank : ℕ) → IsTask c t → IsBeyond rank t → find (is_sought sought rank) (leaves c t) ≡ None
none_beyond c t sought rank is beyond =
    find_none (is_sought sought rank) (leaves c t)
    (Every-weaker (IsUnder t) (λ l. is_sought sought rank l ≡ false) (leaves c t) (λ l u. not_sought sought rank t l beyond u) (leaves_under c t is))

-- a rank that isn't the cell's is beyond it
pub beyond : (has : Bool) (rank : ℕ) (t : Task) → (IsTrue has ↔ ((t.cell.first ≤ rank) × (rank ≤ t.cell.last))) → has ≡ false → IsBeyond rank t
beyond has rank t h e =
    elim (cases_lt rank t.cell.first) [
      | inl early ↦ inl early
      | inr from ↦ elim (cases_lt t.cell.last rank) [ inl late ↦ inr late | inr to ↦ absurd (false≢true (sym e ∙ h.1 (from, to))) ]
    ]

-- a leaf that is sought is found
pub found_here : (c : Content) (t : Task) (sought : Sought) (rank : ℕ) (v : Verdict) → v ≡ c.verdict t → is_split v ≡ false → fits sought v ≡ true → t.cell.last ≡ rank → Some (record { task = t; verdict = v }) ≡ find (is_sought sought rank) (leaves c t)
found_here c t sought rank v judged leaf fit last =
    let own : leaves c t ≡ record { task = t; verdict = v } ∷ [] = leaves_of_leaf c t (sym (ap is_split judged) ∙ leaf) ∙ ap (λ (w : Verdict). record { task = t; verdict = w } ∷ []) (sym judged) in
    let same : eqb (t.cell.last + 1) (rank + 1) ≡ true = grind (arith, nat_tests) in
    rw (own, fit, same) refl

-- one that isn't sought is not
pub not_found_here : (c : Content) (t : Task) (sought : Sought) (rank : ℕ) (v : Verdict) → v ≡ c.verdict t → is_split v ≡ false → ((fits sought v ≡ true) × (t.cell.last ≡ rank → ⊥)) ⊎ (fits sought v ≡ false) → None ≡ find (is_sought sought rank) (leaves c t)
not_found_here c t sought rank v judged leaf (inl other) =
    let own : leaves c t ≡ record { task = t; verdict = v } ∷ [] = leaves_of_leaf c t (sym (ap is_split judged) ∙ leaf) ∙ ap (λ (w : Verdict). record { task = t; verdict = w } ∷ []) (sym judged) in
    let ne = other.1 in
    let same : eqb (t.cell.last + 1) (rank + 1) ≡ false = grind (arith, nat_tests) in
    rw (own, other.0, same) refl
not_found_here c t sought rank v judged leaf (inr unfit) =
    let own : leaves c t ≡ record { task = t; verdict = v } ∷ [] = leaves_of_leaf c t (sym (ap is_split judged) ∙ leaf) ∙ ap (λ (w : Verdict). record { task = t; verdict = w } ∷ []) (sym judged) in
    rw (own, unfit) refl

-- nothing is found below the children so far
abbrev pub NoneSoFar : Content → Task → Sought → ℕ → List Cell → ℕ → Type 0
NoneSoFar c t sought rank cells i =
    find (is_sought sought rank) (flat_map (λ d. leaves c (task_of t.problem d)) (take i cells)) ≡ None

-- what is found below the next child is found below the task
pub found_below : (c : Content) (t : Task) (sought : Sought) (rank : ℕ) (cells : List Cell) (i : ℕ) (d : Cell) (found : Option Leaf) → is_split (c.verdict t) ≡ true → cells ≡ children_of t.cell → i < length cells → NoneSoFar c t sought rank cells i → found ≡ find (is_sought sought rank) (leaves c (task_of t.problem (get_or cells i d))) → is_some found ≡ true → found ≡ find (is_sought sought rank) (leaves c t)
found_below c t sought rank cells i d None split same inside none e some = absurd (false≢true some)
found_below c t sought rank cells i d (Some l) split same inside none e some =
    let f : Cell → List Leaf = λ cell. leaves c (task_of t.problem cell) in
    let all = find-parts_found (is_sought sought rank) f cells i d l inside none (sym e) in
    let below = ap (λ (ds : List Cell). find (is_sought sought rank) (flat_map f ds)) same in
    sym (ap (find (is_sought sought rank)) (leaves_are_below c t split) ∙ (sym below ∙ all))

pub none_below_more : (c : Content) (t : Task) (sought : Sought) (rank : ℕ) (cells : List Cell) (i : ℕ) (d : Cell) (found : Option Leaf) → i < length cells → NoneSoFar c t sought rank cells i → found ≡ find (is_sought sought rank) (leaves c (task_of t.problem (get_or cells i d))) → is_some found ≡ false → NoneSoFar c t sought rank cells (i + 1)
none_below_more c t sought rank cells i d None inside none e some =
    find-parts_more (is_sought sought rank) (λ cell. leaves c (task_of t.problem cell)) cells i d inside none ∙ sym e
none_below_more c t sought rank cells i d (Some l) inside none e some = absurd (false≢true (sym some))

pub none_below : (c : Content) (t : Task) (sought : Sought) (rank : ℕ) (cells : List Cell) (i : ℕ) → is_split (c.verdict t) ≡ true → cells ≡ children_of t.cell → length cells ≤ i → NoneSoFar c t sought rank cells i → None ≡ find (is_sought sought rank) (leaves c t)
none_below c t sought rank cells i split same end none =
    let f : Cell → List Leaf = λ cell. leaves c (task_of t.problem cell) in
    let all : take i cells ≡ children_of t.cell = take_all i cells end ∙ same in
    sym (ap (find (is_sought sought rank)) (leaves_are_below c t split) ∙ (sym (ap (λ (ds : List Cell). find (is_sought sought rank) (flat_map f ds)) all) ∙ none))
