-- What is taken in of the parts of a tree adds up.
use Rattle.std.proofs.Common.{◌≡◌, ℕ, ◌+◌, ◌<◌, ◌≤◌, List, [], ◌∷◌, ◌++◌, length, max, Bool, true, false, cond, get_or, take, map, sym, refl, ap, ◌∙◌, subst, arith}
use Rattle.std.specs.List.{flat_map}
use Rattle.std.specs.List.Sorted.{IsPermutation}
use Rattle.std.specs.Prelude.{nat_lt, ◌&&◌}
use Rattle.std.proofs.lemmas.Bool.Decides.{nat_tests}
use Rattle.std.proofs.lemmas.List.{get_or-map, length-map, take_all, take_more}
use Rattle.std.proofs.lemmas.List.Sorted.{IsPermutation-map, IsPermutation-sym}
use Rattle.cell_split.specs.declared.cell.Cell.{Cell}
use Rattle.cell_split.specs.declared.cell.Task.{Task}
use Rattle.cell_split.specs.declared.verdict.Leaf.{Leaf}
use Rattle.cell_split.specs.Verdicts.{is_split, is_open, is_refuted}
use Rattle.cell_split.specs.Judges.{Content, IsTask}
use Rattle.cell_split.specs.Split.{children_of}
use Rattle.cell_split.specs.Tree.{child_tasks, task_of, leaves}
use Rattle.cell_split.specs.Entries.{is_open_above, last_ordinal, open_ordinal, refuted_ordinal}
use Rattle.cell_split.proofs.Every.{Every}
use Rattle.cell_split.proofs.TreeLemmas.{leaves_of_leaf, leaves_of_split}
use Rattle.cell_split.proofs.LeafLemmas.{IsUnder, leaves_under}
use Rattle.plain_search.specs.declared.quarters.Quarter.{Quarter}
use Rattle.plain_search.specs.Quarters.{cells_of}
use Rattle.plain_search.specs.TopRanks.{AreTopOrdinals, Rises, above}
use Rattle.plain_search.proofs.Collecting.{leaves_more, refuted_ordinal-below}
use Rattle.plain_search.proofs.Greatest.{greatest-append}
use Rattle.plain_search.proofs.Reordered.{greatest_reordered}

-- no leaf below a task is open above a rank that is at least the task's last
none_open : (ordinal : ℕ) (t : Task) (xs : List Leaf) → Every (IsUnder t) xs → t.cell.last < ordinal → open_ordinal ordinal xs ≡ 0
none_open ordinal t [] below known = refl
none_open ordinal t (x ∷ xs) below known =
    let last = below.0.inside.last in
    let rest = none_open ordinal t xs below.1 known in
    let low : nat_lt ordinal (last_ordinal x) ≡ false = grind (arith, nat_tests) in
    let out : is_open_above ordinal x ≡ false = rw low (and_false (is_open x.verdict)) in
    rw out (ap (max 0) rest)
  where
    and_false : (b : Bool) → (b && false) ≡ false
    and_false true = refl
    and_false false = refl

-- nothing to take in
pub rises-none : (r o : ℕ) → Rises [] r o r o
rises-none r o = record { raised = omega arith; risen = λ ordinal h. omega arith }

-- one part after another
pub rises-more : (r o s p t q : ℕ) (xs ys : List Leaf) → Rises xs r o s p → Rises ys s p t q → Rises (xs ++ ys) r o t q
rises-more r o s p t q xs ys first second = record {
  raised = omega (arith, first.raised, second.raised, greatest-append (λ l. is_refuted l.verdict) xs ys);
  risen = λ ordinal h.
      let a = first.risen ordinal (omega (arith, second.raised)) in
      let b = second.risen ordinal h in
      omega (arith, a, b, greatest-append (is_open_above ordinal) xs ys);
}

-- a task that is left out
pub rises-cut : (c : Content) (t : Task) (r o : ℕ) → IsTask c t → t.cell.last < r → Rises (leaves c t) r o r o
rises-cut c t r o is known =
    let below = leaves_under c t is in record {
      raised = omega (arith, refuted_ordinal-below t (leaves c t) below);
      risen = λ ordinal h. let none = none_open ordinal t (leaves c t) below (omega arith) in omega (arith, none);
    }

above_max : (ordinal a b : ℕ) → above ordinal (max a b) ≡ max (above ordinal a) (max (above ordinal b) 0)
above_max ordinal a b = grind (arith, nat_tests)

-- a leaf that is taken in
pub rises-leaf : (c : Content) (t : Task) (r o s p : ℕ) → is_split (c.verdict t) ≡ false → r ≤ t.cell.last
    → s ≡ cond (is_refuted (c.verdict t)) (t.cell.last + 1) r → p ≡ cond (is_open (c.verdict t)) (max o (t.cell.last + 1)) o → Rises (leaves c t) r o s p
rises-leaf c t r o s p leaf low is opened =
    let P : List Leaf → Type 0 = λ all. Rises all r o s p in
    subst P (sym (leaves_of_leaf c t leaf)) (record {
      raised = is ∙ elim (is_refuted (c.verdict t)) as (λ b. cond b (t.cell.last + 1) r ≡ max r (max (cond b (t.cell.last + 1) 0) 0)) [ true ↦ omega arith | false ↦ omega arith ];
      risen = λ ordinal h. ap (above ordinal) opened ∙ elim (is_open (c.verdict t)) as (λ b. above ordinal (cond b (max o (t.cell.last + 1)) o) ≡ max (above ordinal o) (max (cond (b && nat_lt ordinal (t.cell.last + 1)) (t.cell.last + 1) 0) 0)) [ true ↦ above_max ordinal o (t.cell.last + 1) | false ↦ omega arith ];
    })

-- all children of a task that is split, for the task
pub rises-split : (c : Content) (t : Task) (cells : List Cell) (i r o s p : ℕ) → is_split (c.verdict t) ≡ true → cells ≡ children_of t.cell → length cells ≤ i
    → Rises (flat_map (leaves c) (map (task_of t.problem) (take i cells))) r o s p → Rises (leaves c t) r o s p
rises-split c t cells i r o s p split same end all =
    let P : List Leaf → Type 0 = λ below. Rises below r o s p in
    let e : take i cells ≡ children_of t.cell = take_all i cells end ∙ same in
    subst P (sym (leaves_of_split c t split)) (subst P (ap (λ (l : List Cell). flat_map (leaves c) (map (task_of t.problem) l)) e) all)

-- the next child
pub rises-child : (c : Content) (k r o s p u q i : ℕ) (cells : List Cell) (d : Cell) → i < length cells
    → Rises (flat_map (leaves c) (map (task_of k) (take i cells))) r o s p → Rises (leaves c (task_of k (get_or cells i d))) s p u q
    → Rises (flat_map (leaves c) (map (task_of k) (take (i + 1) cells))) r o u q
rises-child c k r o s p u q i cells d inside before now =
    let P : List Leaf → Type 0 = λ all. Rises all r o u q in
    subst P (sym (ap (λ (l : List Cell). flat_map (leaves c) (map (task_of k) l)) (take_more cells i d inside) ∙ leaves_more c k (take i cells) (get_or cells i d)))
    (rises-more r o s p u q (flat_map (leaves c) (map (task_of k) (take i cells))) (leaves c (task_of k (get_or cells i d))) before now)

-- the parts in another order
pub rises-reordered : {X : Type 0} (part : X → List Leaf) (r o s p : ℕ) (xs ys : List X) → IsPermutation xs ys → Rises (flat_map part xs) r o s p → Rises (flat_map part ys) r o s p
rises-reordered part r o s p xs ys same all =
    let greatest = greatest_reordered part (λ l. is_refuted l.verdict) xs ys same in
    record {
      raised = omega (arith, all.raised, greatest);
      risen = λ ordinal h. let opens = greatest_reordered part (is_open_above ordinal) xs ys same in omega (arith, all.risen ordinal h, opens);
    }

-- the next quarter
pub rises-quarter : (c : Content) (k r o s p u q i : ℕ) (items : List Quarter) (d : Quarter) → i < length items
    → Rises (flat_map (leaves c) (map (task_of k) (take i (cells_of items)))) r o s p → Rises (leaves c (task_of k (get_or items i d).cell)) s p u q
    → Rises (flat_map (leaves c) (map (task_of k) (take (i + 1) (cells_of items)))) r o u q
rises-quarter c k r o s p u q i items d inside before now =
    let cell : Quarter → Cell = λ q. q.cell in
    let P : Cell → Type 0 = λ d. Rises (leaves c (task_of k d)) s p u q in
    rises-child c k r o s p u q i (cells_of items) d.cell (omega (arith, inside, length-map items cell)) before
    (subst P (sym (get_or-map cell items i d d.cell inside)) now)

-- all quarters of a task that is split, for the task
pub rises-quarters : (c : Content) (t : Task) (items : List Quarter) (i r o s p : ℕ) → is_split (c.verdict t) ≡ true → IsPermutation (children_of t.cell) (cells_of items) → length items ≤ i
    → Rises (flat_map (leaves c) (map (task_of t.problem) (take i (cells_of items)))) r o s p → Rises (leaves c t) r o s p
rises-quarters c t items i r o s p split same end all =
    let cells = cells_of items in
    let tasks = map (task_of t.problem) cells in
    let Q : List Leaf → Type 0 = λ below. Rises below r o s p in
    let P : List Cell → Type 0 = λ l. Rises (flat_map (leaves c) (map (task_of t.problem) l)) r o s p in
    let whole = subst P (take_all i cells (omega (arith, end, length-map items (λ (q : Quarter). q.cell)))) all in
    let order = IsPermutation-sym (child_tasks t) tasks (IsPermutation-map (task_of t.problem) (children_of t.cell) cells same) in
    subst Q (sym (leaves_of_split c t split)) (rises-reordered (leaves c) r o s p tasks (child_tasks t) order whole)

-- all leaves of a problem
pub top_ordinals : (all : List Leaf) (r o : ℕ) → Rises all 0 0 r o → AreTopOrdinals all r (above r o)
top_ordinals all r o h =
    let same : r ≡ refuted_ordinal all = omega (arith, h.raised) in
    record {
      greatest_refuted = same;
      greatest_open = let up = h.risen r (omega arith) in let none : above r 0 ≡ 0 = no_ordinal r in
          let open' : above r o ≡ open_ordinal r all = omega (arith, up, none) in open' ∙ ap (λ (w : ℕ). open_ordinal w all) same;
    }
  where
    no_ordinal : (r : ℕ) → above r 0 ≡ 0
    no_ordinal r = elim (nat_lt r 0) as (λ b. ◌≡◌ {A = ℕ} (cond b 0 0) 0) [ true ↦ refl | false ↦ refl ]
