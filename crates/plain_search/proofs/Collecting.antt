-- What is kept of the parts of a tree adds up.
use Rattle.std.proofs.Common.{◌≡◌, ℕ, ◌+◌, ◌<◌, ◌≤◌, Bool, List, [], ◌∷◌, ◌++◌, length, max, true, false, cond, filter, sum_by, Contains, get_or, take, map, append_assoc, sym, refl, ap, ◌∙◌, subst, arith}
use Rattle.std.specs.List.{flat_map}
use Rattle.std.specs.List.Sorted.{IsPermutation}
use Rattle.std.proofs.lemmas.Bool.Decides.{nat_tests}
use Rattle.std.proofs.lemmas.List.{append-nil, get_or-map, length-map, take_all, take_more}
use Rattle.std.proofs.lemmas.List.Elements.{All-nil, All-append, All-weaker, All-contains_itself, Contains-append_left, Contains-append_right, filter-append}
use Rattle.std.proofs.lemmas.List.Sorted.{IsPermutation-map, IsPermutation-sym}
use Rattle.std.proofs.lemmas.List.Sums.{sum_by-append}
use Rattle.cell_split.specs.declared.cell.Cell.{Cell}
use Rattle.cell_split.specs.declared.cell.Task.{Task}
use Rattle.cell_split.specs.declared.verdict.Leaf.{Leaf}
use Rattle.cell_split.specs.Verdicts.{is_split, is_refuted}
use Rattle.cell_split.specs.Judges.{Content, IsTask}
use Rattle.cell_split.specs.Split.{children_of}
use Rattle.cell_split.specs.Tree.{child_tasks, task_of, leaf_of, leaves}
use Rattle.cell_split.specs.Entries.{last_ordinal, refuted_ordinal}
use Rattle.cell_split.proofs.Every.{Every}
use Rattle.cell_split.proofs.TreeLemmas.{leaves_of_leaf, leaves_of_split}
use Rattle.cell_split.proofs.LeafLemmas.{IsUnder, leaves_under}
use Rattle.plain_search.specs.declared.quarters.Quarter.{Quarter}
use Rattle.plain_search.specs.Harvests.{is_above}
use Rattle.plain_search.specs.Quarters.{cells_of}
use Rattle.plain_search.specs.Collected.{Collects}
use Rattle.plain_search.proofs.Greatest.{greatest-append}
use Rattle.plain_search.proofs.Reordered.{contained_reordered, greatest_reordered, weight_reordered}

-- the leaves below a task have no greater rank than its cell
pub refuted_ordinal-below : (t : Task) (xs : List Leaf) → Every (IsUnder t) xs → refuted_ordinal xs ≤ t.cell.last + 1
refuted_ordinal-below t [] below = omega arith
refuted_ordinal-below t (x ∷ xs) below =
    let h = refuted_ordinal-below t xs below.1 in
    let last = below.0.inside.last in
    elim (is_refuted x.verdict) as (λ b. max (cond b (last_ordinal x) 0) (refuted_ordinal xs) ≤ t.cell.last + 1) [ true ↦ omega arith | false ↦ omega arith ]

-- where the task's last rank is at most the rank of its problem, no leaf below it is above that
pub none_above : (ordinals : ℕ → ℕ) (t : Task) (xs : List Leaf) → Every (IsUnder t) xs → t.cell.last < ordinals t.problem → filter (is_above ordinals) xs ≡ []
none_above ordinals t [] below known = refl
none_above ordinals t (x ∷ xs) below known =
    let problem = below.0.same in
    let last = below.0.inside.last in
    let same : ordinals x.task.problem ≡ ordinals t.problem = ap ordinals problem in
    let out : is_above ordinals x ≡ false = grind (arith, nat_tests) in
    rw out (none_above ordinals t xs below.1 known)

-- the weights of two lists behind each other
pub weight-append : (weight : Leaf → ℕ) (test : Leaf → Bool) (as' bs xs ys : List Leaf) → sum_by weight (filter test as') ≡ sum_by weight (filter test xs) → sum_by weight (filter test bs) ≡ sum_by weight (filter test ys)
    → sum_by weight (filter test (as' ++ bs)) ≡ sum_by weight (filter test (xs ++ ys))
weight-append weight test as' bs xs ys first second =
    let left = ap (sum_by weight) (filter-append test as' bs) ∙ sum_by-append weight (filter test as') (filter test bs) in
    let right = ap (sum_by weight) (filter-append test xs ys) ∙ sum_by-append weight (filter test xs) (filter test ys) in
    omega (arith, left, right, first, second)

-- nothing to search
pub collects-none : (k w : ℕ) (found : List Leaf) → Collects k [] w w found found
collects-none k w found = record { kept = []; behind = sym (append-nil found); ordinal = omega arith; above = λ ordinals h weight. refl; part = All-nil (Contains []) }

-- one part after another
pub collects-more : (k u v w : ℕ) (xs ys f g h : List Leaf) → Collects k xs u v f g → Collects k ys v w g h → Collects k (xs ++ ys) u w f h
collects-more k u v w xs ys f g h first second =
    let a = first.kept in
    let b = second.kept in record {
      kept = a ++ b;
      behind = second.behind ∙ (ap (λ (l : List Leaf). l ++ b) first.behind ∙ append_assoc f a b);
      ordinal = omega (arith, first.ordinal, second.ordinal, greatest-append (λ l. is_refuted l.verdict) xs ys);
      above = λ ordinals known weight. weight-append weight (is_above ordinals) a b xs ys (first.above ordinals (omega (arith, second.ordinal)) weight) (second.above ordinals known weight);
      part = All-append (Contains (xs ++ ys)) a b
          (All-weaker (Contains xs) (Contains (xs ++ ys)) (λ x in'. Contains-append_left xs ys x in') a first.part)
          (All-weaker (Contains ys) (Contains (xs ++ ys)) (λ x in'. Contains-append_right xs ys x in') b second.part);
    }

-- a task that is left out
pub collects-cut : (c : Content) (t : Task) (w : ℕ) (found : List Leaf) → IsTask c t → t.cell.last < w → Collects t.problem (leaves c t) w w found found
collects-cut c t w found is known =
    let below = leaves_under c t is in record {
      kept = [];
      behind = sym (append-nil found);
      ordinal = omega (arith, refuted_ordinal-below t (leaves c t) below);
      above = λ ordinals h weight. ap (sum_by weight) (sym (none_above ordinals t (leaves c t) below (omega arith)));
      part = All-nil (Contains (leaves c t));
    }

-- a leaf that is kept
pub collects-leaf : (c : Content) (t : Task) (u w : ℕ) (f g : List Leaf) → is_split (c.verdict t) ≡ false → u ≤ t.cell.last
    → w ≡ cond (is_refuted (c.verdict t)) (t.cell.last + 1) u → g ≡ f ++ leaf_of c t ∷ [] → Collects t.problem (leaves c t) u w f g
collects-leaf c t u w f g leaf low is behind =
    let P : List Leaf → Type 0 = λ all. Collects t.problem all u w f g in
    subst P (sym (leaves_of_leaf c t leaf)) (record {
      kept = leaf_of c t ∷ [];
      behind = behind;
      ordinal = is ∙ elim (is_refuted (c.verdict t)) as (λ b. cond b (t.cell.last + 1) u ≡ max u (max (cond b (t.cell.last + 1) 0) 0)) [ true ↦ omega arith | false ↦ omega arith ];
      above = λ ordinals h weight. refl;
      part = All-contains_itself (leaf_of c t ∷ []);
    })

-- all children of a task that is split, for the task
pub collects-split : (c : Content) (t : Task) (cells : List Cell) (i u w : ℕ) (f g : List Leaf) → is_split (c.verdict t) ≡ true → cells ≡ children_of t.cell → length cells ≤ i
    → Collects t.problem (flat_map (leaves c) (map (task_of t.problem) (take i cells))) u w f g → Collects t.problem (leaves c t) u w f g
collects-split c t cells i u w f g split same end all =
    let P : List Leaf → Type 0 = λ below. Collects t.problem below u w f g in
    let e : take i cells ≡ children_of t.cell = take_all i cells end ∙ same in
    subst P (sym (leaves_of_split c t split)) (subst P (ap (λ (l : List Cell). flat_map (leaves c) (map (task_of t.problem) l)) e) all)

-- the leaves of one child more
pub leaves_more : (c : Content) (k : ℕ) (cells : List Cell) (cell : Cell)
    → flat_map (leaves c) (map (task_of k) (cells ++ cell ∷ [])) ≡ flat_map (leaves c) (map (task_of k) cells) ++ leaves c (task_of k cell)
leaves_more c k [] cell = append-nil (leaves c (task_of k cell))
leaves_more c k (d ∷ cells) cell =
    ap (λ (l : List Leaf). leaves c (task_of k d) ++ l) (leaves_more c k cells cell) ∙ sym (append_assoc (leaves c (task_of k d)) (flat_map (leaves c) (map (task_of k) cells)) (leaves c (task_of k cell)))

-- the next child
pub collects-child : (c : Content) (k u v w i : ℕ) (cells : List Cell) (d : Cell) (f g h : List Leaf) → i < length cells
    → Collects k (flat_map (leaves c) (map (task_of k) (take i cells))) u v f g → Collects k (leaves c (task_of k (get_or cells i d))) v w g h
    → Collects k (flat_map (leaves c) (map (task_of k) (take (i + 1) cells))) u w f h
collects-child c k u v w i cells d f g h inside before now =
    let P : List Leaf → Type 0 = λ all. Collects k all u w f h in
    subst P (sym (ap (λ (l : List Cell). flat_map (leaves c) (map (task_of k) l)) (take_more cells i d inside) ∙ leaves_more c k (take i cells) (get_or cells i d)))
    (collects-more k u v w (flat_map (leaves c) (map (task_of k) (take i cells))) (leaves c (task_of k (get_or cells i d))) f g h before now)

-- the parts in another order
pub collects-reordered : {X : Type 0} (part : X → List Leaf) (k u w : ℕ) (xs ys : List X) (f g : List Leaf) → IsPermutation xs ys → Collects k (flat_map part xs) u w f g → Collects k (flat_map part ys) u w f g
collects-reordered part k u w xs ys f g same all =
    let greatest = greatest_reordered part (λ l. is_refuted l.verdict) xs ys same in
    record {
      kept = all.kept;
      behind = all.behind;
      ordinal = omega (arith, all.ordinal, greatest);
      above = λ ordinals known weight. all.above ordinals known weight ∙ weight_reordered part weight (is_above ordinals) xs ys same;
      part = contained_reordered part xs ys all.kept same all.part;
    }

-- the next quarter
pub collects-quarter : (c : Content) (k u v w i : ℕ) (items : List Quarter) (q : Quarter) (f g h : List Leaf) → i < length items
    → Collects k (flat_map (leaves c) (map (task_of k) (take i (cells_of items)))) u v f g → Collects k (leaves c (task_of k (get_or items i q).cell)) v w g h
    → Collects k (flat_map (leaves c) (map (task_of k) (take (i + 1) (cells_of items)))) u w f h
collects-quarter c k u v w i items q f g h inside before now =
    let cell : Quarter → Cell = λ q. q.cell in
    let P : Cell → Type 0 = λ d. Collects k (leaves c (task_of k d)) v w g h in
    collects-child c k u v w i (cells_of items) q.cell f g h (omega (arith, inside, length-map items cell)) before
    (subst P (sym (get_or-map cell items i q q.cell inside)) now)

-- all quarters of a task that is split, for the task
pub collects-quarters : (c : Content) (t : Task) (items : List Quarter) (i u w : ℕ) (f g : List Leaf) → is_split (c.verdict t) ≡ true → IsPermutation (children_of t.cell) (cells_of items) → length items ≤ i
    → Collects t.problem (flat_map (leaves c) (map (task_of t.problem) (take i (cells_of items)))) u w f g → Collects t.problem (leaves c t) u w f g
collects-quarters c t items i u w f g split same end all =
    let cells = cells_of items in
    let tasks = map (task_of t.problem) cells in
    let Q : List Leaf → Type 0 = λ below. Collects t.problem below u w f g in
    let P : List Cell → Type 0 = λ l. Collects t.problem (flat_map (leaves c) (map (task_of t.problem) l)) u w f g in
    let whole = subst P (take_all i cells (omega (arith, end, length-map items (λ (q : Quarter). q.cell)))) all in
    let order = IsPermutation-sym (child_tasks t) tasks (IsPermutation-map (task_of t.problem) (children_of t.cell) cells same) in
    subst Q (sym (leaves_of_split c t split)) (collects-reordered (leaves c) t.problem u w tasks (child_tasks t) f g order whole)
