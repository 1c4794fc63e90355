-- The leaves of a tree: where they lie, that they are apart, and that they are the tree's.
use Rattle.std.proofs.Common.{◌≡◌, ℕ, zero, suc, ◌^◌, ◌<◌, ◌≤◌, Bool, true, false, List, [], ◌∷◌, take, get_or, inl, refl, sym, ◌∙◌, subst, arith}
use Rattle.std.specs.Prelude.{◌≢◌, All, Contains, flat_map}
use Rattle.std.proofs.Math.Nat.{one-le-pow}
use Rattle.std.proofs.lemmas.Bool.{false≢true}
use Rattle.std.proofs.lemmas.Int.{ints}
use Rattle.std.proofs.lemmas.List.Elements.{All-contains, All-from_recursion}
use Rattle.plane_edges.specs.Plane.{Place}
use Rattle.cell_split.specs.declared.cell.Cell.{Cell}
use Rattle.cell_split.specs.declared.cell.Children.{Children}
use Rattle.cell_split.specs.declared.cell.Task.{Task}
use Rattle.cell_split.specs.declared.verdict.Leaf.{Leaf}
use Rattle.cell_split.specs.Cells.{IsCellOf, IsFormed, LiesIn, is_smallest}
use Rattle.cell_split.specs.Judges.{Content, IsLawful, IsTask}
use Rattle.cell_split.specs.Laws.{AreApart, Covers, IsChildOf, earlier, east, later, north, south, west}
use Rattle.cell_split.specs.Split.{children_of, split}
use Rattle.cell_split.specs.Tree.{InTree, IsLeafOf, below, child_tasks, leaf_of, leaves, levels, root_task, task_of, top}
use Rattle.cell_split.specs.Verdicts.{is_split}
use Rattle.cell_split.proofs.Every.{Contains-from_somewhere, Every, Every-both, Contains-map, Every-all, Every-contained, Every-flat_map, Every-map, Every-weaker, Pairs, Pairs-flat_map, Pairs-weaker, Somewhere, Somewhere-flat_map, Somewhere-same, Somewhere-weaker, by_test, flat_map-map, somewhere_from_Contains}
use Rattle.cell_split.proofs.SplitLemmas.{IsPart, LiesIn_refl, LiesIn_trans, children_apart, children_cover, children_parts, levels_fall, quartered}
use Rattle.cell_split.proofs.TreeLemmas.{leaves-step}

-- the children of a cell of a root
pub children_are : (root c : Cell) → IsCellOf root c → Every (IsChildOf root c) (children_of c)
children_are root c h =
    Every-weaker (λ d. IsPart c d × (levels d < levels c)) (IsChildOf root c) (children_of c)
    (λ d k. record { is_cell = record { formed = k.0.0; inside = LiesIn_trans root c d h.inside k.0.1 }; inside = k.0.1; falls = k.1 })
    (Every-both (IsPart c) (λ d. levels d < levels c) (children_of c) (children_parts c h.formed) (levels_fall c))

-- a fact K of tasks that passes from a split task to its children
abbrev pub PassesDown : Content → (Task → Type 0) → Type 0
PassesDown c K = (t : Task) → K t → is_split (c.verdict t) ≡ true → Every (λ d. K (task_of t.problem d)) (children_of t.cell)

-- induction over the tree: for a task that isn't split, and for a split task from its children
pub by_tree : (c : Content) (K : Task → Type 0) (Q : Task → List Leaf → Type 0) → PassesDown c K → ((t : Task) → K t → is_split (c.verdict t) ≡ false → Q t (leaf_of c t ∷ [])) → ((t : Task) → K t → is_split (c.verdict t) ≡ true → Every (λ d. Q (task_of t.problem d) (leaves c (task_of t.problem d))) (children_of t.cell) → Q t (flat_map (λ d. leaves c (task_of t.problem d)) (children_of t.cell))) → (n : ℕ) (t : Task) → levels t.cell ≤ n → K t → Q t (leaves c t)
by_tree c K Q down leaf split zero t small k = absurd (omega arith)
by_tree c K Q down leaf split (suc n) t small k =
    rw (leaves-step c t, flat_map-map (leaves c) (task_of t.problem) (children_of t.cell))
    (by_test (Q t) (is_split (c.verdict t)) (flat_map (λ d. leaves c (task_of t.problem d)) (children_of t.cell)) (leaf_of c t ∷ [])
    (λ e. split t k e (Every-weaker (λ d. (levels d < levels t.cell) × K (task_of t.problem d)) (λ d. Q (task_of t.problem d) (leaves c (task_of t.problem d))) (children_of t.cell)
    (λ d h. by_tree c K Q down leaf split n (task_of t.problem d) (omega (arith, h.0)) h.1)
    (Every-both (λ d. levels d < levels t.cell) (λ d. K (task_of t.problem d)) (children_of t.cell) (levels_fall t.cell) (down t k e))))
    (leaf t k))

-- the children of a task of the root are tasks of the root
pub tasks_down : (c : Content) → PassesDown c (IsTask c)
tasks_down c t k e =
    Every-weaker (IsChildOf c.root t.cell) (λ d. IsTask c (task_of t.problem d)) (children_of t.cell)
    (λ d h. record { known = k.known; cell = h.is_cell }) (children_are c.root t.cell k.cell)

not_true : (b : Bool) → (b ≡ true → ⊥) → b ≡ false
not_true true h = absurd (h refl)
not_true false h = refl

-- a split task isn't smallest
pub split_not_smallest : (c : Content) (t : Task) → IsLawful c → IsTask c t → is_split (c.verdict t) ≡ true → is_smallest t.cell ≡ false
split_not_smallest c t law k e =
    not_true (is_smallest t.cell) (λ h. false≢true (sym (law.ends t k h) ∙ e))

-- each place of a task's cell at each of its ranks is in a leaf
pub leaves_cover : (c : Content) → IsLawful c → (t : Task) → IsTask c t → (p : Place) (rank : ℕ) → Covers p rank t.cell → Somewhere (λ l. Covers p rank l.task.cell) (leaves c t)
leaves_cover c law t k p rank =
    by_tree c (IsTask c) (λ u ls. Covers p rank u.cell → Somewhere (λ l. Covers p rank l.task.cell) ls) (tasks_down c)
    (λ u v e h. inl h)
    (λ u v e each h. Somewhere-flat_map (λ l. Covers p rank l.task.cell) (λ d. leaves c (task_of u.problem d)) (children_of u.cell)
    (Somewhere-weaker (λ d. Covers p rank d → Somewhere (λ l. Covers p rank l.task.cell) (leaves c (task_of u.problem d))) (Covers p rank) (λ d. Somewhere (λ l. Covers p rank l.task.cell) (leaves c (task_of u.problem d))) (children_of u.cell)
    (λ d f g. f g) each (children_cover u.cell v.cell.formed (split_not_smallest c u law v e) p rank h)))
    (levels t.cell) t (omega arith) k

-- a leaf below a task: of the same problem, formed, and in the task's cell
pub record IsUnder (t : Task) (l : Leaf) : Type 0 where
  pub same : l.task.problem ≡ t.problem
  pub formed : IsFormed l.task.cell
  pub inside : LiesIn t.cell l.task.cell

pub leaves_under : (c : Content) (t : Task) → IsTask c t → Every (IsUnder t) (leaves c t)
leaves_under c t k =
    by_tree c (IsTask c) (λ u ls. Every (IsUnder u) ls) (tasks_down c)
    (λ u v e. (record { same = refl; formed = v.cell.formed; inside = LiesIn_refl u.cell }, tt))
    (λ u v e each. Every-flat_map (IsUnder u) (λ d. leaves c (task_of u.problem d)) (children_of u.cell)
    (Every-weaker (λ d. IsChildOf c.root u.cell d × Every (IsUnder (task_of u.problem d)) (leaves c (task_of u.problem d))) (λ d. Every (IsUnder u) (leaves c (task_of u.problem d))) (children_of u.cell)
    (λ d h. Every-weaker (IsUnder (task_of u.problem d)) (IsUnder u) (leaves c (task_of u.problem d))
    (λ l g. record { same = g.same; formed = g.formed; inside = LiesIn_trans u.cell d l.task.cell h.0.inside g.inside }) h.1)
    (Every-both (IsChildOf c.root u.cell) (λ d. Every (IsUnder (task_of u.problem d)) (leaves c (task_of u.problem d))) (children_of u.cell) (children_are c.root u.cell v.cell) each)))
    (levels t.cell) t (omega arith) k

-- what lies in cells that are apart is apart
pub AreApart-inside : (a b c d : Cell) → AreApart a b → LiesIn a c → LiesIn b d → AreApart c d
AreApart-inside a b c d (later h) k l = later (omega arith)
AreApart-inside a b c d (earlier h) k l = earlier (omega arith)
AreApart-inside a b c d (west h) k l = west (omega (arith, ints))
AreApart-inside a b c d (east h) k l = east (omega (arith, ints))
AreApart-inside a b c d (south h) k l = south (omega (arith, ints))
AreApart-inside a b c d (north h) k l = north (omega (arith, ints))

-- the leaves of two cells that are apart are apart
abbrev LeavesApart : Leaf → Leaf → Type 0
LeavesApart k l = AreApart k.task.cell l.task.cell

across : (c : Content) (problem : ℕ) (d e : Cell) → AreApart d e → Every (IsUnder (task_of problem d)) (leaves c (task_of problem d)) → Every (IsUnder (task_of problem e)) (leaves c (task_of problem e)) → Every (λ k. Every (LeavesApart k) (leaves c (task_of problem e))) (leaves c (task_of problem d))
across c problem d e a h g =
    Every-weaker (IsUnder (task_of problem d)) (λ k. Every (LeavesApart k) (leaves c (task_of problem e))) (leaves c (task_of problem d))
    (λ k u. Every-weaker (IsUnder (task_of problem e)) (LeavesApart k) (leaves c (task_of problem e))
    (λ l v. AreApart-inside d e k.task.cell l.task.cell a u.inside v.inside) g) h

pub leaves_apart : (c : Content) (t : Task) → IsTask c t → Pairs LeavesApart (leaves c t)
leaves_apart c t k =
    by_tree c (IsTask c) (λ u ls. Pairs LeavesApart ls) (tasks_down c)
    (λ u v e. (tt, tt))
    (λ u v e each. Pairs-flat_map LeavesApart (λ d. leaves c (task_of u.problem d)) (children_of u.cell) each
    (Pairs-weaker (λ d. Every (IsUnder (task_of u.problem d)) (leaves c (task_of u.problem d))) AreApart (λ d f. Every (λ k. Every (LeavesApart k) (leaves c (task_of u.problem f))) (leaves c (task_of u.problem d))) (children_of u.cell)
    (λ d f h g a. across c u.problem d f a h g)
    (Every-weaker (IsChildOf c.root u.cell) (λ d. Every (IsUnder (task_of u.problem d)) (leaves c (task_of u.problem d))) (children_of u.cell)
    (λ d h. leaves_under c (task_of u.problem d) (record { known = v.known; cell = h.is_cell })) (children_are c.root u.cell v.cell))
    (children_apart u.cell v.cell.formed)))
    (levels t.cell) t (omega arith) k

-- a cell isn't apart from itself
pub not_apart : (c : Cell) → IsFormed c → AreApart c c → ⊥
not_apart c f (later h) = omega arith
not_apart c f (earlier h) = omega arith
not_apart c f (west h) = let s : 0 < 2 ^ c.size = one-le-pow c.size 2 (omega arith) in omega (arith, ints)
not_apart c f (east h) = let s : 0 < 2 ^ c.size = one-le-pow c.size 2 (omega arith) in omega (arith, ints)
not_apart c f (south h) = let s : 0 < 2 ^ c.size = one-le-pow c.size 2 (omega arith) in omega (arith, ints)
not_apart c f (north h) = let s : 0 < 2 ^ c.size = one-le-pow c.size 2 (omega arith) in omega (arith, ints)

-- so no leaf stands twice
pub leaves_once : (c : Content) (t : Task) → IsTask c t → Pairs (λ k l. AreApart k.task.cell l.task.cell × (k ≢ l)) (leaves c t)
leaves_once c t k =
    Pairs-weaker (IsUnder t) LeavesApart (λ k l. AreApart k.task.cell l.task.cell × (k ≢ l)) (leaves c t)
    (λ k l h g a. (a, λ e. not_apart l.task.cell g.formed (subst (λ (m : Leaf). AreApart m.task.cell l.task.cell) e a)))
    (leaves_under c t k) (leaves_apart c t k)

-- the leaves below a child of a split task are among the task's
child_leaves : (c : Content) (t : Task) → is_split (c.verdict t) ≡ true → (u : Task) → Contains (child_tasks t) u → (l : Leaf) → Somewhere (λ m. m ≡ l) (leaves c u) → Somewhere (λ m. m ≡ l) (leaves c t)
child_leaves c t e u h l k =
    rw (leaves-step c t, e) (Somewhere-flat_map (λ m. m ≡ l) (leaves c) (child_tasks t)
    (Somewhere-same (λ v. Somewhere (λ m. m ≡ l) (leaves c v)) u (child_tasks t) k (somewhere_from_Contains u (child_tasks t) h)))

-- a child has its parent's problem
child_problem : (t u : Task) → Contains (child_tasks t) u → u.problem ≡ t.problem
child_problem t u h =
    All-contains (λ v. v.problem ≡ t.problem) (child_tasks t) u
    (All-from_recursion (λ v. v.problem ≡ t.problem) (child_tasks t)
    (Every-map (λ v. v.problem ≡ t.problem) (task_of t.problem) (children_of t.cell) (Every-all (λ d. t.problem ≡ t.problem) (children_of t.cell) (λ d. refl)))) h

-- the leaves below a task of the tree are among the root's
pub tree_leaves : (c : Content) (t : Task) → InTree c t → (l : Leaf) → Somewhere (λ m. m ≡ l) (leaves c t) → Somewhere (λ m. m ≡ l) (leaves c (root_task c t.problem))
tree_leaves c _ (top problem h) l k = k
tree_leaves c _ (below t u h e g) l k =
    rw (child_problem t u g) (tree_leaves c t h l (child_leaves c t e u g l k))

-- a task of the tree that isn't split is a leaf
pub tree_leaf : (c : Content) (l : Leaf) → IsLeafOf c l → Contains (leaves c (root_task c l.task.problem)) l
tree_leaf c l h =
    let own : Somewhere (λ m. m ≡ l) (leaves c l.task) = rw (leaves-step c l.task, ← h.judged, h.whole) (inl refl) in
    Contains-from_somewhere l (leaves c (root_task c l.task.problem)) (tree_leaves c l.task h.in_tree l own)

-- each leaf is a leaf of the tree
pub leaves_in_tree : (c : Content) (t : Task) → InTree c t → Every (IsLeafOf c) (leaves c t)
leaves_in_tree c t k =
    by_tree c (InTree c) (λ u ls. Every (IsLeafOf c) ls)
    (λ u v e. Every-weaker (Contains (children_of u.cell)) (λ d. InTree c (task_of u.problem d)) (children_of u.cell)
    (λ d h. below u (task_of u.problem d) v e (Contains-map (task_of u.problem) (children_of u.cell) d h)) (Every-contained (children_of u.cell)))
    (λ u v e. (record { in_tree = v; judged = refl; whole = e }, tt))
    (λ u v e each. Every-flat_map (IsLeafOf c) (λ d. leaves c (task_of u.problem d)) (children_of u.cell) each)
    (levels t.cell) t (omega arith) k

-- the root is a cell of itself, and a task of each problem
pub root_in_itself : (c : Content) → IsLawful c → IsCellOf c.root c.root
root_in_itself c law =
    let formed : IsFormed c.root = record { not_small = omega (arith, law.root.size); not_large = omega (arith, law.root.size); ordered = omega (arith, law.root.first, law.root.last); in_frame = omega (arith, law.root.last) } in
    record { formed = formed; inside = LiesIn_refl c.root }

pub root_is_task : (c : Content) → IsLawful c → (problem : ℕ) → problem < c.problems → IsTask c (root_task c problem)
root_is_task c law problem known = record { known = known; cell = root_in_itself c law }

-- a quarter of a task is a task
pub quarter_is_task : (c : Content) (t : Task) (s : Children) → IsTask c t → s ≡ split t.cell → (split t.cell).count ≡ 4
    → (i : ℕ) (d : Cell) → i < 4 → IsTask c (task_of t.problem (get_or s.cells i d))
quarter_is_task c t s is same four i d inside =
    let four' = quartered t.cell four in
    let P : Children → Type 0 = λ u. IsTask c (task_of t.problem (get_or u.cells i d)) in
    let Q : Children → Type 0 = λ u. All (IsChildOf c.root t.cell) (take u.count u.cells) in
    let child = subst Q four' (All-from_recursion (IsChildOf c.root t.cell) (children_of t.cell) (children_are c.root t.cell is.cell)) i d inside in
    subst P (sym (same ∙ four')) (record { known = is.known; cell = child.is_cell })
