-- What a worker needs of a tree.
use Rattle.std.proofs.Common.{◌≡◌, ℕ, zero, suc, ◌<◌, ◌≤◌, Bool, true, List, [], ◌∷◌, length, get_or, Contains, inl, inr, sym, ap, ◌∙◌, subst, arith}
use Rattle.std.specs.List.Sorted.{IsPermutation}
use Rattle.std.proofs.lemmas.List.{get_or-map, length-map}
use Rattle.std.proofs.lemmas.List.Elements.{All-contains, All-contains_itself, All-from_recursion, Contains-append_left, Contains-append_right}
use Rattle.std.proofs.lemmas.List.Sorted.{Contains-permutation, IsPermutation-sym}
use mathlib.Core.Logic.{dite}
use native.Mathlib.Decide.{ℕ_discrete}
use Rattle.cell_split.specs.declared.cell.Cell.{Cell}
use Rattle.cell_split.specs.declared.cell.Task.{Task}
use Rattle.cell_split.specs.declared.verdict.Leaf.{Leaf}
use Rattle.cell_split.specs.declared.verdict.Verdict.{Verdict}
use Rattle.cell_split.specs.Cells.{IsCell}
use Rattle.cell_split.specs.Entries.{greatest_ordinal, last_ordinal}
use Rattle.cell_split.specs.Judges.{Content, IsLawful, IsTask}
use Rattle.cell_split.specs.Split.{children_of}
use Rattle.cell_split.specs.Tree.{InTree, IsLeafOf, all_leaves, all_leaves_to, below, child_tasks, leaves, levels, root_task, task_of, top}
use Rattle.cell_split.specs.Verdicts.{is_refuted, is_split}
use Rattle.cell_split.proofs.Every.{Contains-map, Every-map, Somewhere, somewhere_from_Contains}
use Rattle.cell_split.proofs.LeafLemmas.{root_is_task, tasks_down, tree_leaf}
use Rattle.cell_split.proofs.TreeLemmas.{leaves_of_leaf}
use Rattle.plain_search.specs.declared.quarters.Quarter.{Quarter}
use Rattle.plain_search.specs.Quarters.{cells_of}
use Rattle.plain_search.proofs.TreeFacts.{child_in}
use Rattle.search_worker.specs.Owing.{IsRefutedRank}

-- what stands in the tree of a lawful judge is a task
tree_task : (c : Content) → IsLawful c → (t : Task) → InTree c t → IsTask c t
tree_task c law _ (top problem known) = root_is_task c law problem known
tree_task c law _ (below t u parent split among) =
    All-contains (IsTask c) (child_tasks t) u
    (All-from_recursion (IsTask c) (child_tasks t) (Every-map (IsTask c) (task_of t.problem) (children_of t.cell) (tasks_down c t (tree_task c law t parent) split))) among

-- the same where the judge has this content
pub asked : {c d : Content} {t : Task} → c ≡ d → IsLawful c → InTree d t → IsTask d t
asked {d} {t} same law = tree_task d (subst IsLawful same law) t

-- the cell of a task is a cell
pub is_cell : (c : Content) → IsLawful c → (t : Task) → IsTask c t → IsCell t.cell
is_cell c law t is = record { root = c.root; is_root = law.root; of_root = is.cell }

-- a child of a split task stands in the tree, and has fewer levels
pub child_in_tree : (c : Content) (t : Task) (cells : List Cell) (i : ℕ) (d : Cell) → IsTask c t → InTree c t → is_split (c.verdict t) ≡ true → IsPermutation (children_of t.cell) cells → i < length cells
    → InTree c (task_of t.problem (get_or cells i d)) × (levels (get_or cells i d) < levels t.cell)
child_in_tree c t cells i d is parent split same inside =
    let cell = get_or cells i d in
    let child = Contains-permutation cells (children_of t.cell) cell (IsPermutation-sym (children_of t.cell) cells same) (All-contains_itself cells i d inside) in
    (below t (task_of t.problem cell) parent split (Contains-map (task_of t.problem) (children_of t.cell) cell child), (child_in c t cells i d is same inside).1)

pub quarter_in_tree : (c : Content) (t : Task) (items : List Quarter) (i : ℕ) (q : Quarter) → IsTask c t → InTree c t → is_split (c.verdict t) ≡ true → IsPermutation (children_of t.cell) (cells_of items) → i < length items
    → InTree c (task_of t.problem (get_or items i q).cell) × (levels (get_or items i q).cell < levels t.cell)
quarter_in_tree c t items i q is parent split same inside =
    let cell : Quarter → Cell = λ q. q.cell in
    subst (λ (d : Cell). InTree c (task_of t.problem d) × (levels d < levels t.cell)) (get_or-map cell items i q q.cell inside)
    (child_in_tree c t (cells_of items) i q.cell is parent split same (omega (arith, inside, length-map items cell)))

abbrev leaf_with : Task → Verdict → Leaf
leaf_with task verdict = record { task = task; verdict = verdict }

-- a leaf is all that is below its task
pub leaf_alone : (c : Content) (l : Leaf) → IsLeafOf c l → leaves c l.task ≡ l ∷ []
leaf_alone c l is =
    leaves_of_leaf c l.task (ap is_split (sym is.judged) ∙ is.whole) ∙ ap (λ (v : Verdict). leaf_with l.task v ∷ []) (sym is.judged)

-- it is among the leaves of all problems
pub leaf_among : (c : Content) (l : Leaf) → IsLeafOf c l → l.task.problem < c.problems → Contains (all_leaves c) l
leaf_among c l is = among c.problems
  where
    among : (n : ℕ) → l.task.problem < n → Contains (all_leaves_to n c) l
    among zero known = absurd (omega arith)
    among (suc n) known =
        let before = all_leaves_to n c in
        let own = leaves c (root_task c n) in
        dite (ℕ_discrete l.task.problem n)
        (λ e. Contains-append_right before own l (subst (λ (m : ℕ). Contains (leaves c (root_task c m)) l) e (tree_leaf c l is)))
        (λ ne. Contains-append_left before own l (among n (omega arith)))

-- a leaf that passes has at most the greatest ordinal
at_most_greatest : (test : Leaf → Bool) (ls : List Leaf) (l : Leaf) → test l ≡ true → Somewhere (λ m. m ≡ l) ls → last_ordinal l ≤ greatest_ordinal test ls
at_most_greatest test [] l passes h = absurd h
at_most_greatest test (x ∷ xs) l passes (inl e) =
    let ordinal = ap last_ordinal e in
    rw (ap test e ∙ passes) (omega (arith, ordinal))
at_most_greatest test (x ∷ xs) l passes (inr h) =
    let rest = at_most_greatest test xs l passes h in
    omega (arith, rest)

-- where a leaf is refuted, so is its problem at its last rank
pub refuted_rank : (c : Content) (l : Leaf) → IsLeafOf c l → is_refuted l.verdict ≡ true → IsRefutedRank c l.task.problem l.task.cell.last
refuted_rank c l is refuted =
    let all = leaves c (root_task c l.task.problem) in
    at_most_greatest (λ m. is_refuted m.verdict) all l refuted (somewhere_from_Contains l all (tree_leaf c l is))
