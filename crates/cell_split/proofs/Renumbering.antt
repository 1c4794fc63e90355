-- A judge that answers as another one does has its tree.
use Rattle.std.proofs.Common.{◌≡◌, ℕ, zero, suc, ◌≤◌, max, Bool, true, false, ◌&&◌, cond, List, [], ◌∷◌, ◌++◌, map, Option, None, Some, refl, sym, ap, ◌∙◌, subst, arith}
use Rattle.std.specs.Prelude.{◌==◌, flat_map}
use Rattle.std.specs.Option.{option_map}
use Rattle.cell_split.specs.declared.cell.Cell.{Cell}
use Rattle.cell_split.specs.declared.verdict.Leaf.{Leaf}
use Rattle.cell_split.specs.declared.verdict.Verdict.{Verdict}
use Rattle.cell_split.specs.Cells.{IsCellOf}
use Rattle.cell_split.specs.Entries.{entry_by, entry_of, first_open, greatest_ordinal, is_open_above, last_ordinal, open_ordinal, refuted_ordinal}
use Rattle.cell_split.specs.Judges.{Content}
use Rattle.cell_split.specs.Laws.{IsChildOf}
use Rattle.cell_split.specs.Renumbered.{AnswersAs, JudgesOfLawfulOnesAreLawful, RenumberedTreesAreTheSame, renumbered}
use Rattle.cell_split.specs.Split.{children_of}
use Rattle.cell_split.specs.Tree.{child_tasks, leaf_of, leaves, levels, root_task, task_of}
use Rattle.cell_split.specs.Verdicts.{is_open, is_refuted, is_split}
use Rattle.cell_split.proofs.Every.{Every-weaker, flat_map-map, flat_map_same}
use Rattle.cell_split.proofs.LeafLemmas.{children_are, root_in_itself}
use Rattle.cell_split.proofs.TreeLemmas.{leaves-step}

map-append : {X Y : Type 0} (f : X → Y) (xs ys : List X) → map f (xs ++ ys) ≡ map f xs ++ map f ys
map-append f [] ys = refl
map-append f (x ∷ xs) ys = ap (λ zs. f x ∷ zs) (map-append f xs ys)

map-flat_map : {X Y Z : Type 0} (f : Y → Z) (g : X → List Y) (xs : List X) → map f (flat_map g xs) ≡ flat_map (λ x. map f (g x)) xs
map-flat_map f g [] = refl
map-flat_map f g (x ∷ xs) = map-append f (g x) (flat_map g xs) ∙ ap (λ ys. map f (g x) ++ ys) (map-flat_map f g xs)

map-choice : (f : Leaf → Leaf) (b : Bool) (xs ys : List Leaf) → map f (cond b xs ys) ≡ cond b (map f xs) (map f ys)
map-choice f true xs ys = refl
map-choice f false xs ys = refl

-- the leaves below a cell
leaves_below : (c other : Content) (j k : ℕ) → AnswersAs c j other k → (n : ℕ) (cell : Cell) → levels cell ≤ n → IsCellOf other.root cell → leaves c (task_of j cell) ≡ map (renumbered j) (leaves other (task_of k cell))
leaves_below c other j k answers zero cell small is = absurd (omega arith)
leaves_below c other j k answers (suc n) cell small is =
    let same = answers.same_verdicts cell is in
    let below : flat_map (leaves c) (child_tasks (task_of j cell)) ≡ map (renumbered j) (flat_map (leaves other) (child_tasks (task_of k cell))) =
    flat_map-map (leaves c) (task_of j) (children_of cell)
    ∙ (flat_map_same (λ d. leaves c (task_of j d)) (λ d. map (renumbered j) (leaves other (task_of k d))) (children_of cell)
    (Every-weaker (IsChildOf other.root cell) (λ d. leaves c (task_of j d) ≡ map (renumbered j) (leaves other (task_of k d))) (children_of cell)
    (λ d h. leaves_below c other j k answers n d (omega (arith, h.falls)) h.is_cell) (children_are other.root cell is))
    ∙ (sym (map-flat_map (renumbered j) (λ d. leaves other (task_of k d)) (children_of cell))
    ∙ ap (map (renumbered j)) (sym (flat_map-map (leaves other) (task_of k) (children_of cell))))) in
    let own : List Leaf = leaf_of other (task_of k cell) ∷ [] in
    leaves-step c (task_of j cell)
    ∙ (ap (λ (v : Verdict). cond (is_split v) (flat_map (leaves c) (child_tasks (task_of j cell))) (record { task = task_of j cell; verdict = v } ∷ [])) same
    ∙ (ap (λ (ls : List Leaf). cond (is_split (other.verdict (task_of k cell))) ls (map (renumbered j) own)) below
    ∙ (sym (map-choice (renumbered j) (is_split (other.verdict (task_of k cell))) (flat_map (leaves other) (child_tasks (task_of k cell))) own)
    ∙ ap (map (renumbered j)) (sym (leaves-step other (task_of k cell))))))

-- ---- what is said of leaves doesn't depend on the number of their problem

greatest_same : (test : Leaf → Bool) (j : ℕ) (ls : List Leaf) → ((l : Leaf) → test (renumbered j l) ≡ test l) → greatest_ordinal test (map (renumbered j) ls) ≡ greatest_ordinal test ls
greatest_same test j [] h = refl
greatest_same test j (l ∷ ls) h =
    ap (λ (b : Bool). max (cond b (last_ordinal l) 0) (greatest_ordinal test (map (renumbered j) ls))) (h l)
    ∙ ap (max (cond (test l) (last_ordinal l) 0)) (greatest_same test j ls h)

refuted_same : (j : ℕ) (ls : List Leaf) → refuted_ordinal (map (renumbered j) ls) ≡ refuted_ordinal ls
refuted_same j ls = greatest_same (λ l. is_refuted l.verdict) j ls (λ l. refl)

find_choice : (j : ℕ) (b : Bool) (l : Leaf) (a d : Option Leaf) → a ≡ option_map (renumbered j) d → cond b (Some (renumbered j l)) a ≡ option_map (renumbered j) (cond b (Some l) d)
find_choice j true l a d h = refl
find_choice j false l a d h = h

first_same : (j ordinal : ℕ) (ls : List Leaf) → first_open ordinal (map (renumbered j) ls) ≡ option_map (renumbered j) (first_open ordinal ls)
first_same j ordinal [] = refl
first_same j ordinal (l ∷ ls) =
    find_choice j (is_open l.verdict && (last_ordinal l == ordinal)) l (first_open ordinal (map (renumbered j) ls)) (first_open ordinal ls) (first_same j ordinal ls)

entry_same_by : (j ordinal : ℕ) (l : Option Leaf) → entry_by ordinal (option_map (renumbered j) l) ≡ entry_by ordinal l
entry_same_by j ordinal None = refl
entry_same_by j ordinal (Some l) = refl

entry_same : (j : ℕ) (ls : List Leaf) → entry_of (map (renumbered j) ls) ≡ entry_of ls
entry_same j ls =
    let ordinal = refuted_ordinal ls in
    let same : open_ordinal ordinal (map (renumbered j) ls) ≡ open_ordinal ordinal ls = greatest_same (is_open_above ordinal) j ls (λ l. refl) in
    ap (λ (w : ℕ). entry_by w (first_open (open_ordinal w (map (renumbered j) ls)) (map (renumbered j) ls))) (refuted_same j ls)
    ∙ (ap (λ (w : ℕ). entry_by ordinal (first_open w (map (renumbered j) ls))) same
    ∙ (ap (entry_by ordinal) (first_same j (open_ordinal ordinal ls) ls)
    ∙ entry_same_by j ordinal (first_open (open_ordinal ordinal ls) ls)))

pub renumbered_trees : RenumberedTreesAreTheSame
renumbered_trees c other law j k answers =
    let is : IsCellOf other.root other.root = root_in_itself other law in
    let same : leaves c (root_task c j) ≡ map (renumbered j) (leaves other (root_task other k)) =
    ap (λ (root : Cell). leaves c (task_of j root)) answers.same_root
    ∙ leaves_below c other j k answers (levels other.root) other.root (omega arith) is in
    record {
      same_leaves = same;
      same_refuted = ap refuted_ordinal same ∙ refuted_same j (leaves other (root_task other k));
      same_entry = ap entry_of same ∙ entry_same j (leaves other (root_task other k));
    }

-- ---- lawful parts make a lawful whole

pub judges_of_lawful_ones : JudgesOfLawfulOnesAreLawful
judges_of_lawful_ones c root each = record {
  root = root;
  ends = λ t task smallest.
      let part = each t.problem task.known in
      let is : IsCellOf part.other.root t.cell = subst (λ (r : Cell). IsCellOf r t.cell) part.same.same_root task.cell in
      ap is_split (part.same.same_verdicts t.cell is) ∙ part.lawful.ends (task_of part.k t.cell) (record { known = part.known; cell = is }) smallest;
  open_last = λ t task open'.
      let part = each t.problem task.known in
      let is : IsCellOf part.other.root t.cell = subst (λ (r : Cell). IsCellOf r t.cell) part.same.same_root task.cell in
      part.lawful.open_last (task_of part.k t.cell) (record { known = part.known; cell = is }) (sym (ap is_open (part.same.same_verdicts t.cell is)) ∙ open');
}
