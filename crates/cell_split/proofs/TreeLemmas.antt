-- The tree ends, and the leaves of a split task are those of its children.
use Rattle.std.proofs.Common.{◌≡◌, ℕ, zero, suc, ◌+◌, ◌-◌, ◌<◌, ◌≤◌, Bool, true, false, cond, [], ◌∷◌, ap, ◌∙◌, arith}
use Rattle.std.specs.Prelude.{flat_map}
use Rattle.cell_split.specs.declared.cell.Task.{Task}
use Rattle.cell_split.specs.Judges.{Content}
use Rattle.cell_split.specs.Split.{children_of}
use Rattle.cell_split.specs.Tree.{child_tasks, leaf_of, leaves, leaves_to, levels, task_of}
use Rattle.cell_split.specs.Verdicts.{is_split}
use Rattle.cell_split.proofs.Every.{Every-map, Every-weaker, flat_map_same}
use Rattle.cell_split.proofs.SplitLemmas.{levels_fall}

pub leaves_to-same : (n m : ℕ) (c : Content) (t : Task) → levels t.cell ≤ n → levels t.cell ≤ m → leaves_to n c t ≡ leaves_to m c t
unfolding leaves_to
leaves_to-same zero m c t h k = absurd (omega arith)
leaves_to-same (suc n) zero c t h k = absurd (omega arith)
leaves_to-same (suc n) (suc m) c t h k =
    ap (λ ls. cond (is_split (c.verdict t)) ls (leaf_of c t ∷ [])) (flat_map_same (leaves_to n c) (leaves_to m c) (child_tasks t)
    (Every-map (λ u. leaves_to n c u ≡ leaves_to m c u) (task_of t.problem) (children_of t.cell)
    (Every-weaker (λ d. levels d < levels t.cell) (λ d. leaves_to n c (task_of t.problem d) ≡ leaves_to m c (task_of t.problem d)) (children_of t.cell)
    (λ d f. leaves_to-same n m c (task_of t.problem d) (omega arith) (omega arith)) (levels_fall t.cell))))

-- the leaves of a split task are those of its children, and any other task is its own leaf
pub leaves-step : (c : Content) (t : Task) → leaves c t ≡ cond (is_split (c.verdict t)) (flat_map (leaves c) (child_tasks t)) (leaf_of c t ∷ [])
unfolding leaves leaves_to
leaves-step c t =
    ap (λ ls. cond (is_split (c.verdict t)) ls (leaf_of c t ∷ [])) (flat_map_same (leaves_to (t.cell.size + (t.cell.last - t.cell.first)) c) (leaves c) (child_tasks t)
    (Every-map (λ u. leaves_to (t.cell.size + (t.cell.last - t.cell.first)) c u ≡ leaves c u) (task_of t.problem) (children_of t.cell)
    (Every-weaker (λ d. levels d < levels t.cell) (λ d. leaves_to (t.cell.size + (t.cell.last - t.cell.first)) c (task_of t.problem d) ≡ leaves c (task_of t.problem d)) (children_of t.cell)
    (λ d f. leaves_to-same (t.cell.size + (t.cell.last - t.cell.first)) (levels d) c (task_of t.problem d) (omega arith) (omega arith)) (levels_fall t.cell))))

pub leaves_of_split : (c : Content) (t : Task) → is_split (c.verdict t) ≡ true → leaves c t ≡ flat_map (leaves c) (child_tasks t)
leaves_of_split c t split = leaves-step c t ∙ ap (λ (b : Bool). cond b (flat_map (leaves c) (child_tasks t)) (leaf_of c t ∷ [])) split

pub leaves_of_leaf : (c : Content) (t : Task) → is_split (c.verdict t) ≡ false → leaves c t ≡ leaf_of c t ∷ []
leaves_of_leaf c t leaf = leaves-step c t ∙ ap (λ (b : Bool). cond b (flat_map (leaves c) (child_tasks t)) (leaf_of c t ∷ [])) leaf
