-- What the search needs of a tree.
use Rattle.std.proofs.Common.{◌≡◌, ℕ, ◌<◌, List, length, get_or, sym, subst, arith}
use Rattle.std.specs.List.Sorted.{IsPermutation}
use Rattle.std.proofs.lemmas.List.{get_or-map, length-map}
use Rattle.std.proofs.lemmas.List.Elements.{All-from_recursion}
use Rattle.std.proofs.lemmas.List.Sorted.{All-permutation}
use Rattle.cell_split.specs.declared.cell.Cell.{Cell}
use Rattle.cell_split.specs.declared.cell.Task.{Task}
use Rattle.cell_split.specs.Judges.{Content, IsTask}
use Rattle.cell_split.specs.Laws.{IsChildOf}
use Rattle.cell_split.specs.Split.{children_of}
use Rattle.cell_split.specs.Tree.{task_of, levels}
use Rattle.cell_split.proofs.LeafLemmas.{children_are}
use Rattle.plain_search.specs.declared.quarters.Quarter.{Quarter}
use Rattle.plain_search.specs.Quarters.{cells_of}

-- a child of a task is a task, with fewer levels below it
pub child_at : (c : Content) (t : Task) (cells : List Cell) (i : ℕ) (d : Cell) → IsTask c t → cells ≡ children_of t.cell → i < length cells
    → IsTask c (task_of t.problem (get_or cells i d)) × (levels (get_or cells i d) < levels t.cell)
child_at c t cells i d is same inside =
    let P : List Cell → Type 0 = λ l. (i : ℕ) (d : Cell) → i < length l → IsChildOf c.root t.cell (get_or l i d) in
    let child = subst P (sym same) (All-from_recursion (IsChildOf c.root t.cell) (children_of t.cell) (children_are c.root t.cell is.cell)) i d inside in
    (record { known = is.known; cell = child.is_cell }, child.falls)

-- the same wherever the child stands
pub child_in : (c : Content) (t : Task) (cells : List Cell) (i : ℕ) (d : Cell) → IsTask c t → IsPermutation (children_of t.cell) cells → i < length cells
    → IsTask c (task_of t.problem (get_or cells i d)) × (levels (get_or cells i d) < levels t.cell)
child_in c t cells i d is same inside =
    let P = IsChildOf c.root t.cell in
    let child = All-permutation P (children_of t.cell) cells same (All-from_recursion P (children_of t.cell) (children_are c.root t.cell is.cell)) i d inside in
    (record { known = is.known; cell = child.is_cell }, child.falls)

-- a quarter of a task, wherever it stands
pub quarter_at : (c : Content) (t : Task) (items : List Quarter) (i : ℕ) (q : Quarter) → IsTask c t → IsPermutation (children_of t.cell) (cells_of items) → i < length items
    → IsTask c (task_of t.problem (get_or items i q).cell) × (levels (get_or items i q).cell < levels t.cell)
quarter_at c t items i q is same inside =
    let cell : Quarter → Cell = λ q. q.cell in
    subst (λ (d : Cell). IsTask c (task_of t.problem d) × (levels d < levels t.cell)) (get_or-map cell items i q q.cell inside)
    (child_in c t (cells_of items) i q.cell is same (omega (arith, inside, length-map items cell)))
