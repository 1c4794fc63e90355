-- What is true of every cell, and of the tree of every judge.
use Rattle.std.specs.Prelude.{◌≡◌, ◌≢◌, ◌≤◌, ◌<◌, ℕ, false, ◌+ℤ◌, ◌≤ℤ◌, [], ◌∷◌, All, AllPairs, Any, Contains, flat_map, if◌then◌else◌}
use Rattle.plane_edges.specs.Plane.{Box, IsIn, Place}
use Rattle.cell_split.specs.declared.cell.Cell.{Cell}
use Rattle.cell_split.specs.declared.cell.Task.{Task}
use Rattle.cell_split.specs.declared.verdict.Leaf.{Leaf}
use Rattle.cell_split.specs.Cells.{IsCell, IsCellOf, LiesIn, is_smallest, side}
use Rattle.cell_split.specs.Judges.{Content, IsLawful}
use Rattle.cell_split.specs.Split.{children_of}
use Rattle.cell_split.specs.Tree.{IsLeafOf, child_tasks, leaf_of, leaves, levels, root_task}
use Rattle.cell_split.specs.Verdicts.{is_split}

abbrev pub box_of : Cell → Box
box_of c = record { x0 = c.x; x1 = c.x +ℤ side c; y0 = c.y; y1 = c.y +ℤ side c }

-- the place is in the cell's box, and the rank is one of its ranks
pub record Covers (place : Place) (rank : ℕ) (c : Cell) : Type 0 where
  pub in_box : IsIn (box_of c) place
  pub from_first : c.first ≤ rank
  pub to_last : rank ≤ c.last

-- two cells have no rank in common, or no place but for shared sides
pub data AreApart (a b : Cell) : Type 0 where
  later : b.last < a.first → AreApart a b
  earlier : a.last < b.first → AreApart a b
  west : (a.x +ℤ side a) ≤ℤ b.x → AreApart a b
  east : (b.x +ℤ side b) ≤ℤ a.x → AreApart a b
  south : (a.y +ℤ side a) ≤ℤ b.y → AreApart a b
  north : (b.y +ℤ side b) ≤ℤ a.y → AreApart a b

-- children are cells of the root, lie in their parent, and have fewer levels, so that the tree ends
pub record IsChildOf (root c d : Cell) : Type 0 where
  pub is_cell : IsCellOf root d
  pub inside : LiesIn c d
  pub falls : levels d < levels c

abbrev pub ChildrenLieInTheirParent : Type 0
ChildrenLieInTheirParent = (root c : Cell) → IsCellOf root c → All (IsChildOf root c) (children_of c)

-- each place of a cell at each of its ranks is in a child, but for a smallest cell
abbrev pub ChildrenCoverTheirParent : Type 0
ChildrenCoverTheirParent =
    (c : Cell) → IsCell c → is_smallest c ≡ false → (place : Place) (rank : ℕ) → Covers place rank c → Any (Covers place rank) (children_of c)

abbrev pub ChildrenAreApart : Type 0
ChildrenAreApart = (c : Cell) → IsCell c → AllPairs AreApart (children_of c)

-- the leaves of a split task are those of its children, and any other task is its own leaf
abbrev pub LeavesAreThoseOfTheChildren : Type 0
LeavesAreThoseOfTheChildren =
    (c : Content) (t : Task) → leaves c t ≡ (if is_split (c.verdict t) then flat_map (leaves c) (child_tasks t) else leaf_of c t ∷ [])

-- each place of the root at each rank is in a leaf of each problem
abbrev pub LeavesCoverTheRoot : Type 0
LeavesCoverTheRoot =
    (c : Content) → IsLawful c → (problem : ℕ) → problem < c.problems → (place : Place) (rank : ℕ) → Covers place rank c.root → Any (λ l. Covers place rank l.task.cell) (leaves c (root_task c problem))

-- the leaves of a problem are those of its tree
abbrev pub LeavesAreTheTree : Type 0
LeavesAreTheTree =
    (c : Content) (problem : ℕ) → problem < c.problems → All (IsLeafOf c) (leaves c (root_task c problem)) × ((l : Leaf) → IsLeafOf c l → l.task.problem ≡ problem → Contains (leaves c (root_task c problem)) l)

-- no leaf stands twice, and any two are apart
abbrev pub LeavesAreApart : Type 0
LeavesAreApart =
    (c : Content) → IsLawful c → (problem : ℕ) → problem < c.problems → AllPairs (λ k l. AreApart k.task.cell l.task.cell × (k ≢ l)) (leaves c (root_task c problem))
