-- Judges made of judges: one that answers for a problem as another one does for a problem of its own has that one's tree.
use Rattle.std.specs.Prelude.{◌≡◌, ℕ, ◌<◌, map}
use Rattle.cell_split.specs.declared.cell.Cell.{Cell}
use Rattle.cell_split.specs.declared.verdict.Leaf.{Leaf}
use Rattle.cell_split.specs.Cells.{IsCellOf, IsRoot}
use Rattle.cell_split.specs.Entries.{entry_of, refuted_ordinal}
use Rattle.cell_split.specs.Judges.{Content, IsLawful}
use Rattle.cell_split.specs.Tree.{leaves, root_task, task_of}

-- For problem j one judge answers as the other does for problem k: over the same root, each cell has the same verdict.
pub record AnswersAs (c : Content) (j : ℕ) (other : Content) (k : ℕ) : Type 0 where
  pub same_root : c.root ≡ other.root
  pub same_verdicts : (cell : Cell) → IsCellOf other.root cell → c.verdict (task_of j cell) ≡ other.verdict (task_of k cell)

-- the same cell and verdict, for problem j
abbrev pub renumbered : ℕ → Leaf → Leaf
renumbered j l = record { task = task_of j l.task.cell; verdict = l.verdict }

-- Problem j of one judge has the leaves of the other's problem k, in the same order, and so its refuted rank and its entry.
pub record HasTreeOf (c : Content) (j : ℕ) (other : Content) (k : ℕ) : Type 0 where
  pub same_leaves : leaves c (root_task c j) ≡ map (renumbered j) (leaves other (root_task other k))
  pub same_refuted : refuted_ordinal (leaves c (root_task c j)) ≡ refuted_ordinal (leaves other (root_task other k))
  pub same_entry : entry_of (leaves c (root_task c j)) ≡ entry_of (leaves other (root_task other k))

-- a judge's problem has the tree of the problem that it answers as
abbrev pub RenumberedTreesAreTheSame : Type 0
RenumberedTreesAreTheSame =
    (c other : Content) → IsLawful other → (j k : ℕ) → AnswersAs c j other k → HasTreeOf c j other k

-- for problem j the judge answers as some lawful judge does for one of its problems
pub record AnswersLawfully (c : Content) (j : ℕ) : Type 0 where
  pub other : Content
  pub lawful : IsLawful other
  pub k : ℕ
  pub known : k < other.problems
  pub same : AnswersAs c j other k

-- a judge over a root whose problems are all those of lawful judges is lawful
abbrev pub JudgesOfLawfulOnesAreLawful : Type 0
JudgesOfLawfulOnesAreLawful =
    (c : Content) → IsRoot c.root → ((j : ℕ) → j < c.problems → AnswersLawfully c j) → IsLawful c
