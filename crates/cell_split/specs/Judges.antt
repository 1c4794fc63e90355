-- What a judge stands for, and its law.
use Rattle.std.specs.Prelude.{◌≡◌, ℕ, ◌<◌, true, false}
use Rattle.cell_split.specs.declared.cell.Cell.{Cell}
use Rattle.cell_split.specs.declared.cell.Task.{Task}
use Rattle.cell_split.specs.declared.verdict.Verdict.{Verdict}
use Rattle.cell_split.specs.Cells.{IsCellOf, IsRoot, is_smallest}
use Rattle.cell_split.specs.Verdicts.{is_open, is_split}

-- how many problems there are, the root that they share, and the verdict of each task
pub record Content : Type 0 where
  pub problems : ℕ
  pub root : Cell
  pub verdict : Task → Verdict

-- a well-formed cell of the root, for one of the problems
pub record IsTask (c : Content) (t : Task) : Type 0 where
  pub known : t.problem < c.problems
  pub cell : IsCellOf c.root t.cell

-- a smallest cell is never split, and only a smallest cell is open
pub record IsLawful (c : Content) : Type 0 where
  pub root : IsRoot c.root
  pub ends : (t : Task) → IsTask c t → is_smallest t.cell ≡ true → is_split (c.verdict t) ≡ false
  pub open_last : (t : Task) → IsTask c t → is_open (c.verdict t) ≡ true → is_smallest t.cell ≡ true
