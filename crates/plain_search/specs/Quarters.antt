-- Quarters with their verdicts.
use Rattle.std.specs.Prelude.{◌≡◌, ℕ, List, map}
use Rattle.cell_split.specs.declared.cell.Cell.{Cell}
use Rattle.cell_split.specs.Judges.{Content}
use Rattle.cell_split.specs.Tree.{task_of}
use Rattle.plain_search.specs.declared.quarters.Quarter.{Quarter}

abbrev pub cells_of : List Quarter → List Cell
cells_of quarters = map (λ q. q.cell) quarters

-- the quarter has the verdict of its task for this problem
pub record IsJudged (c : Content) (problem : ℕ) (q : Quarter) : Type 0 where
  pub is : q.verdict ≡ c.verdict (task_of problem q.cell)
