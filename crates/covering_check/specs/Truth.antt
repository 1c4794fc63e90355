-- What an entry that a line shows rests on: verdicts of the judge alone, whoever made the line.
use Rattle.std.specs.Prelude.{◌≡◌, ℕ, ◌<◌, ◌≤◌, false, List, All, Any, Ok}
use Rattle.plane_edges.specs.Plane.{Place}
use Rattle.cell_split.specs.declared.verdict.Entry.{Entry}
use Rattle.cell_split.specs.declared.verdict.Leaf.{Leaf}
use Rattle.cell_split.specs.Entries.{entry_of, refuted_ordinal}
use Rattle.cell_split.specs.Judges.{Content, IsLawful, IsTask}
use Rattle.cell_split.specs.Laws.{Covers}
use Rattle.cell_split.specs.Verdicts.{is_split}
use Rattle.covering_check.specs.Checks.{shown_of}

-- a cell of the root with the judge's verdict on this problem, which isn't split
pub record IsJudged (c : Content) (problem : ℕ) (l : Leaf) : Type 0 where
  pub task : IsTask c l.task
  pub same : l.task.problem ≡ problem
  pub judged : l.verdict ≡ c.verdict l.task
  pub whole : is_split l.verdict ≡ false

-- The entry is that of judged cells which have each place of the root at each rank above the greatest refuted one.
pub record IsShown (c : Content) (problem : ℕ) (e : Entry) : Type 0 where
  pub cells : List Leaf
  pub judged : All (IsJudged c problem) cells
  pub cover : (place : Place) (rank : ℕ) → refuted_ordinal cells ≤ rank → Covers place rank c.root → Any (λ l. Covers place rank l.task.cell) cells
  pub entry : e ≡ entry_of cells

-- every entry that a line shows is of that kind
abbrev pub AcceptedLinesAreTrue : Type 0
AcceptedLinesAreTrue =
    (c : Content) → IsLawful c → (problem : ℕ) → problem < c.problems → (column day line : List ℕ) (e : Entry) →
    shown_of c problem column day line ≡ Ok e → IsShown c problem e
