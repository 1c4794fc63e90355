-- A judge made of judges over one root, each of seven problems.
use Rattle.std.specs.Prelude.{◌≡◌, ℕ, ◌+◌, ◌*◌, ◌/◌, ◌%◌, ◌<◌, pos, List, length, slice_index_or, All}
use Rattle.cell_split.specs.declared.verdict.Verdict.TheVariants.{Outside}
use Rattle.cell_split.specs.Cells.{root_at}
use Rattle.cell_split.specs.Judges.{Content, IsLawful}
use Rattle.cell_split.specs.Renumbered.{HasTreeOf}
use Rattle.cell_split.specs.Tree.{task_of}

-- a judge of no problem
abbrev pub nobody : Content
nobody = record { problems = 0; root = root_at (pos 0) (pos 0); verdict = λ t. Outside }

-- the judge of this number; past the last one nobody is asked
abbrev pub judge_at : List Content → ℕ → Content
judge_at judges i = slice_index_or judges i nobody

-- problem 7 i + k is problem k of judge i
abbrev pub set_content : List Content → Content
set_content judges = record {
  problems = 7 * length judges;
  root = (judge_at judges 0).root;
  verdict = λ t. (judge_at judges (t.problem / 7)).verdict (task_of (t.problem % 7) t.cell);
}

-- a judge of seven problems over the root of the first
pub record IsAlike (judges : List Content) (c : Content) : Type 0 where
  pub seven : c.problems ≡ 7
  pub same_root : c.root ≡ (judge_at judges 0).root

abbrev pub AreAlike : List Content → Type 0
AreAlike judges = All (IsAlike judges) judges

-- each judge's problems have their own trees
abbrev pub SetsHaveTheirOwnTrees : Type 0
SetsHaveTheirOwnTrees =
    (judges : List Content) → AreAlike judges → All IsLawful judges → (i k : ℕ) → i < length judges → k < 7 →
    HasTreeOf (set_content judges) (7 * i + k) (judge_at judges i) k
