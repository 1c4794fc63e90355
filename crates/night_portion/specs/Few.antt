-- A judge's first problems.
use Rattle.std.specs.Prelude.{ℕ, ◌<◌, ◌≤◌}
use Rattle.cell_split.specs.Judges.{Content, IsLawful}
use Rattle.cell_split.specs.Renumbered.{HasTreeOf}

abbrev pub first_problems : ℕ → Content → Content
first_problems count c = record { problems = count; root = c.root; verdict = c.verdict }

-- each of them has the tree that it has for the judge of all
abbrev pub FirstProblemsKeepTheirTrees : Type 0
FirstProblemsKeepTheirTrees =
    (c : Content) → IsLawful c → (count k : ℕ) → count ≤ c.problems → k < count → HasTreeOf (first_problems count c) k c k
