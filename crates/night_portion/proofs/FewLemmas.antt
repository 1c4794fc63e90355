-- A lawful judge's first problems are those of a lawful judge.
use Rattle.std.specs.Prelude.{◌≤◌, ℕ, refl}
use Rattle.std.proofs.Common.{arith}
use Rattle.cell_split.specs.Judges.{Content, IsLawful}
use Rattle.cell_split.proofs.Renumbering.{judges_of_lawful_ones}
use Rattle.night_portion.specs.Few.{first_problems}

pub first_problems_are_lawful : (count : ℕ) (c : Content) → count ≤ c.problems → IsLawful c → IsLawful (first_problems count c)
first_problems_are_lawful count c few law = judges_of_lawful_ones (first_problems count c) law.root (λ j known. record {
  other = c;
  lawful = law;
  k = j;
  known = omega (arith, known, few);
  same = record { same_root = refl; same_verdicts = λ cell is. refl };
})
