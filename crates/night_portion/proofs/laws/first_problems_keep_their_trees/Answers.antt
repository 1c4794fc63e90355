use Rattle.std.proofs.Common.{refl}
use Rattle.cell_split.proofs.Renumbering.{renumbered_trees}
use Rattle.night_portion.specs.Few.{first_problems}
use Rattle.night_portion.proofs.laws.first_problems_keep_their_trees.Goals as goal

pub returns : goal.returns
returns c content law count k few known =
    renumbered_trees (first_problems count content) content law k k (record { same_root = refl; same_verdicts = λ cell is. refl })
