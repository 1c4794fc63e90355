use Rattle.cell_split.proofs.Renumbering.{renumbered_trees}
use Rattle.cell_split.proofs.laws.renumbered_trees_are_the_same.Goals as goal

pub returns : goal.returns
returns c = renumbered_trees
