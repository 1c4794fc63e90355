use Rattle.cell_split.proofs.TreeLemmas.{leaves-step}
use Rattle.cell_split.proofs.laws.leaves_are_those_of_the_children.Goals as goal

pub returns : goal.returns
returns c = leaves-step
