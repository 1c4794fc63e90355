use Rattle.cell_split.proofs.Renumbering.{judges_of_lawful_ones}
use Rattle.cell_split.proofs.laws.judges_of_lawful_ones_are_lawful.Goals as goal

pub returns : goal.returns
returns c = judges_of_lawful_ones
