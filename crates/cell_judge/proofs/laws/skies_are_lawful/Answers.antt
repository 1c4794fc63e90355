use Rattle.cell_judge.proofs.Lawful.{skies_are_lawful}
use Rattle.cell_judge.proofs.laws.skies_are_lawful.Goals as goal

pub returns : goal.returns
returns c = skies_are_lawful
