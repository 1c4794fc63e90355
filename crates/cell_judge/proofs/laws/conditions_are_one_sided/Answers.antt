use Rattle.cell_judge.proofs.EntryLaws.{conditions_are_one_sided}
use Rattle.cell_judge.proofs.laws.conditions_are_one_sided.Goals as goal

pub returns : goal.returns
returns c = conditions_are_one_sided
