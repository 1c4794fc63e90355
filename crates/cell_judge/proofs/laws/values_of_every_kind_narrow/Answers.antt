use Rattle.cell_judge.proofs.KindLaws.{values_of_every_kind_narrow}
use Rattle.cell_judge.proofs.laws.values_of_every_kind_narrow.Goals as goal

pub returns : goal.returns
returns c = values_of_every_kind_narrow
