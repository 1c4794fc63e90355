use Rattle.cell_judge.proofs.KindLaws.{grid_holds_every_kind}
use Rattle.cell_judge.proofs.laws.grid_holds_every_kind.Goals as goal

pub returns : goal.returns
returns c = grid_holds_every_kind
