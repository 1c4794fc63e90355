use Rattle.covering_laws.proofs.Settling.{trees_settled}
use Rattle.covering_laws.proofs.laws.trees_are_settled.Goals as goal

pub returns : goal.returns
returns c = trees_settled
