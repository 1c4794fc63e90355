use Rattle.border_check.proofs.laws.settled_holds.Goals as goal
use Rattle.border_check.proofs.Trees.{settled_holds}

pub returns : goal.returns
returns c = settled_holds
