use Rattle.covering_check.proofs.Settled.{settled_is_shown}
use Rattle.covering_check.proofs.laws.settled_trees_are_shown.Goals as goal

pub returns : goal.returns
returns c = settled_is_shown
