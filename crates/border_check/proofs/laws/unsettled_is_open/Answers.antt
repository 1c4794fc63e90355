use Rattle.border_check.proofs.laws.unsettled_is_open.Goals as goal
use Rattle.border_check.proofs.Trees.{unsettled_is_open}

pub returns : goal.returns
returns c = unsettled_is_open
