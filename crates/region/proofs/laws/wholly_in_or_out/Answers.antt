use Rattle.region.proofs.laws.wholly_in_or_out.Goals as goal
use Rattle.region.proofs.Wholly.{wholly_in_or_out}

pub returns : goal.returns
returns c = wholly_in_or_out
