use Rattle.region.proofs.laws.names_exactly.Goals as goal
use Rattle.region.proofs.Wholly.{names_exactly}

pub returns : goal.returns
returns c = names_exactly
