use Rattle.plane_edges.proofs.laws.names_none_beyond.Goals as goal
use Rattle.plane_edges.proofs.Beyond.{names_none_beyond}

pub returns : goal.returns
returns c = names_none_beyond
