use Rattle.region.proofs.Cut.{names_without_beyond}
use Rattle.region.proofs.laws.names_without_beyond.Goals as goal

pub returns : goal.returns
returns c = names_without_beyond
