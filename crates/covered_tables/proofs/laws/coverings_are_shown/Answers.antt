use Rattle.covered_tables.proofs.Covering.{coverings_are_shown}
use Rattle.covered_tables.proofs.laws.coverings_are_shown.Goals as goal

pub returns : goal.returns
returns c = coverings_are_shown
