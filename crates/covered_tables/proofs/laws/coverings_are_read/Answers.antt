use Rattle.covered_tables.proofs.FirstLine.{coverings_are_read}
use Rattle.covered_tables.proofs.laws.coverings_are_read.Goals as goal

pub returns : goal.returns
returns c = coverings_are_read
