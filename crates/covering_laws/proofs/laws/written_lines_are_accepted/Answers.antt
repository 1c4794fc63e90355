use Rattle.covering_laws.proofs.Accepted.{written_accepted}
use Rattle.covering_laws.proofs.laws.written_lines_are_accepted.Goals as goal

pub returns : goal.returns
returns c = written_accepted
