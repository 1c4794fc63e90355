use Rattle.covering_laws.proofs.Accepted.{runs_accepted}
use Rattle.covering_laws.proofs.laws.runs_lines_are_accepted.Goals as goal

pub returns : goal.returns
returns c = runs_accepted
