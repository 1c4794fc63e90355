use Rattle.covering_check.proofs.Accepted.{tree_accepted}
use Rattle.covering_check.proofs.laws.tree_lines_are_accepted.Goals as goal

pub returns : goal.returns
returns c = tree_accepted
