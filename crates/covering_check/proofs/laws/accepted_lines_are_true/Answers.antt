use Rattle.covering_check.proofs.TruthLemmas.{accepted_is_true}
use Rattle.covering_check.proofs.laws.accepted_lines_are_true.Goals as goal

pub returns : goal.returns
returns c = accepted_is_true
