use Rattle.set_table.proofs.RightLemmas.{sets_are_right}
use Rattle.set_table.proofs.laws.sets_are_right.Goals as goal

pub returns : goal.returns
returns c = sets_are_right
