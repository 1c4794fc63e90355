use Rattle.district_set.proofs.JoinLemmas.{joins_are_right}
use Rattle.district_set.proofs.laws.joins_are_right.Goals as goal

pub returns : goal.returns
returns c = joins_are_right
