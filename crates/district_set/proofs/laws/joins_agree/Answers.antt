use Rattle.district_set.proofs.JoinLemmas.{joins_agree}
use Rattle.district_set.proofs.laws.joins_agree.Goals as goal

pub returns : goal.returns
returns c = joins_agree
