use Rattle.district_set.proofs.SetLemmas.{own_trees}
use Rattle.district_set.proofs.laws.sets_have_their_own_trees.Goals as goal

pub returns : goal.returns
returns c = own_trees
