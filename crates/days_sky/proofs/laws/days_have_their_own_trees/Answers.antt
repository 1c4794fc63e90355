use Rattle.days_sky.proofs.DayLemmas.{own_trees}
use Rattle.days_sky.proofs.laws.days_have_their_own_trees.Goals as goal

pub returns : goal.returns
returns c = own_trees
