use Rattle.cell_judge.proofs.ExtentLemmas.{districts_lie_in_roots_over_them}
use Rattle.cell_judge.proofs.laws.districts_lie_in_roots_over_them.Goals as goal

pub returns : goal.returns
returns c = districts_lie_in_roots_over_them
