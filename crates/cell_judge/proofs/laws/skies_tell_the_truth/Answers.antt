use Rattle.cell_judge.proofs.SkyLaws.{skies_tell_the_truth}
use Rattle.cell_judge.proofs.laws.skies_tell_the_truth.Goals as goal

pub returns : goal.returns
returns c = skies_tell_the_truth
