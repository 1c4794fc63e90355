use Rattle.cell_judge.proofs.SkyLaws.{verdicts_of_every_sun_are_true}
use Rattle.cell_judge.proofs.laws.verdicts_of_every_sun_are_true.Goals as goal

pub returns : goal.returns
returns c = verdicts_of_every_sun_are_true
