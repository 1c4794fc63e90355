use Rattle.cell_judge.proofs.DayLaws.{days_are_in_limits}
use Rattle.cell_judge.proofs.laws.days_are_in_limits.Goals as goal

pub returns : goal.returns
returns c = days_are_in_limits
