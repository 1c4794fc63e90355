use Rattle.cell_judge.proofs.DayLaws.{days_have_rows}
use Rattle.cell_judge.proofs.laws.days_have_rows.Goals as goal

pub returns : goal.returns
returns c = days_have_rows
