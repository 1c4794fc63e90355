use Rattle.cell_judge.proofs.SkyLaws.{problems_are_rows}
use Rattle.cell_judge.proofs.laws.problems_are_rows.Goals as goal

pub returns : goal.returns
returns c = problems_are_rows
