use Rattle.cell_judge.proofs.EntryLaws.{true_verdicts_make_right_entries}
use Rattle.cell_judge.proofs.laws.true_verdicts_make_right_entries.Goals as goal

pub returns : goal.returns
returns c = true_verdicts_make_right_entries
