use Rattle.cell_judge.proofs.EntryLaws.{one_decided_entry_is_right}
use Rattle.cell_judge.proofs.laws.one_decided_entry_is_right.Goals as goal

pub returns : goal.returns
returns c = one_decided_entry_is_right
