use Rattle.cell_judge.proofs.EntryLaws.{lies_in_root}
use Rattle.cell_judge.proofs.laws.districts_lie_in_their_root.Goals as goal

pub returns : goal.returns
returns c = lies_in_root
