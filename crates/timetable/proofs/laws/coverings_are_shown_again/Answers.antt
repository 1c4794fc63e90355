use Rattle.timetable.proofs.ShownAgain.{coverings_are_shown_again}
use Rattle.timetable.proofs.laws.coverings_are_shown_again.Goals as goal

pub returns : goal.returns
returns c = coverings_are_shown_again
