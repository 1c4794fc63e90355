use Rattle.ical_text.proofs.LawLemmas.{decide}
use Rattle.ical_text.proofs.laws.lines_decide.Goals as goal

pub returns : goal.returns
returns c = decide
