use Rattle.ical_text.proofs.LawLemmas.{agree}
use Rattle.ical_text.proofs.laws.readings_agree.Goals as goal

pub returns : goal.returns
returns c = agree
