use Rattle.ical_text.proofs.LawLemmas.{exact}
use Rattle.ical_text.proofs.laws.reading_is_exact.Goals as goal

pub returns : goal.returns
returns c = exact
