use Rattle.ical_text.proofs.TableLemmas.{tables_read}
use Rattle.ical_text.proofs.laws.tables_are_read_again.Goals as goal

pub returns : goal.returns
returns c = tables_read
