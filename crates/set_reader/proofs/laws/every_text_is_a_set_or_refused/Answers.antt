use Rattle.set_reader.proofs.SetLaws.{every_text_is_a_set_or_refused}
use Rattle.set_reader.proofs.laws.every_text_is_a_set_or_refused.Goals as goal

pub returns : goal.returns
returns c = every_text_is_a_set_or_refused
