use Rattle.order_reader.proofs.ReadLaws.{every_text_is_read_or_refused}
use Rattle.order_reader.proofs.laws.every_text_is_read_or_refused.Goals as goal

pub returns : goal.returns
returns c = every_text_is_read_or_refused
