use Rattle.exact_json.proofs.Readings.{every_text_is_read}
use Rattle.exact_json.proofs.laws.every_text_is_read.Goals as goal

pub returns : goal.returns
returns c = every_text_is_read
