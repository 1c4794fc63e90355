use Rattle.asr_test.proofs.AsrLaws.{asr_is_one_sided}
use Rattle.asr_test.proofs.laws.value_is_one_sided.Goals as goal

pub returns : goal.returns
returns c = asr_is_one_sided
