use Rattle.asr_test.proofs.AsrLaws.{asr_narrows}
use Rattle.asr_test.proofs.laws.value_narrows.Goals as goal

pub returns : goal.returns
returns c = asr_narrows
