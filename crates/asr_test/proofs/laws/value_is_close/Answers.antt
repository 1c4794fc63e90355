use Rattle.asr_test.proofs.Tolerance.{asr_is_close}
use Rattle.asr_test.proofs.laws.value_is_close.Goals as goal

pub returns : goal.returns
returns c = asr_is_close
