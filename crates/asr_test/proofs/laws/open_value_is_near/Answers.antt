use Rattle.asr_test.proofs.Tolerance.{open_asr_is_near}
use Rattle.asr_test.proofs.laws.open_value_is_near.Goals as goal

pub returns : goal.returns
returns c = open_asr_is_near
