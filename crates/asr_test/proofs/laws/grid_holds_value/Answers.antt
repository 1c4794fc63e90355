use Rattle.asr_test.proofs.AsrLaws.{grid_asr_holds}
use Rattle.asr_test.proofs.laws.grid_holds_value.Goals as goal

pub returns : goal.returns
returns c = grid_asr_holds
