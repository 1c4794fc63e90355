use Rattle.asr_test.proofs.AsrLaws.{grid_shows_asr}
use Rattle.asr_test.proofs.laws.grid_shows_side.Goals as goal

pub returns : goal.returns
returns c = grid_shows_asr
