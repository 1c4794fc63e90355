use Rattle.command_input.proofs.InputLemmas.{inputs_agree}
use Rattle.command_input.proofs.laws.inputs_agree.Goals as goal

pub returns : goal.returns
returns c = inputs_agree
