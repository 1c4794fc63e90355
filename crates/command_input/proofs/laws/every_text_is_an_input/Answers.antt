use Rattle.command_input.proofs.InputLemmas.{every_text_is_an_input}
use Rattle.command_input.proofs.laws.every_text_is_an_input.Goals as goal

pub returns : goal.returns
returns c = every_text_is_an_input
