use Rattle.border_input.proofs.laws.every_text_is_a_request_or_refused.Goals as goal
use Rattle.border_input.proofs.ReadLemmas.{every_text_is_a_request_or_refused}

pub returns : goal.returns
returns c = every_text_is_a_request_or_refused
