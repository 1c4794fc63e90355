use Rattle.border_input.proofs.laws.request_readings_agree.Goals as goal
use Rattle.border_input.proofs.ReadLemmas.{request_readings_agree}

pub returns : goal.returns
returns c = request_readings_agree
