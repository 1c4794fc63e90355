use Rattle.exact_json.proofs.Readings.{readings_agree}
use Rattle.exact_json.proofs.laws.readings_agree.Goals as goal

pub returns : goal.returns
returns c = readings_agree
