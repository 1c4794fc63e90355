use Rattle.set_reader.proofs.SetLaws.{set_readings_agree}
use Rattle.set_reader.proofs.laws.set_readings_agree.Goals as goal

pub returns : goal.returns
returns c = set_readings_agree
