use Rattle.order_reader.proofs.ReadLaws.{order_readings_agree}
use Rattle.order_reader.proofs.laws.order_readings_agree.Goals as goal

pub returns : goal.returns
returns c = order_readings_agree
