use Rattle.order_text.proofs.LineLaws.{line_readings_agree}
use Rattle.order_text.proofs.laws.line_readings_agree.Goals as goal

pub returns : goal.returns
returns c = line_readings_agree
