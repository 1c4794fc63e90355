use Rattle.order_text.proofs.LineLaws.{lines_are_read_again}
use Rattle.order_text.proofs.laws.lines_are_read_again.Goals as goal

pub returns : goal.returns
returns c = lines_are_read_again
