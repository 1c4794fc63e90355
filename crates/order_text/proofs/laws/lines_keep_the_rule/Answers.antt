use Rattle.order_text.proofs.LineKept.{lines_keep_the_rule}
use Rattle.order_text.proofs.laws.lines_keep_the_rule.Goals as goal

pub returns : goal.returns
returns c = lines_keep_the_rule
