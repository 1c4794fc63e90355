use Rattle.order_rule.specs.Asked.{asked_of}
use Rattle.order_text.proofs.LineLaws.{lines_are_read_again}
use Rattle.order_text.proofs.laws.line_is_read_again.Goals as goal

pub returns-clause-again : goal.returns-clause-again
returns-clause-again c = lines_are_read_again (asked_of c.args.o.now) c.keeps_the_rule.ensures
