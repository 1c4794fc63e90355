use Rattle.set_reader.proofs.SetLaws.{sets_keep_the_rule}
use Rattle.set_reader.proofs.laws.sets_keep_the_rule.Goals as goal

pub returns : goal.returns
returns c = sets_keep_the_rule
