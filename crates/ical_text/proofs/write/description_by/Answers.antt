use Rattle.std.proofs.Common.{rules, append_assoc}
use Rattle.ical_text.proofs.write.description_by.Goals as goal

pub returns : goal.returns
returns c = simp append_assoc (search rules)
