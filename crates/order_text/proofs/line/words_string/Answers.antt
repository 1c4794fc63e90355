use Rattle.std.proofs.Common.{◌∙◌, append_assoc}
use Rattle.order_text.proofs.line.words_string.Goals as goal

pub returns : goal.returns
returns c = c.in_ok-format.ensures.ok ∙ simp append_assoc
