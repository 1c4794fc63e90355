use Rattle.std.proofs.Common.{pos, ap, ◌∙◌, arith}
use Rattle.fixed_interval.proofs.Bits.{read_natural}
use Rattle.fixed_interval.proofs.steps.root_down.Goals as goal

pub returns : goal.returns
returns c = read_natural c.whole_root.result (omega arith) ∙ ap pos c.whole_root.ensures
