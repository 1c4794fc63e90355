use Rattle.std.proofs.Common.{arith}
use Rattle.std.proofs.lemmas.Grind.{common_steps}
use Rattle.exact_decimal.proofs.Worth.{nearest_none, nearest_below, nearest_above}
use Rattle.exact_decimal.proofs.size.nearest.Goals as goal

pub returns-then-is_empty : goal.returns-then-is_empty
returns-then-is_empty c = grind (arith, common_steps, nearest_none, nearest_below)

pub returns-then-before-gt16 : goal.returns-then-before-gt16
returns-then-before-gt16 c = grind (arith, common_steps, nearest_above)
