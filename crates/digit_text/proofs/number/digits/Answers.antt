use Rattle.std.proofs.Common.{arith}
use Rattle.digit_text.proofs.DigitLemmas.{is_below_most}
use Rattle.digit_text.proofs.number.digits.Goals as goal

pub returns-then-are_digits-clause-most : goal.returns-then-are_digits-clause-most
returns-then-are_digits-clause-most c = is_below_most c.value_of.result _ c.args.most c.value_of.ensures.bound (omega arith)
