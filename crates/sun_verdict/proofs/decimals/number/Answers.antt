use Rattle.std.proofs.Common.{sym, ◌∙◌}
use Rattle.sun_verdict.proofs.Digits.{at_most_digits}
use Rattle.sun_verdict.proofs.decimals.number.Goals as goal

pub returns-clause-few : goal.returns-clause-few
returns-clause-few c = at_most_digits c.args.most c.args.word.now c.in_ok-digits.field-0 (sym c.digits.ensures.value ∙ c.in_ok-digits.was)
