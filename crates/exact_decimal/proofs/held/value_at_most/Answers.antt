use Rattle.std.proofs.Common.{◌∙◌, sym, ap, get_or, min, ◌^◌, ◌+◌, ◌*◌, take}
use Rattle.std.specs.Int.Digits.{number_from_digits}
use Rattle.std.proofs.lemmas.Int.Digits.{number_more}
use Rattle.exact_decimal.proofs.HeldLemmas.{min_more}
use Rattle.exact_decimal.proofs.held.value_at_most.Goals as goal

pub loop-digit-preserved : goal.loop-digit-preserved
loop-digit-preserved c =
    let before = c.loop-digit.invariant in
    let more = number_more 10 c.args.digits.now c.loop-digit.digit-index c.loop-digit-test.true in
    let cut = min_more (number_from_digits 10 (take c.loop-digit.digit-index c.args.digits.now)) (get_or c.args.digits.now c.loop-digit.digit-index 0) in
    c.next_value-value.ensures
    ∙ (ap (λ v. min (10 * v + get_or c.args.digits.now c.loop-digit.digit-index 0) (2 ^ 70)) before ∙ (cut ∙ ap (λ x. min x (2 ^ 70)) (sym more)))
