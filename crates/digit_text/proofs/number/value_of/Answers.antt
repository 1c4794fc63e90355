use Rattle.std.proofs.Common.{arith, sym, ◌+◌, ◌*◌, ℕ, ap, ◌∙◌, get_or}
use Rattle.std.proofs.lemmas.Int.Digits.{digits_value_more}
use Rattle.std.specs.Char.{is_ascii_digit, digit_value}
use Rattle.digit_text.proofs.DigitLemmas.{is_below_most, is_below_next, passes_at}
use Rattle.digit_text.proofs.number.value_of.Goals as goal

pub with_digit-value-requires-clause-small : goal.with_digit-value-requires-clause-small
with_digit-value-requires-clause-small c =
    is_below_most c.loop-digit.value c.loop-digit.digit-index 22 c.loop-digit.invariant.bound (omega arith)

pub with_digit-value-requires-clause-digit : goal.with_digit-value-requires-clause-digit
with_digit-value-requires-clause-digit c =
    passes_at is_ascii_digit c.args.digits.now c.loop-digit.digit-index c.loop-digit-test.true c.requires.digits

pub loop-digit-preserved : goal.loop-digit-preserved
loop-digit-preserved c =
    let more = digits_value_more 10 c.args.digits.now c.loop-digit.digit-index c.loop-digit-test.true in
    let next = c.with_digit-value.ensures.value in
    let digit = digit_value (get_or c.args.digits.now c.loop-digit.digit-index 0) in
    record {
      value = next ∙ ap (λ (v : ℕ). v * 10 + digit) c.loop-digit.invariant.value ∙ sym more;
      bound = rw next (is_below_next c.loop-digit.value digit c.loop-digit.digit-index c.loop-digit.invariant.bound
          c.with_digit-value.ensures.digit);
    }
