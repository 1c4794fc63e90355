use Rattle.std.proofs.Common.{sym, ◌∙◌, get_or, arith}
use Rattle.covering_check.specs.Left.{most_digits}
use Rattle.covering_check.proofs.Reading.{bad_here, digit_here, end_here, is_fewer, is_small, is_some, next_bound, run_alone, run_counted}
use Rattle.covering_check.proofs.letters.run_at.Goals as goal

pub returns-then-digits-eq0-clause-run : goal.returns-then-digits-eq0-clause-run
returns-then-digits-eq0-clause-run c =
    run_alone (most_digits c.args.form) c.args.text.now c.args.from c.loop-at.at c.loop-at.digits c.loop-at.count c.loop-at-test.true c.loop-at.invariant.read (sym c.is_letter.ensures ∙ c.if-is_letter.true) c.if-digits-eq0.true

pub returns-else-digits-eq0-clause-run : goal.returns-else-digits-eq0-clause-run
returns-else-digits-eq0-clause-run c =
    run_counted (most_digits c.args.form) c.args.text.now c.args.from c.loop-at.at c.loop-at.digits c.loop-at.count c.loop-at-test.true c.loop-at.invariant.read (sym c.is_letter.ensures ∙ c.if-is_letter.true) c.if-digits-eq0.false

pub returns-then-not-goes_on-clause-run : goal.returns-then-not-goes_on-clause-run
returns-then-not-goes_on-clause-run c =
    bad_here (most_digits c.args.form) c.args.text.now c.args.from c.loop-at.at c.loop-at.digits c.loop-at.count c.loop-at-test.true c.loop-at.invariant.read (sym c.is_letter.ensures ∙ c.if-is_letter.false) (rw c.most_digits-most.ensures.value at (sym c.goes_on.ensures ∙ c.if-not-goes_on.true))

pub with_digit-count-requires-clause-small : goal.with_digit-count-requires-clause-small
with_digit-count-requires-clause-small c =
    is_small c.most_digits-most.result c.loop-at.digits (get_or c.args.text.now c.loop-at.at 0) c.loop-at.count (sym c.goes_on.ensures ∙ c.if-not-goes_on.false) c.most_digits-most.ensures.few c.loop-at.invariant.bound

pub loop-at-preserved : goal.loop-at-preserved
loop-at-preserved c =
    let more = rw c.most_digits-most.ensures.value at (sym c.goes_on.ensures ∙ c.if-not-goes_on.false) in
    record {
      read = rw c.with_digit-count.ensures.value (digit_here (most_digits c.args.form) c.args.text.now c.args.from c.loop-at.at c.loop-at.digits c.loop-at.count c.loop-at-test.true c.loop-at.invariant.read (sym c.is_letter.ensures ∙ c.if-is_letter.false) more);
      bound = next_bound c.with_digit-count.result c.loop-at.count c.loop-at.digits c.with_digit-count.ensures.below c.loop-at.invariant.bound;
      few = let less = is_fewer (most_digits c.args.form) c.loop-at.digits (get_or c.args.text.now c.loop-at.at 0) more in omega arith;
      some = λ h. rw c.with_digit-count.ensures.value (is_some (most_digits c.args.form) c.loop-at.digits (get_or c.args.text.now c.loop-at.at 0) c.loop-at.count more c.loop-at.invariant.some);
    }

pub returns-clause-run : goal.returns-clause-run
returns-clause-run c =
    end_here (most_digits c.args.form) c.args.text.now c.args.from c.loop-at.at c.loop-at.digits c.loop-at.count c.loop-at-test.false c.loop-at.invariant.read
