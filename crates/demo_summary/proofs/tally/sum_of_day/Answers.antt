use Rattle.std.proofs.Common.{◌∙◌, arith}
use Rattle.std.proofs.lemmas.Int.{ints}
use Rattle.demo_summary.proofs.TallyLemmas.{minutes_all, minutes_more, settled}
use Rattle.std.proofs.Common.{ap}
use Rattle.std.specs.Prelude.{◌+ℤ◌}
use Rattle.demo_summary.proofs.tally.sum_of_day.Goals as goal

pub loop-i-preserved : goal.loop-i-preserved
loop-i-preserved c =
    let problems = c.args.problems.now in
    let i = c.loop-i.i in
    let so_far = c.loop-i.invariant in
    let here = c.minutes_of-sum.ensures in
    let within = c.loop-i-test.true in
    let seven = c.requires.seven in
    let sum = settled _ c.minutes_of-sum.result (omega (arith, ints, so_far.low, within, seven)) (omega (arith, ints, so_far.high, within, seven))
    (omega (arith, ints, here.low)) (omega (arith, ints, here.high)) in
    record {
      value =
          sum ∙ ap (λ z. z +ℤ c.minutes_of-sum.result) so_far.value
          ∙ minutes_more problems c.args.entries.now i c.index-problems-i.result _ c.minutes_of-sum.result within
          (omega (arith, within, seven, c.requires.long)) c.index-problems-i.is here.value;
      low = omega (arith, ints, sum, so_far.low, here.low);
      high = omega (arith, ints, sum, so_far.high, here.high);
    }

pub returns-clause-value : goal.returns-clause-value
returns-clause-value c =
    c.loop-i.invariant.value ∙ minutes_all c.args.problems.now c.args.entries.now c.loop-i.i c.loop-i-test.false
