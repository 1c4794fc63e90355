use Rattle.std.proofs.Common.{◌∙◌, ap, arith}
use Rattle.std.specs.Prelude.{◌+ℤ◌}
use Rattle.std.proofs.lemmas.Int.{ints}
use Rattle.demo_summary.proofs.TallyLemmas.{days_all, days_more, settled}
use Rattle.demo_summary.proofs.tally.sum_of.Goals as goal

pub loop-i-preserved : goal.loop-i-preserved
loop-i-preserved c =
    let i = c.loop-i.i in
    let so_far = c.loop-i.invariant in
    let here = c.sum_of_day-sum.ensures in
    let within = c.loop-i-test.true in
    let few = c.requires.few in
    let sum = settled _ c.sum_of_day-sum.result (omega (arith, ints, so_far.low, within, few)) (omega (arith, ints, so_far.high, within, few)) here.low here.high in
    record {
      value =
          sum ∙ ap (λ z. z +ℤ c.sum_of_day-sum.result) so_far.value
          ∙ days_more c.args.days.now c.args.entries.now i c.index-days-i.result _ c.sum_of_day-sum.result within
          (omega (arith, within, c.requires.long)) c.index-days-i.is here.value;
      low = omega (arith, ints, sum, so_far.low, here.low);
      high = omega (arith, ints, sum, so_far.high, here.high);
    }

pub returns : goal.returns
returns c = c.loop-i.invariant.value ∙ days_all c.args.days.now c.args.entries.now c.loop-i.i c.loop-i-test.false
