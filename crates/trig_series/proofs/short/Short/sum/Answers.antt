-- Ends within 2^62 lose nothing in the words of the result.
use Rattle.std.proofs.Common.{sym, ◌∙◌, arith, le_trans}
use Rattle.fixed_interval.proofs.GridLaws.{grid_sum-is}
use Rattle.fixed_interval.proofs.Sizes.{sum_ordered, reach-sum}
use Rattle.trig_series.specs.Short.{ends_of}
use Rattle.trig_series.proofs.Words.{summed}
use Rattle.trig_series.proofs.short.Short.sum.Goals as goal

pub invariant_of-result : goal.invariant_of-result
invariant_of-result c =
    let a = c.args.self in
    let b = c.args.other in
    let low = summed a.lo b.lo (omega (arith, c.requires)) in
    let high = summed a.hi b.hi (omega (arith, c.requires)) in
    let within = le_trans (reach-sum a.lo b.lo a.hi b.hi) c.requires in
    record {
      ordered = rw (low, high) (sum_ordered a.lo b.lo a.hi b.hi a.ordered b.ordered);
      low_in_range = rw low (omega (arith, within));
      high_in_range = rw high (omega (arith, within));
    }

pub returns-clause-value : goal.returns-clause-value
returns-clause-value c =
    let a = c.args.self in
    let b = c.args.other in
    let low = summed a.lo b.lo (omega (arith, c.requires)) in
    let high = summed a.hi b.hi (omega (arith, c.requires)) in
    (λ i. record { lo = low i; hi = high i }) ∙ sym (grid_sum-is (ends_of a) (ends_of b))

pub returns-clause-bound : goal.returns-clause-bound
returns-clause-bound c =
    let a = c.args.self in
    let b = c.args.other in
    let low = summed a.lo b.lo (omega (arith, c.requires)) in
    let high = summed a.hi b.hi (omega (arith, c.requires)) in
    rw (low, high) (reach-sum a.lo b.lo a.hi b.hi)
