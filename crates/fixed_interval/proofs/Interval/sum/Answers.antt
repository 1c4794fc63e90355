-- Ends within 2^71 lose nothing when added.
use Rattle.std.proofs.Common.{sym, ◌∙◌}
use Rattle.fixed_interval.specs.Interval.{ends}
use Rattle.fixed_interval.proofs.Bits.{summed}
use Rattle.fixed_interval.proofs.GridLaws.{grid_sum-is}
use Rattle.fixed_interval.proofs.Sizes.{sum_ordered, reach-sum}
use Rattle.fixed_interval.proofs.Interval.sum.Goals as goal

pub invariant_of-result : goal.invariant_of-result
invariant_of-result c =
    let a = c.args.self in
    let b = c.args.other in
    let low = summed a.lo b.lo a.low_in_range b.low_in_range in
    let high = summed a.hi b.hi a.high_in_range b.high_in_range in
    record {
      ordered = rw (low, high) (sum_ordered a.lo b.lo a.hi b.hi a.ordered b.ordered);
      low_in_range = rw low c.requires.low_in_range;
      high_in_range = rw high c.requires.high_in_range;
    }

pub returns-clause-value : goal.returns-clause-value
returns-clause-value c =
    let a = c.args.self in
    let b = c.args.other in
    (λ i. record { lo = summed a.lo b.lo a.low_in_range b.low_in_range i; hi = summed a.hi b.hi a.high_in_range b.high_in_range i }) ∙ sym (grid_sum-is (ends a) (ends b))

pub returns-clause-bound : goal.returns-clause-bound
returns-clause-bound c =
    let a = c.args.self in
    let b = c.args.other in
    rw (summed a.lo b.lo a.low_in_range b.low_in_range, summed a.hi b.hi a.high_in_range b.high_in_range) (reach-sum a.lo b.lo a.hi b.hi)
