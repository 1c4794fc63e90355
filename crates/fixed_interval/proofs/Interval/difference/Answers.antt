-- Ends within 2^71 lose nothing when subtracted.
use Rattle.std.proofs.Common.{sym, ◌∙◌}
use Rattle.fixed_interval.specs.Interval.{ends}
use Rattle.fixed_interval.proofs.Bits.{subtracted}
use Rattle.fixed_interval.proofs.GridLaws.{grid_difference-is}
use Rattle.fixed_interval.proofs.Sizes.{difference_ordered, reach-difference}
use Rattle.fixed_interval.proofs.Interval.difference.Goals as goal

pub invariant_of-result : goal.invariant_of-result
invariant_of-result c =
    let a = c.args.self in
    let b = c.args.other in
    let low = subtracted a.lo b.hi a.low_in_range b.high_in_range in
    let high = subtracted a.hi b.lo a.high_in_range b.low_in_range in
    record {
      ordered = rw (low, high) (difference_ordered a.lo b.lo a.hi b.hi a.ordered b.ordered);
      low_in_range = rw low c.requires.low_in_range;
      high_in_range = rw high c.requires.high_in_range;
    }

pub returns-clause-value : goal.returns-clause-value
returns-clause-value c =
    let a = c.args.self in
    let b = c.args.other in
    (λ i. record { lo = subtracted a.lo b.hi a.low_in_range b.high_in_range i; hi = subtracted a.hi b.lo a.high_in_range b.low_in_range i }) ∙ sym (grid_difference-is (ends a) (ends b))

pub returns-clause-bound : goal.returns-clause-bound
returns-clause-bound c =
    let a = c.args.self in
    let b = c.args.other in
    rw (subtracted a.lo b.hi a.low_in_range b.high_in_range, subtracted a.hi b.lo a.high_in_range b.low_in_range) (reach-difference a.lo b.lo a.hi b.hi)
