-- Three calls of `max` give the ends of the magnitude.
use Rattle.std.proofs.Common.{◌^◌, sym, ◌∙◌, arith}
use Rattle.fixed_interval.specs.Interval.{ends}
use Rattle.fixed_interval.proofs.Bits.{magnitude_low, magnitude_high}
use Rattle.fixed_interval.proofs.GridLaws.{grid_magnitude-is}
use Rattle.fixed_interval.proofs.Sizes.{magnitude_ordered, abs-magnitude_low, abs-magnitude_high, both_within}
use Rattle.fixed_interval.proofs.Interval.magnitude.Goals as goal

pub invariant_of-result : goal.invariant_of-result
invariant_of-result c =
    let a = c.args.self in
    let low = magnitude_low c.max.result c.max-2.result a.lo a.hi c.max.ensures.value c.max.type_inv c.max-2.ensures.value c.max-2.type_inv a.low_in_range a.high_in_range in
    let high = magnitude_high c.max-3.result a.lo a.hi c.max-3.ensures.value c.max-3.type_inv a.low_in_range a.high_in_range in
    record {
      ordered = rw (low, high) (magnitude_ordered a.lo a.hi a.ordered);
      low_in_range = rw low (abs-magnitude_low a.lo a.hi (2 ^ 71) a.low_in_range a.high_in_range);
      high_in_range = rw high (abs-magnitude_high a.lo a.hi (2 ^ 71) a.low_in_range a.high_in_range);
    }

pub returns-clause-value : goal.returns-clause-value
returns-clause-value c =
    let a = c.args.self in
    let low = magnitude_low c.max.result c.max-2.result a.lo a.hi c.max.ensures.value c.max.type_inv c.max-2.ensures.value c.max-2.type_inv a.low_in_range a.high_in_range in
    let high = magnitude_high c.max-3.result a.lo a.hi c.max-3.ensures.value c.max-3.type_inv a.low_in_range a.high_in_range in
    (λ i. record { lo = low i; hi = high i }) ∙ sym (grid_magnitude-is (ends a))

pub returns-clause-bound : goal.returns-clause-bound
returns-clause-bound c =
    let a = c.args.self in
    let low = magnitude_low c.max.result c.max-2.result a.lo a.hi c.max.ensures.value c.max.type_inv c.max-2.ensures.value c.max-2.type_inv a.low_in_range a.high_in_range in
    let high = magnitude_high c.max-3.result a.lo a.hi c.max-3.ensures.value c.max-3.type_inv a.low_in_range a.high_in_range in
    rw (low, high) (both_within (abs-magnitude_low a.lo a.hi _ (omega arith) (omega arith)) (abs-magnitude_high a.lo a.hi _ (omega arith) (omega arith)))
