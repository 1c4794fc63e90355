-- The lesser lower end and the greater upper end are the ends of the hull.
use Rattle.std.proofs.Common.{◌^◌, sym, ◌∙◌}
use Rattle.std.specs.Int.{int_min, int_max}
use Rattle.fixed_interval.specs.Interval.{ends}
use Rattle.fixed_interval.proofs.Bits.{ends_called}
use Rattle.fixed_interval.proofs.GridLaws.{grid_hull-is}
use Rattle.fixed_interval.proofs.Sizes.{hull_ordered, abs-least, abs-greatest, reach-hull}
use Rattle.fixed_interval.proofs.Interval.hull.Goals as goal

pub invariant_of-result : goal.invariant_of-result
invariant_of-result c =
    let a = c.args.self in
    let b = c.args.other in
    let low = ends_called int_min c.min.result a.lo b.lo c.min.ensures.value c.min.type_inv a.low_in_range b.low_in_range in
    let high = ends_called int_max c.max.result a.hi b.hi c.max.ensures.value c.max.type_inv a.high_in_range b.high_in_range in
    record {
      ordered = rw (low, high) (hull_ordered a.lo b.lo a.hi b.hi a.ordered);
      low_in_range = rw low (abs-least a.lo b.lo (2 ^ 71) a.low_in_range b.low_in_range);
      high_in_range = rw high (abs-greatest a.hi b.hi (2 ^ 71) a.high_in_range b.high_in_range);
    }

pub returns-clause-value : goal.returns-clause-value
returns-clause-value c =
    let a = c.args.self in
    let b = c.args.other in
    let low = ends_called int_min c.min.result a.lo b.lo c.min.ensures.value c.min.type_inv a.low_in_range b.low_in_range in
    let high = ends_called int_max c.max.result a.hi b.hi c.max.ensures.value c.max.type_inv a.high_in_range b.high_in_range in
    (λ i. record { lo = low i; hi = high i }) ∙ sym (grid_hull-is (ends a) (ends b))

pub returns-clause-bound : goal.returns-clause-bound
returns-clause-bound c =
    let a = c.args.self in
    let b = c.args.other in
    let low = ends_called int_min c.min.result a.lo b.lo c.min.ensures.value c.min.type_inv a.low_in_range b.low_in_range in
    let high = ends_called int_max c.max.result a.hi b.hi c.max.ensures.value c.max.type_inv a.high_in_range b.high_in_range in
    rw (low, high) (reach-hull a.lo b.lo a.hi b.hi)
