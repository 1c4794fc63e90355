-- Ends within 2^62 lose nothing in the words of the result.
use Rattle.std.proofs.Common.{sym, ◌∙◌, arith, le_trans}
use Rattle.fixed_interval.proofs.GridLaws.{grid_difference-is}
use Rattle.fixed_interval.proofs.Sizes.{difference_ordered, reach-difference}
use Rattle.trig_series.specs.Short.{ends_of}
use Rattle.trig_series.proofs.Words.{subtracted}
use Rattle.trig_series.proofs.short.Short.difference.Goals as goal

pub invariant_of-result : goal.invariant_of-result
invariant_of-result c =
    let a = c.args.self in
    let b = c.args.other in
    let low = subtracted a.lo b.hi (omega (arith, c.requires)) in
    let high = subtracted a.hi b.lo (omega (arith, c.requires)) in
    let within = le_trans (reach-difference a.lo b.lo a.hi b.hi) c.requires in
    record {
      ordered = rw (low, high) (difference_ordered a.lo b.lo a.hi b.hi a.ordered b.ordered);
      low_in_range = rw low (omega (arith, within));
      high_in_range = rw high (omega (arith, within));
    }

pub returns-clause-value : goal.returns-clause-value
returns-clause-value c =
    let a = c.args.self in
    let b = c.args.other in
    let low = subtracted a.lo b.hi (omega (arith, c.requires)) in
    let high = subtracted a.hi b.lo (omega (arith, c.requires)) in
    (λ i. record { lo = low i; hi = high i }) ∙ sym (grid_difference-is (ends_of a) (ends_of b))

pub returns-clause-bound : goal.returns-clause-bound
returns-clause-bound c =
    let a = c.args.self in
    let b = c.args.other in
    let low = subtracted a.lo b.hi (omega (arith, c.requires)) in
    let high = subtracted a.hi b.lo (omega (arith, c.requires)) in
    rw (low, high) (reach-difference a.lo b.lo a.hi b.hi)
