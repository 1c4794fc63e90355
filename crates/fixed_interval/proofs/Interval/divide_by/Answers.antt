-- Each end over n, rounded outward, is an end of the quotient on the grid.
use Rattle.std.proofs.Common.{◌^◌, sym, ◌∙◌, refl, arith, le_trans}
use Rattle.fixed_interval.specs.Interval.{ends}
use Rattle.fixed_interval.proofs.Bits.{end_fits, end_fits_bits}
use Rattle.fixed_interval.proofs.GridLaws.{grid_divide_by-is}
use Rattle.fixed_interval.proofs.Sizes.{abs-floor_over, abs-ceil_over, quotient_ordered, reach-quotient, div_ceil_no_more}
use Rattle.fixed_interval.proofs.Products.{floored, ceiled}
use Rattle.fixed_interval.proofs.Interval.divide_by.Goals as goal

pub floor_quotient-requires-clause-in_range : goal.floor_quotient-requires-clause-in_range
floor_quotient-requires-clause-in_range c = end_fits_bits c.args.self.lo c.args.self.low_in_range

pub ceil_quotient-requires-clause-in_range : goal.ceil_quotient-requires-clause-in_range
ceil_quotient-requires-clause-in_range c = end_fits_bits c.args.self.hi c.args.self.high_in_range

pub invariant_of-result : goal.invariant_of-result
invariant_of-result c =
    let a = c.args.self in
    let n = c.args.n in
    let low = floored c.floor_quotient.result a.lo a.lo n c.requires c.floor_quotient.ensures refl (end_fits a.lo a.low_in_range) in
    let high = ceiled c.ceil_quotient.result a.hi a.hi n c.requires c.ceil_quotient.ensures refl (end_fits a.hi a.high_in_range) in
    record {
      ordered = rw (low, high) (quotient_ordered a.lo a.hi n c.requires a.ordered);
      low_in_range = rw low (le_trans (abs-floor_over a.lo (2 ^ 71) n c.requires a.low_in_range) (div_ceil_no_more (2 ^ 71) n c.requires));
      high_in_range = rw high (le_trans (abs-ceil_over a.hi (2 ^ 71) n c.requires a.high_in_range) (div_ceil_no_more (2 ^ 71) n c.requires));
    }

pub returns-clause-value : goal.returns-clause-value
returns-clause-value c =
    let a = c.args.self in
    let n = c.args.n in
    let low = floored c.floor_quotient.result a.lo a.lo n c.requires c.floor_quotient.ensures refl (end_fits a.lo a.low_in_range) in
    let high = ceiled c.ceil_quotient.result a.hi a.hi n c.requires c.ceil_quotient.ensures refl (end_fits a.hi a.high_in_range) in
    (λ i. record { lo = low i; hi = high i }) ∙ sym (grid_divide_by-is (ends a) n c.requires)

pub returns-clause-bound : goal.returns-clause-bound
returns-clause-bound c =
    let a = c.args.self in
    let n = c.args.n in
    let low = floored c.floor_quotient.result a.lo a.lo n c.requires c.floor_quotient.ensures refl (end_fits a.lo a.low_in_range) in
    let high = ceiled c.ceil_quotient.result a.hi a.hi n c.requires c.ceil_quotient.ensures refl (end_fits a.hi a.high_in_range) in
    rw (low, high) (reach-quotient a.lo a.hi _ n c.requires (omega arith) (omega arith))
