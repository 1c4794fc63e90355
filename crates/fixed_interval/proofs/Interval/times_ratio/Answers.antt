-- The least and the greatest corner over n, rounded outward, are the ends of the grid's product over n.
use Rattle.std.proofs.Common.{sym, ◌∙◌, ◌^◌, le_trans}
use Rattle.fixed_interval.specs.Interval.{ends}
use Rattle.fixed_interval.specs.Grid.{Ends}
use Rattle.fixed_interval.proofs.GridLaws.{least_product, greatest_product, grid_times_ratio-is}
use Rattle.fixed_interval.proofs.Sizes.{abs-least_product, abs-greatest_product, abs-floor_over, abs-ceil_over, products_ordered, quotient_ordered, reach-quotient, div_ceil_least}
use Rattle.fixed_interval.proofs.Products.{range_factors, quotient_low, quotient_high, corners_fit, least_fits, greatest_fits}
use Rattle.fixed_interval.proofs.Interval.times_ratio.Goals as goal

pub corner_products-least-requires : goal.corner_products-least-requires
corner_products-least-requires c = corners_fit (range_factors c.args.self (record { lo = c.args.low; hi = c.args.high }) c.requires.low_in_range c.requires.high_in_range)

pub floor_quotient-requires-clause-in_range : goal.floor_quotient-requires-clause-in_range
floor_quotient-requires-clause-in_range c = least_fits (range_factors c.args.self (record { lo = c.args.low; hi = c.args.high }) c.requires.low_in_range c.requires.high_in_range) _ c.corner_products-least.ensures.least

pub ceil_quotient-requires-clause-in_range : goal.ceil_quotient-requires-clause-in_range
ceil_quotient-requires-clause-in_range c = greatest_fits (range_factors c.args.self (record { lo = c.args.low; hi = c.args.high }) c.requires.low_in_range c.requires.high_in_range) _ c.corner_products-least.ensures.greatest

pub invariant_of-result : goal.invariant_of-result
invariant_of-result c =
    let a = ends c.args.self in
    let b : Ends = record { lo = c.args.low; hi = c.args.high } in
    let n = c.args.n in
    let f = range_factors c.args.self b c.requires.low_in_range c.requires.high_in_range in
    let low = quotient_low f c.floor_quotient.result _ n c.requires.positive c.corner_products-least.ensures.least c.floor_quotient.ensures in
    let high = quotient_high f c.ceil_quotient.result _ n c.requires.positive c.corner_products-least.ensures.greatest c.ceil_quotient.ensures in
    let small = div_ceil_least _ n (2 ^ 71) c.requires.positive c.requires.result_in_range in
    record {
      ordered = rw (low, high) (quotient_ordered (least_product a b) (greatest_product a b) n c.requires.positive (products_ordered a b));
      low_in_range = rw low (le_trans (abs-floor_over (least_product a b) _ n c.requires.positive (abs-least_product a b)) small);
      high_in_range = rw high (le_trans (abs-ceil_over (greatest_product a b) _ n c.requires.positive (abs-greatest_product a b)) small);
    }

pub returns-clause-value : goal.returns-clause-value
returns-clause-value c =
    let a = ends c.args.self in
    let b : Ends = record { lo = c.args.low; hi = c.args.high } in
    let n = c.args.n in
    let f = range_factors c.args.self b c.requires.low_in_range c.requires.high_in_range in
    let low = quotient_low f c.floor_quotient.result _ n c.requires.positive c.corner_products-least.ensures.least c.floor_quotient.ensures in
    let high = quotient_high f c.ceil_quotient.result _ n c.requires.positive c.corner_products-least.ensures.greatest c.ceil_quotient.ensures in
    (λ i. record { lo = low i; hi = high i }) ∙ sym (grid_times_ratio-is a (record { lo = c.args.low; hi = c.args.high }) n c.requires.positive)

pub returns-clause-bound : goal.returns-clause-bound
returns-clause-bound c =
    let a = ends c.args.self in
    let b : Ends = record { lo = c.args.low; hi = c.args.high } in
    let n = c.args.n in
    let f = range_factors c.args.self b c.requires.low_in_range c.requires.high_in_range in
    let low = quotient_low f c.floor_quotient.result _ n c.requires.positive c.corner_products-least.ensures.least c.floor_quotient.ensures in
    let high = quotient_high f c.ceil_quotient.result _ n c.requires.positive c.corner_products-least.ensures.greatest c.ceil_quotient.ensures in
    rw (low, high) (reach-quotient (least_product a b) (greatest_product a b) _ n c.requires.positive (abs-least_product a b) (abs-greatest_product a b))
