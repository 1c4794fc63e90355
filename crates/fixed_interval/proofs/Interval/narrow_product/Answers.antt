-- The least and the greatest corner, rounded outward, are the ends of the grid's product.
use Rattle.std.proofs.Common.{sym, ◌∙◌, le_trans, lit≤}
use Rattle.fixed_interval.specs.Interval.{ends}
use Rattle.fixed_interval.specs.Grid.{UNIT}
use Rattle.fixed_interval.proofs.GridLaws.{least_product, greatest_product, grid_product-is}
use Rattle.fixed_interval.proofs.Sizes.{abs-least_product, abs-greatest_product, abs-floor_over, abs-ceil_over, products_ordered, quotient_ordered, reach-quotient}
use Rattle.fixed_interval.proofs.Products.{interval_factors, narrow_enough, quotient_low, quotient_high, least_fits, greatest_fits}
use Rattle.fixed_interval.proofs.Interval.narrow_product.Goals as goal

pub floor_to_grid-requires : goal.floor_to_grid-requires
floor_to_grid-requires c = least_fits (interval_factors c.args.self c.args.other (narrow_enough c.args.self c.args.other c.requires.self_narrow c.requires.other_narrow)) _ c.narrow_corner_products-least.ensures.least

pub ceil_to_grid-requires : goal.ceil_to_grid-requires
ceil_to_grid-requires c = greatest_fits (interval_factors c.args.self c.args.other (narrow_enough c.args.self c.args.other c.requires.self_narrow c.requires.other_narrow)) _ c.narrow_corner_products-least.ensures.greatest

pub invariant_of-result : goal.invariant_of-result
invariant_of-result c =
    let a = ends c.args.self in
    let b = ends c.args.other in
    let f = interval_factors c.args.self c.args.other (narrow_enough c.args.self c.args.other c.requires.self_narrow c.requires.other_narrow) in
    let low = quotient_low f c.floor_to_grid.result _ UNIT (lit≤ tt) c.narrow_corner_products-least.ensures.least c.floor_to_grid.ensures in
    let high = quotient_high f c.ceil_to_grid.result _ UNIT (lit≤ tt) c.narrow_corner_products-least.ensures.greatest c.ceil_to_grid.ensures in
    record {
      ordered = rw (low, high) (quotient_ordered (least_product a b) (greatest_product a b) UNIT (lit≤ tt) (products_ordered a b));
      low_in_range = rw low (le_trans (abs-floor_over (least_product a b) _ UNIT (lit≤ tt) (le_trans (abs-least_product a b) f.fits)) (lit≤ tt));
      high_in_range = rw high (le_trans (abs-ceil_over (greatest_product a b) _ UNIT (lit≤ tt) (le_trans (abs-greatest_product a b) f.fits)) (lit≤ tt));
    }

pub returns-clause-value : goal.returns-clause-value
returns-clause-value c =
    let a = ends c.args.self in
    let b = ends c.args.other in
    let f = interval_factors c.args.self c.args.other (narrow_enough c.args.self c.args.other c.requires.self_narrow c.requires.other_narrow) in
    let low = quotient_low f c.floor_to_grid.result _ UNIT (lit≤ tt) c.narrow_corner_products-least.ensures.least c.floor_to_grid.ensures in
    let high = quotient_high f c.ceil_to_grid.result _ UNIT (lit≤ tt) c.narrow_corner_products-least.ensures.greatest c.ceil_to_grid.ensures in
    (λ i. record { lo = low i; hi = high i }) ∙ sym (grid_product-is a b)

pub returns-clause-bound : goal.returns-clause-bound
returns-clause-bound c =
    let a = ends c.args.self in
    let b = ends c.args.other in
    let f = interval_factors c.args.self c.args.other (narrow_enough c.args.self c.args.other c.requires.self_narrow c.requires.other_narrow) in
    let low = quotient_low f c.floor_to_grid.result _ UNIT (lit≤ tt) c.narrow_corner_products-least.ensures.least c.floor_to_grid.ensures in
    let high = quotient_high f c.ceil_to_grid.result _ UNIT (lit≤ tt) c.narrow_corner_products-least.ensures.greatest c.ceil_to_grid.ensures in
    rw (low, high) (reach-quotient (least_product a b) (greatest_product a b) _ UNIT (lit≤ tt) (abs-least_product a b) (abs-greatest_product a b))
