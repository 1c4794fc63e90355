-- Each corner is within the product of the reaches, so that no product is lost.
use Rattle.std.proofs.Common.{◌*ℤ◌, arith}
use Rattle.fixed_interval.specs.Whole.{least_of_four, greatest_of_four}
use Rattle.fixed_interval.proofs.Bits.{called, called_with_four, typed, fitting}
use Rattle.fixed_interval.proofs.Products.{corner_fits}
use Rattle.fixed_interval.proofs.steps.corner_products.Goals as goal

pub exact_product-a-requires : goal.exact_product-a-requires
exact_product-a-requires c = corner_fits c.args.lo c.args.low _ _ c.ranges.lo c.ranges.low (omega arith) (omega arith) c.requires

pub exact_product-b-requires : goal.exact_product-b-requires
exact_product-b-requires c = corner_fits c.args.lo c.args.high _ _ c.ranges.lo c.ranges.high (omega arith) (omega arith) c.requires

pub exact_product-c-requires : goal.exact_product-c-requires
exact_product-c-requires c = corner_fits c.args.hi c.args.low _ _ c.ranges.hi c.ranges.low (omega arith) (omega arith) c.requires

pub exact_product-d-requires : goal.exact_product-d-requires
exact_product-d-requires c = corner_fits c.args.hi c.args.high _ _ c.ranges.hi c.ranges.high (omega arith) (omega arith) c.requires

pub returns-clause-least : goal.returns-clause-least
returns-clause-least c =
    let first = called ◌*ℤ◌ c.exact_product-a.result c.args.lo c.args.low _ _ c.exact_product-a.ensures (typed c.exact_product-a.result c.exact_product-a.type_inv) (fitting c.args.lo c.ranges.lo) (fitting c.args.low c.ranges.low) in
    let second = called ◌*ℤ◌ c.exact_product-b.result c.args.lo c.args.high _ _ c.exact_product-b.ensures (typed c.exact_product-b.result c.exact_product-b.type_inv) (fitting c.args.lo c.ranges.lo) (fitting c.args.high c.ranges.high) in
    let third = called ◌*ℤ◌ c.exact_product-c.result c.args.hi c.args.low _ _ c.exact_product-c.ensures (typed c.exact_product-c.result c.exact_product-c.type_inv) (fitting c.args.hi c.ranges.hi) (fitting c.args.low c.ranges.low) in
    let fourth = called ◌*ℤ◌ c.exact_product-d.result c.args.hi c.args.high _ _ c.exact_product-d.ensures (typed c.exact_product-d.result c.exact_product-d.type_inv) (fitting c.args.hi c.ranges.hi) (fitting c.args.high c.ranges.high) in
    called_with_four least_of_four c.least.result c.exact_product-a.result c.exact_product-b.result c.exact_product-c.result c.exact_product-d.result _ _ _ _ c.least.ensures (typed c.least.result c.least.type_inv) first second third fourth

pub returns-clause-greatest : goal.returns-clause-greatest
returns-clause-greatest c =
    let first = called ◌*ℤ◌ c.exact_product-a.result c.args.lo c.args.low _ _ c.exact_product-a.ensures (typed c.exact_product-a.result c.exact_product-a.type_inv) (fitting c.args.lo c.ranges.lo) (fitting c.args.low c.ranges.low) in
    let second = called ◌*ℤ◌ c.exact_product-b.result c.args.lo c.args.high _ _ c.exact_product-b.ensures (typed c.exact_product-b.result c.exact_product-b.type_inv) (fitting c.args.lo c.ranges.lo) (fitting c.args.high c.ranges.high) in
    let third = called ◌*ℤ◌ c.exact_product-c.result c.args.hi c.args.low _ _ c.exact_product-c.ensures (typed c.exact_product-c.result c.exact_product-c.type_inv) (fitting c.args.hi c.ranges.hi) (fitting c.args.low c.ranges.low) in
    let fourth = called ◌*ℤ◌ c.exact_product-d.result c.args.hi c.args.high _ _ c.exact_product-d.ensures (typed c.exact_product-d.result c.exact_product-d.type_inv) (fitting c.args.hi c.ranges.hi) (fitting c.args.high c.ranges.high) in
    called_with_four greatest_of_four c.greatest.result c.exact_product-a.result c.exact_product-b.result c.exact_product-c.result c.exact_product-d.result _ _ _ _ c.greatest.ensures (typed c.greatest.result c.greatest.type_inv) first second third fourth
