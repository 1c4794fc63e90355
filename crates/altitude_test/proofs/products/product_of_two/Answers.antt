use Rattle.std.proofs.Common.{◌*◌, ◌/◌, arith}
use Rattle.fixed_interval.specs.Grid.{UNIT}
use Rattle.solar_terms.proofs.Sizes.{product_at_most}
use Rattle.altitude_test.proofs.products.product_of_two.Goals as goal

pub returns-clause-bound : goal.returns-clause-bound
returns-clause-bound c =
    let h = product_at_most _ _ _ (4 * UNIT / 3) (4 * UNIT / 3) c.narrow_product.ensures.bound (omega arith) (omega arith) in
    omega (arith, h)
