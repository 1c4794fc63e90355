use Rattle.std.proofs.Common.{◌*◌, arith}
use Rattle.fixed_interval.specs.Grid.{UNIT, reach}
use Rattle.fixed_interval.specs.Interval.{ends}
use Rattle.solar_terms.proofs.Sizes.{product_fits, product_at_most}
use Rattle.asr_test.proofs.value.signed_square_of_altitude.Goals as goal

pub signed_square-requires : goal.signed_square-requires
signed_square-requires c =
    product_fits (reach (ends c.args.sine)) (reach (ends c.args.sine)) (8 * UNIT) (8 * UNIT) (omega arith) (omega arith) (omega arith)

pub returns-clause-bound : goal.returns-clause-bound
returns-clause-bound c =
    let h = product_at_most _ _ _ (8 * UNIT) (8 * UNIT) c.signed_square.ensures.bound (omega arith) (omega arith) in omega (arith, h)
