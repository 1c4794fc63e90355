use Rattle.std.proofs.Common.{◌*◌, ◌^◌, arith, refl}
use Rattle.fixed_interval.proofs.Products.{floored, ceiled}
use Rattle.fixed_interval.proofs.Sizes.{quotient_ordered, abs-ceil_over, div_ceil_least}
use Rattle.meeus_terms.proofs.polynomials.whole_units.Goals as goal

pub new-requires-clause-ordered : goal.new-requires-clause-ordered
new-requires-clause-ordered c =
    let low = floored c.floor_quotient.result c.args.low c.args.low c.args.bottom c.requires.positive c.floor_quotient.ensures refl (omega (arith, c.requires.low_in_range)) in
    let high = ceiled c.ceil_quotient.result c.args.high c.args.high c.args.bottom c.requires.positive c.ceil_quotient.ensures refl (omega (arith, c.requires.high_in_range)) in
    rw (low, high) (quotient_ordered c.args.low c.args.high c.args.bottom c.requires.positive c.requires.ordered)

pub new-requires-clause-high_in_range : goal.new-requires-clause-high_in_range
new-requires-clause-high_in_range c =
    let high = ceiled c.ceil_quotient.result c.args.high c.args.high c.args.bottom c.requires.positive c.ceil_quotient.ensures refl (omega (arith, c.requires.high_in_range)) in
    let small = abs-ceil_over c.args.high (2 ^ 60 * c.args.bottom) c.args.bottom c.requires.positive c.requires.high_small in
    rw high (omega (arith, small, div_ceil_least (2 ^ 60 * c.args.bottom) c.args.bottom (2 ^ 60) c.requires.positive (omega arith)))
