use Rattle.std.proofs.Common.{◌*◌, ◌/◌, ◌^◌, ap, arith}
use Rattle.std.proofs.lemmas.Int.{ints}
use Rattle.fixed_interval.specs.Grid.{UNIT, Range}
use Rattle.solar_terms.proofs.Sizes.{product_at_most}
use Rattle.meeus_terms.proofs.scaled.scaled.Goals as goal

pub returns-clause-low : goal.returns-clause-low
returns-clause-low c =
    let low = ap (λ (r : Range). r.lo) c.new.ensures in
    let h = product_at_most _ _ _ (4 * UNIT / 3) (2 ^ 40) c.scale_units-lo.ensures.bound (omega arith) (omega (arith, ints)) in
    omega (arith, ints, h)

pub returns-clause-high : goal.returns-clause-high
returns-clause-high c =
    let high = ap (λ (r : Range). r.hi) c.new.ensures in
    let h = product_at_most _ _ _ (4 * UNIT / 3) (2 ^ 40) c.scale_units-lo.ensures.bound (omega arith) (omega (arith, ints)) in
    omega (arith, ints, h)
