use Rattle.std.proofs.Common.{ap, arith}
use Rattle.std.proofs.lemmas.Int.{ints}
use Rattle.fixed_interval.specs.Grid.{Range}
use Rattle.altitude_test.proofs.angles.latitude.Goals as goal

pub returns-clause-narrow : goal.returns-clause-narrow
returns-clause-narrow c =
    let low = ap (λ (r : Range). r.lo) c.new.ensures in
    let high = ap (λ (r : Range). r.hi) c.new.ensures in
    omega (arith, ints)
