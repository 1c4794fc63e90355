use Rattle.std.proofs.Common.{◌*◌, ◌/◌, arith}
use Rattle.fixed_interval.specs.Grid.{UNIT}
use Rattle.asr_test.proofs.noon.cosine_declination.Goals as goal

pub returns-clause-bound : goal.returns-clause-bound
returns-clause-bound c =
    let h = c.root.ensures.bound (205 * UNIT / 100) (omega arith) in
    omega (arith, h)
