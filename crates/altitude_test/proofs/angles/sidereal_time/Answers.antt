use Rattle.std.proofs.Common.{arith}
use Rattle.std.proofs.lemmas.Int.{ints}
use Rattle.altitude_test.proofs.angles.sidereal_time.Goals as goal

pub returns-clause-narrow : goal.returns-clause-narrow
returns-clause-narrow c = omega (arith, ints)
