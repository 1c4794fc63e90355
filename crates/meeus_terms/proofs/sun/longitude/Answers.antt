use Rattle.std.proofs.Common.{arith}
use Rattle.std.proofs.lemmas.Int.{ints}
use Rattle.meeus_terms.proofs.sun.longitude.Goals as goal

pub returns-clause-narrow : goal.returns-clause-narrow
returns-clause-narrow c = omega (arith, ints)
