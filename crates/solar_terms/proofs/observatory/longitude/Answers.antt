use Rattle.std.proofs.Common.{arith}
use Rattle.std.proofs.lemmas.Int.{ints}
use Rattle.solar_terms.proofs.observatory.longitude.Goals as goal

pub scaled_sine-second-requires-clause-narrow : goal.scaled_sine-second-requires-clause-narrow
scaled_sine-second-requires-clause-narrow c = omega (arith, ints)

pub plus-requires-3-clause-low_left : goal.plus-requires-3-clause-low_left
plus-requires-3-clause-low_left c = omega (arith, ints)

pub plus-requires-3-clause-high_left : goal.plus-requires-3-clause-high_left
plus-requires-3-clause-high_left c = omega (arith, ints)

pub returns-clause-narrow : goal.returns-clause-narrow
returns-clause-narrow c = omega (arith, ints)
