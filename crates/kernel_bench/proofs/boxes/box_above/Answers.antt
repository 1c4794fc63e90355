use Rattle.std.proofs.Common.{arith}
use Rattle.std.proofs.lemmas.Int.{ints}
use Rattle.kernel_bench.proofs.boxes.box_above.Goals as goal

pub returns-clause-low : goal.returns-clause-low
returns-clause-low c = omega (arith, ints, c.new.ensures.y0, c.spread.ensures.low)

pub returns-clause-high : goal.returns-clause-high
returns-clause-high c = omega (arith, ints, c.new.ensures.y1, c.spread.ensures.high, c.from-2.ensures, c.side-side.ensures)
