-- Three calls of `min`, each on what the one before gave.
use Rattle.std.specs.Int.{int_min}
use Rattle.fixed_interval.specs.Whole.{least_of_four}
use Rattle.fixed_interval.proofs.Bits.{called, typed, fitting}
use Rattle.fixed_interval.proofs.steps.least.Goals as goal

pub returns : goal.returns
unfolding least_of_four
returns c =
    let first = called int_min _ c.args.a c.args.b _ _ c.min.ensures.value (typed c.min.result c.min.type_inv) (fitting c.args.a c.ranges.a) (fitting c.args.b c.ranges.b) in
    let second = called int_min _ c.args.c c.args.d _ _ c.min-2.ensures.value (typed c.min-2.result c.min-2.type_inv) (fitting c.args.c c.ranges.c) (fitting c.args.d c.ranges.d) in
    called int_min _ c.min.result c.min-2.result _ _ c.min-3.ensures.value (typed c.min-3.result c.min-3.type_inv) first second
