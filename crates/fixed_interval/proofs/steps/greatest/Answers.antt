-- Three calls of `max`, each on what the one before gave.
use Rattle.std.specs.Int.{int_max}
use Rattle.fixed_interval.specs.Whole.{greatest_of_four}
use Rattle.fixed_interval.proofs.Bits.{called, typed, fitting}
use Rattle.fixed_interval.proofs.steps.greatest.Goals as goal

pub returns : goal.returns
unfolding greatest_of_four
returns c =
    let first = called int_max _ c.args.a c.args.b _ _ c.max.ensures.value (typed c.max.result c.max.type_inv) (fitting c.args.a c.ranges.a) (fitting c.args.b c.ranges.b) in
    let second = called int_max _ c.args.c c.args.d _ _ c.max-2.ensures.value (typed c.max-2.result c.max-2.type_inv) (fitting c.args.c c.ranges.c) (fitting c.args.d c.ranges.d) in
    called int_max _ c.max.result c.max-2.result _ _ c.max-3.ensures.value (typed c.max-3.result c.max-3.type_inv) first second
