-- A shift by 56 bits loses none of a number of at most 2^70.
use Rattle.fixed_interval.proofs.Bits.{shifted}
use Rattle.fixed_interval.proofs.steps.radicand.Goals as goal

pub returns : goal.returns
returns c = shifted c.max.result c.args.x c.max.ensures.value c.ranges.x c.requires
