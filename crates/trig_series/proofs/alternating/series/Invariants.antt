use Rattle.std.proofs.Common.{◌*◌}
use Rattle.trig_series.specs.Magnitudes.{ends_of}
use Rattle.trig_series.specs.PartialSum.{HasTerms}
use Rattle.trig_series.proofs.alternating.series.Given as goal

abbrev pub invariant-loop-pair : goal.invariant-loop-pair
invariant-loop-pair l = HasTerms l.fn.power (ends_of l.fn.first) (ends_of l.fn.square) (2 * l.pair) l.sum

abbrev pub invariant-loop-pair-2 : goal.invariant-loop-pair-2
invariant-loop-pair-2 l = HasTerms l.fn.power (ends_of l.fn.first) (ends_of l.fn.square) (2 * l.pair) l.sum
