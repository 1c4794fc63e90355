use Rattle.ring_survey.specs.Vectors.{rings_in}
use Rattle.std.proofs.Common.{drop}
use Rattle.ring_survey.proofs.Counting.{Numbered}
use Rattle.ring_survey.proofs.counts.number_after.Given as goal

abbrev pub invariant-loop-ring : goal.invariant-loop-ring
invariant-loop-ring l = Numbered l.fn.first (rings_in l.rings) (rings_in (drop l.ring-index l.rings)) l.number
