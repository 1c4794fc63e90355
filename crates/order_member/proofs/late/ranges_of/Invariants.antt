use Rattle.std.proofs.Common.{◌≡◌, drop}
use Rattle.order_member.specs.Members.{range_of}
use Rattle.order_member.proofs.late.ranges_of.Given as goal
use Rattle.ring_survey.proofs.EachLemmas.{with_front}
use Rattle.ring_survey.specs.Each.{each_of}

-- the ranges so far, with those that are left, are all
abbrev pub invariant-loop-pair : goal.invariant-loop-pair
invariant-loop-pair l = with_front l.ranges.items (each_of range_of (drop l.pair-index l.pairs)) ≡ each_of range_of l.pairs
