use Rattle.std.proofs.Common.{◌≡◌, drop}
use Rattle.json_value.specs.View.{items_of}
use Rattle.order_member.specs.Members.{pair_in}
use Rattle.order_member.proofs.late.pairs_in.Given as goal
use Rattle.ring_survey.proofs.EachLemmas.{with_front}
use Rattle.ring_survey.specs.Each.{each_of}

-- the pairs so far, with those that are left, are all
abbrev pub invariant-loop-i : goal.invariant-loop-i
invariant-loop-i l = with_front l.pairs.items (each_of pair_in (drop l.i (items_of l.list))) ≡ each_of pair_in (items_of l.list)
