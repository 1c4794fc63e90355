use Rattle.std.proofs.Common.{◌≡◌, ◌+◌, drop, length}
use Rattle.std.specs.List.{flat_map}
use Rattle.ring_survey.specs.Vectors.{rings_in}
use Rattle.ring_survey.proofs.counts.room_after.Given as goal

abbrev pub invariant-loop-ring : goal.invariant-loop-ring
invariant-loop-ring l =
    l.left + length (flat_map (λ ring. ring) (rings_in l.rings))
    ≡ l.fn.room + length (flat_map (λ ring. ring) (rings_in (drop l.ring-index l.rings)))
