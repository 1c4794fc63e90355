use Rattle.std.proofs.Common.{◌≡◌, drop}
use Rattle.std.specs.List.{list_any, flat_map}
use Rattle.ring_survey.specs.Extent.{is_far}
use Rattle.ring_survey.specs.Vectors.{rings_in}
use Rattle.ring_survey.proofs.extents.any_far_ring.Given as goal

abbrev pub invariant-loop-ring : goal.invariant-loop-ring
invariant-loop-ring l =
    list_any is_far (flat_map (λ ring. ring) (rings_in (drop l.ring-index l.rings)))
    ≡ list_any is_far (flat_map (λ ring. ring) (rings_in l.rings))
