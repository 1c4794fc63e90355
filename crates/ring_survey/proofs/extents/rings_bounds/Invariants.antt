use Rattle.std.proofs.Common.{◌≡◌, drop}
use Rattle.std.specs.Prelude.{fold}
use Rattle.std.specs.List.{flat_map}
use Rattle.ring_survey.specs.Bounds.{widened}
use Rattle.ring_survey.specs.Vectors.{rings_in}
use Rattle.ring_survey.proofs.extents.rings_bounds.Given as goal

abbrev pub invariant-loop-ring : goal.invariant-loop-ring
invariant-loop-ring l =
    fold widened l.grown (flat_map (λ ring. ring) (rings_in (drop l.ring-index l.rings)))
    ≡ fold widened l.fn.bounds (flat_map (λ ring. ring) (rings_in l.rings))
