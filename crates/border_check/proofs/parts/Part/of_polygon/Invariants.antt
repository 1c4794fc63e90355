use Rattle.std.proofs.Common.{drop}
use Rattle.plane_edges.specs.EdgePoints.{corner}
use Rattle.plane_edges.specs.Plane.{crosses}
use Rattle.ring_survey.specs.Vectors.{rings_in}
use Rattle.border_check.specs.Views.{box_of}
use Rattle.border_check.specs.Shares.{meets}
use Rattle.border_check.proofs.Growing.{RingsTaken}
use Rattle.border_check.proofs.parts.Part.of_polygon.Given as goal

abbrev pub invariant-loop-ring : goal.invariant-loop-ring
invariant-loop-ring l =
    RingsTaken (meets (box_of l.r)) (crosses (corner (box_of l.r))) (rings_in l.rings) l.part (rings_in (drop l.ring-index l.rings))
