use Rattle.std.proofs.Common.{drop}
use Rattle.plane_edges.specs.EdgePoints.{corner}
use Rattle.plane_edges.specs.Plane.{crosses}
use Rattle.border_check.specs.Views.{box_of}
use Rattle.border_check.specs.Shares.{meets}
use Rattle.border_check.proofs.Growing.{TakenAlong}
use Rattle.border_check.proofs.parts.Part.take_along.Given as goal

abbrev pub invariant-loop-next : goal.invariant-loop-next
invariant-loop-next l =
    TakenAlong (meets (box_of l.r)) (crosses (corner (box_of l.r))) l.fn.self l.fn.first l.rest l.self l.previous (drop l.next-index l.rest)
