use Rattle.std.proofs.Common.{◌≡◌, drop, map}
use Rattle.plane_edges.specs.EdgePoints.{first_point}
use Rattle.plane_edges.specs.Views.{box_of, segment_of}
use Rattle.region.proofs.scans.first_of.Given as goal

abbrev pub invariant-loop-edge : goal.invariant-loop-edge
invariant-loop-edge l =
    first_point (box_of l.r) (map segment_of (drop l.edge-index l.edges)) ≡ first_point (box_of l.r) (map segment_of l.edges)
