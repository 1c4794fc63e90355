use Rattle.std.proofs.Common.{◌≡◌, drop}
use Rattle.region.specs.Rings.{polygon_edges}
use Rattle.plane_edges.specs.EdgePoints.{first_point}
use Rattle.plane_edges.specs.Views.{box_of}
use Rattle.region.proofs.polygons.rings_point.Given as goal

abbrev pub invariant-loop-ring : goal.invariant-loop-ring
invariant-loop-ring l =
    first_point (box_of l.r) (polygon_edges (drop l.ring-index l.rings)) ≡ first_point (box_of l.r) (polygon_edges l.rings)
