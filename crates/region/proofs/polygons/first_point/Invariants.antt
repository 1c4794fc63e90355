use Rattle.std.proofs.Common.{◌≡◌, drop}
use Rattle.std.specs.List.{flat_map}
use Rattle.region.specs.Rings.{polygon_edges}
use Rattle.plane_edges.specs.EdgePoints.{first_point}
use Rattle.plane_edges.specs.Views.{box_of}
use Rattle.region.proofs.polygons.first_point.Given as goal

abbrev pub invariant-loop-polygon : goal.invariant-loop-polygon
invariant-loop-polygon l =
    first_point (box_of l.r) (flat_map polygon_edges (drop l.polygon-index l.polygons))
    ≡ first_point (box_of l.r) (flat_map polygon_edges l.polygons)
