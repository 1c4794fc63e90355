use Rattle.std.proofs.Common.{◌≡◌, ◌++◌, map, drop}
use Rattle.region.specs.Rings.{polygon_edges}
use Rattle.region.specs.Strips.{numbered, kept}
use Rattle.region.proofs.polygons.keep_rings.Given as goal

abbrev pub invariant-loop-ring : goal.invariant-loop-ring
invariant-loop-ring l =
    map numbered l.edges.items ++ kept l.polygon l.low l.high (polygon_edges (drop l.ring-index l.rings))
    ≡ map numbered l.initial.edges.items ++ kept l.polygon l.low l.high (polygon_edges l.rings)
