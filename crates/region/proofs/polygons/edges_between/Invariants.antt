use Rattle.std.proofs.Common.{◌≡◌, ◌++◌, map, drop}
use Rattle.region.specs.Strips.{numbered, kept_from}
use Rattle.region.proofs.polygons.edges_between.Given as goal

abbrev pub invariant-loop-polygon : goal.invariant-loop-polygon
invariant-loop-polygon l =
    (l.number ≡ l.polygon-index)
    × (map numbered l.edges.items ++ kept_from l.number l.low l.high (drop l.polygon-index l.polygons) ≡ kept_from 0 l.low l.high l.polygons)
