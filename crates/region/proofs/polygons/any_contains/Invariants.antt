use Rattle.std.proofs.Common.{◌≡◌, drop}
use Rattle.region.specs.Rings.{is_in_district}
use Rattle.plane_edges.specs.Views.{place_of}
use Rattle.region.proofs.polygons.any_contains.Given as goal

abbrev pub invariant-loop-polygon : goal.invariant-loop-polygon
invariant-loop-polygon l =
    is_in_district (place_of l.p) (drop l.polygon-index l.polygons) ≡ is_in_district (place_of l.p) l.polygons
