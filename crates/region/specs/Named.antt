-- The place that is named for a box: where a district's border first meets the box, in the order of
-- polygons, rings and positions, or else the box's corner, if it is in the district.
use Rattle.std.specs.Prelude.{if◌then◌else◌, List, Option, Some, None}
use Rattle.std.specs.Option.{option_or}
use Rattle.std.specs.List.{flat_map}
use Rattle.plane_edges.specs.Plane.{Place, Box}
use Rattle.plane_edges.specs.EdgePoints.{first_point, corner}
use Rattle.ring_survey.specs.Polygons.{Polygon}
use Rattle.region.specs.Rings.{polygon_edges, is_in_district}

abbrev pub named : Box → List Polygon → Option Place
named box polygons =
    option_or (first_point box (flat_map polygon_edges polygons))
    (if is_in_district (corner box) polygons then Some (corner box) else None)
