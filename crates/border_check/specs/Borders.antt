-- Borders: polygons of up to a million positions. A border is refused as a district is, but that it may be wide.
use Rattle.std.specs.Prelude.{◌≡◌, true, false, nat_lt, if◌then◌else◌, List, length, Option, Some, None}
use Rattle.std.specs.Option.{option_or}
use Rattle.std.specs.List.{list_any, flat_map}
use Rattle.ring_survey.specs.declared.faults.RegionFault.{RegionFault}
use Rattle.ring_survey.specs.declared.faults.RegionFault.TheVariants.{TooMany, TooFar, NoPolygon}
use Rattle.ring_survey.specs.Polygons.{Position, Polygon, are_closed}
use Rattle.ring_survey.specs.Extent.{is_far, positions_of}
use Rattle.ring_survey.specs.Faults.{lacks_ring, ring_fault}

-- the positions of a polygon's rings
abbrev pub positions_in : Polygon → List Position
positions_in rings = flat_map (λ ring. ring) rings

abbrev pub border_fault : List Polygon → Option RegionFault
border_fault polygons =
    if lacks_ring polygons then Some NoPolygon
    else if nat_lt 1_000_000 (length (positions_of polygons)) then Some TooMany
    else option_or (ring_fault 0 (flat_map (λ rings. rings) polygons))
    (if list_any is_far (positions_of polygons) then Some TooFar else None)

-- closed rings of positions that aren't far
pub record IsDrawn (polygons : List Polygon) : Type 0 where
  pub closed : are_closed polygons ≡ true
  pub near : list_any is_far (positions_of polygons) ≡ false
