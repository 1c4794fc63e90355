-- The least box round positions, as it grows.
use Rattle.std.specs.Prelude.{pos, List, Option, Some, None}
use Rattle.std.specs.Int.{int_min, int_max}
use Rattle.ring_survey.specs.declared.bounds.Bounds.{Bounds}
use Rattle.ring_survey.specs.Polygons.{Position, Polygon}
use Rattle.ring_survey.specs.Extent.{longitudes, latitudes, least, greatest}

abbrev pub widened : Option Bounds → Position → Option Bounds
widened None p = Some (record { west = p.0; east = p.0; south = p.1; north = p.1 })
widened (Some b) p =
    Some (record {
      west = int_min b.west p.0;
      east = int_max b.east p.0;
      south = int_min b.south p.1;
      north = int_max b.north p.1;
    })

-- the box, and that of the place 0, 0 where there is none
abbrev pub or_zero : Option Bounds → Bounds
or_zero None = record { west = pos 0; east = pos 0; south = pos 0; north = pos 0 }
or_zero (Some b) = b

abbrev pub bounds_of : List Polygon → Bounds
bounds_of polygons = record {
  west = least (longitudes polygons);
  east = greatest (longitudes polygons);
  south = least (latitudes polygons);
  north = greatest (latitudes polygons);
}
