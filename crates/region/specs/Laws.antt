-- Laws on places, boxes and districts, each the clause of a public function with an empty body.
use Rattle.std.specs.Prelude.{◌≡◌, List, IsTrue, IsFalse, MatchOption}
use Rattle.std.specs.List.{list_any, list_all}
use Rattle.plane_edges.specs.Plane.{Place, Box, IsIn, IsOrdered, is_on}
use Rattle.ring_survey.specs.Polygons.{Polygon, is_closed, are_closed}
use Rattle.region.specs.Rings.{polygon_edges, is_in_polygon, is_in_district}
use Rattle.region.specs.Named.{named}

-- a box that no edge of a polygon meets is wholly inside the polygon or wholly outside
abbrev pub IsWhollyInOrOut : Type 0
IsWhollyInOrOut = (box : Box) (rings : Polygon) → IsTrue (list_all is_closed rings)
    → ((r : Place) → IsIn box r → IsFalse (list_any (is_on r) (polygon_edges rings)))
    → (p q : Place) → IsIn box p → IsIn box q → is_in_polygon p rings ≡ is_in_polygon q rings

-- the named place is in the box and in the district, and where none is named no place of the box is
abbrev pub NamesExactly : Type 0
NamesExactly = (box : Box) (polygons : List Polygon) → IsOrdered box → IsTrue (are_closed polygons)
    → MatchOption (named box polygons)
    ((p : Place) → IsIn box p → IsFalse (is_in_district p polygons))
    (λ p. IsIn box p × IsTrue (is_in_district p polygons))
