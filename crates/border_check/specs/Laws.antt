-- What a tree without an unsettled square shows, and what an unsettled one does.
use Rattle.std.specs.Prelude.{◌≡◌, ◌⊎◌, List, Some, None, IsTrue, IsFalse}
use Rattle.std.specs.List.{list_any, flat_map}
use Rattle.plane_edges.specs.Plane.{Place, Box, IsIn, is_on}
use Rattle.ring_survey.specs.Polygons.{Polygon, are_closed}
use Rattle.region.specs.Rings.{polygon_edges, is_in_district}
use Rattle.border_check.specs.declared.squares.Square.{Square}
use Rattle.border_check.specs.Squares.{box_in}
use Rattle.border_check.specs.Settled.{unsettled}

-- every rational place of the square that is in the border is in the district
abbrev pub HoldsIn : Square → List Polygon → List Polygon → Type 0
HoldsIn s border district =
    (p : Place) → IsIn (box_in s) p → IsTrue (is_in_district p border) → IsTrue (is_in_district p district)

-- the place lies on one of the polygons' edges
abbrev pub IsOnEdge : Place → List Polygon → Type 0
IsOnEdge p polygons = IsTrue (list_any (is_on p) (flat_map polygon_edges polygons))

-- A box that is rightly not settled: a place of it is in the border, and one isn't in the district or lies
-- on an edge of it.
pub record IsOpen (border district : List Polygon) (box : Box) : Type 0 where
  pub place : Place
  pub in_box : IsIn box place
  pub in_border : IsTrue (is_in_district place border)
  pub other : Place
  pub other_in_box : IsIn box other
  pub not_inside : IsFalse (is_in_district other district) ⊎ IsOnEdge other district

-- a tree that is settled shows the whole root
abbrev pub SettledHolds : Type 0
SettledHolds = (border district : List Polygon) (s : Square) → IsTrue (are_closed border) → IsTrue (are_closed district)
    → unsettled border district s ≡ None → HoldsIn s border district

-- the square that is named has side 1, and it is rightly not settled
abbrev pub UnsettledIsOpen : Type 0
UnsettledIsOpen = (border district : List Polygon) (s found : Square) → IsTrue (are_closed border)
    → IsTrue (are_closed district) → unsettled border district s ≡ Some found
    → (found.size ≡ 0) × IsOpen border district (box_in found)
