-- Which squares are settled, and the first of a tree of quarters that isn't.
use Rattle.std.specs.Prelude.{ℕ, zero, suc, Bool, true, false, not, ◌&&◌, ◌||◌, if◌then◌else◌, List, Option, Some, None}
use Rattle.std.specs.Option.{is_none, option_or}
use Rattle.std.specs.List.{flat_map}
use Rattle.plane_edges.specs.Plane.{Box}
use Rattle.ring_survey.specs.Polygons.{Polygon}
use Rattle.region.specs.Rings.{polygon_edges, is_in_district}
use Rattle.plane_edges.specs.EdgePoints.{first_point, corner}
use Rattle.ring_survey.specs.Faults.{is_empty}
use Rattle.border_check.specs.declared.squares.Square.{Square}
use Rattle.border_check.specs.Shares.{ShareView, share_within}
use Rattle.border_check.specs.Squares.{box_in, quarter}

-- no edge of the polygons meets the box
abbrev pub is_clear : Box → List Polygon → Bool
is_clear box polygons = is_none (first_point box (flat_map polygon_edges polygons))

-- no place of the box is in the border: no edge of it meets the box, and the box's corner isn't in it
abbrev pub is_free : Box → List Polygon → Bool
is_free box border = is_clear box border && not (is_in_district (corner box) border)

-- the whole box is in the district: no edge of it meets the box, and the box's corner is in it
abbrev pub is_whole : Box → List Polygon → Bool
is_whole box district = is_clear box district && is_in_district (corner box) district

-- nothing of the border in the box is outside the district
abbrev pub is_settled : Box → List Polygon → List Polygon → Bool
is_settled box border district = is_free box border || is_whole box district

-- the first answer of the four quarters: south-west, south-east, north-west, north-east
abbrev pub first_of_quarters : (Square → Option Square) → Square → Option Square
first_of_quarters ask s =
    option_or (ask (quarter s false false))
    (option_or (ask (quarter s true false)) (option_or (ask (quarter s false true)) (ask (quarter s true true))))

-- the first square, in tree order, that isn't settled, down so many levels
unfoldable pub unsettled_to : ℕ → List Polygon → List Polygon → Square → Option Square
unsettled_to zero border district s = if is_settled (box_in s) border district then None else Some s
unsettled_to (suc n) border district s =
    if is_settled (box_in s) border district then None
    else first_of_quarters (unsettled_to n border district) s

-- The first square of side 1 in the tree of quarters that isn't settled, squares that are settled not quartered.
abbrev pub unsettled : List Polygon → List Polygon → Square → Option Square
unsettled border district s = unsettled_to s.size border district s

-- ---- the same by shares

abbrev pub settles : ShareView → ShareView → Bool
settles border district =
    (is_empty border.parts && not border.inside) || (is_empty district.parts && district.inside)

unfoldable pub open_to : ℕ → ShareView → ShareView → Square → Option Square
open_to zero border district s = if settles border district then None else Some s
open_to (suc n) border district s =
    if settles border district then None
    else first_of_quarters
    (λ q. open_to n (share_within (box_in s) (box_in q) border) (share_within (box_in s) (box_in q) district) q) s

abbrev pub open_in : ShareView → ShareView → Square → Option Square
open_in border district s = open_to s.size border district s
