-- What of a list of polygons matters in a box: by polygon the edges that meet the box, and whether the
-- box's corner is inside; and how a box within it takes its own share from that.
use Rattle.std.specs.Prelude.{ℤ, int_lt, Bool, false, not, ◌&&◌, ◌||◌, if◌then◌else◌, List, [], ◌∷◌, ◌++◌, count_by}
use Rattle.std.specs.Option.{is_some}
use Rattle.std.specs.List.{filter}
use Rattle.plane_edges.specs.Plane.{Place, Segment, Box, is_above, crosses, xor}
use Rattle.ring_survey.specs.Polygons.{Polygon}
use Rattle.region.specs.Rings.{polygon_edges, is_odd}
use Rattle.plane_edges.specs.EdgePoints.{edge_point, corner}
use Rattle.ring_survey.specs.Faults.{is_empty}

-- some place of the edge is in the box
abbrev pub meets : Box → Segment → Bool
meets box e = is_some (edge_point box e)

-- the edges that meet the box
abbrev pub near : Box → List Segment → List Segment
near box edges = filter (meets box) edges

-- a ray from the place to the east crosses an odd number of the edges
abbrev pub odd_at : Place → List Segment → Bool
odd_at p edges = is_odd (count_by (crosses p) edges)

-- edges of one polygon, and whether a ray from a box's corner crosses an odd number of the polygon's edges
pub record PartView : Type 0 where
  pub edges : List Segment
  pub odd : Bool

-- the polygons of which an edge meets a box, and whether another one holds all of the box
pub record ShareView : Type 0 where
  pub parts : List PartView
  pub inside : Bool

-- one more polygon, before the others
abbrev pub with_part : PartView → ShareView → ShareView
with_part part share = record {
  parts = if is_empty part.edges then share.parts else part ∷ share.parts;
  inside = (is_empty part.edges && part.odd) || share.inside;
}

-- a polygon's edges that meet the box, and its corner's parity
abbrev pub part_of : Box → List Segment → PartView
part_of box edges = record { edges = near box edges; odd = odd_at (corner box) edges }

-- what of the polygons matters in the box
abbrev pub share_of : Box → List Polygon → ShareView
share_of box [] = record { parts = []; inside = false }
share_of box (rings ∷ rest) = with_part (part_of box (polygon_edges rings)) (share_of box rest)

-- ---- from a box to one within it

-- an end of an edge between the latitudes of the box's corner and of a place, east of the corner
abbrev pub is_passed : Box → Place → ℤ → ℤ → Bool
is_passed box p x y = int_lt box.x0 x && (is_above (corner box) y && not (is_above p y))

-- the edge changes the parity on the way from the box's corner to the place
abbrev pub changes : Box → Place → Segment → Bool
changes box p e =
    xor (xor (crosses p e) (crosses (corner box) e)) (xor (is_passed box p e.xa e.ya) (is_passed box p e.xb e.yb))

-- a part of the box's share, as the inner box sees it
abbrev pub part_within : Box → Box → PartView → PartView
part_within box inner part = record {
  edges = near inner part.edges;
  odd = xor part.odd (is_odd (count_by (changes box (corner inner)) part.edges));
}

abbrev pub parts_within : Box → Box → List PartView → Bool → ShareView
parts_within box inner [] inside = record { parts = []; inside = inside }
parts_within box inner (part ∷ rest) inside =
    with_part (part_within box inner part) (parts_within box inner rest inside)

-- the inner box's share, by that of the box alone
abbrev pub share_within : Box → Box → ShareView → ShareView
share_within box inner share = parts_within box inner share.parts share.inside

-- ---- edge by edge

-- a part with more edges of its polygon: those that are kept, and how many turn the parity
abbrev pub grown : (Segment → Bool) → (Segment → Bool) → PartView → List Segment → PartView
grown keep turn part edges = record {
  edges = part.edges ++ filter keep edges;
  odd = xor part.odd (is_odd (count_by turn edges));
}

-- one more polygon, behind the others
abbrev pub with_last : ShareView → PartView → ShareView
with_last share part = record {
  parts = if is_empty part.edges then share.parts else share.parts ++ (part ∷ []);
  inside = (is_empty part.edges && part.odd) || share.inside;
}
