-- The edges of rings and polygons, and when a place is in them.
use Rattle.std.specs.Prelude.{ℤ, pos, ℕ, ◌*ℤ◌, ◌%◌, ◌==◌, Bool, ◌||◌, List, [], ◌∷◌, count_by}
use Rattle.std.specs.List.{list_any, flat_map}
use Rattle.plane_edges.specs.Plane.{Place, Segment, is_on, crosses}
use Rattle.ring_survey.specs.Polygons.{Position, Ring, Polygon}

-- the edge between two positions, in place units
abbrev pub edge_between : Position → Position → Segment
edge_between p q = record {
  xa = pos 128 *ℤ p.0;
  ya = pos 128 *ℤ p.1;
  xb = pos 128 *ℤ q.0;
  yb = pos 128 *ℤ q.1;
}

-- the edges from each position to the next
abbrev pub edges_from : Position → Ring → List Segment
edges_from p [] = []
edges_from p (q ∷ rest) = edge_between p q ∷ edges_from q rest

abbrev pub ring_edges : Ring → List Segment
ring_edges [] = []
ring_edges (p ∷ rest) = edges_from p rest

abbrev pub polygon_edges : Polygon → List Segment
polygon_edges rings = flat_map ring_edges rings

-- an odd count
abbrev pub is_odd : ℕ → Bool
is_odd n = (n % 2) == 1

-- on one of the edges, or a ray to the east crosses an odd number of them
abbrev pub is_within : Place → List Segment → Bool
is_within p edges = list_any (is_on p) edges || is_odd (count_by (crosses p) edges)

-- on an edge of some ring, or inside by the even-odd rule over all rings together
abbrev pub is_in_polygon : Place → Polygon → Bool
is_in_polygon p rings = is_within p (polygon_edges rings)

-- in some polygon
abbrev pub is_in_district : Place → List Polygon → Bool
is_in_district p polygons = list_any (is_in_polygon p) polygons
