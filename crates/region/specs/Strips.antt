-- A district's edges cut into strips of latitude, each edge with its polygon's number.
use Rattle.std.specs.Prelude.{◌≡◌, ℤ, pos, ℕ, ◌+◌, ◌*◌, ◌^◌, ◌<◌, ◌+ℤ◌, int_lt, Bool, not, ◌&&◌, ◌||◌, if◌then◌else◌, ◌==◌, List, [], ◌∷◌, ◌++◌, length, map, Some, None, Option, IsFalse, IsTrue, slice_index_or}
use Rattle.std.specs.Option.{option_or}
use Rattle.std.specs.List.{filter, flat_map, list_any}
use Rattle.plane_edges.specs.declared.edges.Edge.{Edge}
use Rattle.plane_edges.specs.Plane.{Place, Segment, Box, is_on, crosses, xor, IsOrdered}
use Rattle.ring_survey.specs.Polygons.{Polygon}
use Rattle.region.specs.Rings.{polygon_edges, is_within}
use Rattle.plane_edges.specs.EdgePoints.{first_point, corner, misses_latitudes}
use Rattle.region.specs.Named.{named}
use Rattle.plane_edges.specs.Views.{segment_of}

-- all edges in the order of polygons, rings and positions, the polygons counted from n
abbrev pub numbered_edges : ℕ → List Polygon → List (ℕ × Segment)
numbered_edges n [] = []
numbered_edges n (rings ∷ rest) = map (λ e. (n, e)) (polygon_edges rings) ++ numbered_edges (n + 1) rest

-- the edge's closed range of latitudes meets that from low to high
abbrev pub reaches : ℤ → ℤ → Segment → Bool
reaches low high e = not ((int_lt e.ya low && int_lt e.yb low) || (int_lt high e.ya && int_lt high e.yb))

-- a strip is 2^23 place units high
abbrev pub top_of : ℤ → ℤ
top_of low = low +ℤ pos (2 ^ 23)

-- the edges that reach the latitudes from low to high
abbrev pub edges_between : ℤ → ℤ → List Polygon → List (ℕ × Segment)
edges_between low high polygons = filter (λ t. reaches low high t.1) (numbered_edges 0 polygons)

-- the edges of the strip that begins at low
abbrev pub strip_edges : ℤ → List Polygon → List (ℕ × Segment)
strip_edges low polygons = edges_between low (top_of low) polygons

-- a strip's lower end and its edges
pub record StripView : Type 0 where
  pub low : ℤ
  pub edges : List Edge

abbrev pub numbered : Edge → ℕ × Segment
numbered e = (e.polygon, segment_of e)

-- the strip holds exactly the district's edges that reach it, in their order
pub record IsStripOf (polygons : List Polygon) (strip : StripView) : Type 0 where
  pub edges_are : map numbered strip.edges ≡ strip_edges strip.low polygons

-- a band's lower and upper end and its edges
pub record BandView : Type 0 where
  pub low : ℤ
  pub high : ℤ
  pub edges : List Edge

-- the band holds exactly the district's edges that reach it, in their order
pub record IsBandOf (polygons : List Polygon) (band : BandView) : Type 0 where
  pub edges_are : map numbered band.edges ≡ edges_between band.low band.high polygons

-- strips one on another
pub record AreStripsFrom (polygons : List Polygon) (south : ℤ) (strips : List StripView) : Type 0 where
  pub all : (i : ℕ) (d : StripView) → i < length strips →
      ((slice_index_or strips i d).low ≡ south +ℤ pos (i * 2 ^ 23)) × IsStripOf polygons (slice_index_or strips i d)

-- the 64 strips of a root's height
pub record AreStripsOf (polygons : List Polygon) (south : ℤ) (strips : List StripView) : Type 0 where
  pub number : length strips ≡ 64
  pub all : (i : ℕ) (d : StripView) → i < length strips →
      ((slice_index_or strips i d).low ≡ south +ℤ pos (i * 2 ^ 23)) × IsStripOf polygons (slice_index_or strips i d)

-- the named place by some of each polygon's edges
abbrev pub named_by : Box → List (List Segment) → Option Place
named_by box groups =
    option_or (first_point box (flat_map (λ edges. edges) groups))
    (if list_any (is_within (corner box)) groups then Some (corner box) else None)

-- An edge whose latitudes don't meet the box's changes neither the named place nor its absence: any
-- choice of edges that leaves out only such ones names the same.
abbrev pub NamesWithoutBeyond : Type 0
NamesWithoutBeyond = (box : Box) (polygons : List Polygon) (keep : Segment → Bool) → IsOrdered box
    → ((e : Segment) → IsFalse (keep e) → IsTrue (misses_latitudes box e))
    → named_by box (map (λ rings. filter keep (polygon_edges rings)) polygons) ≡ named box polygons

-- whether the place is in a polygon, by numbered edges in order: those of polygon n so far crossed an
-- odd number of times, or not
abbrev pub is_in_some : Place → ℕ → Bool → List (ℕ × Segment) → Bool
is_in_some p n odd [] = odd
is_in_some p n odd (t ∷ rest) =
    if t.0 == n
    then is_on p t.1 || is_in_some p n (xor odd (crosses p t.1)) rest
    else odd || (is_on p t.1 || is_in_some p t.0 (crosses p t.1) rest)

-- ---- edges as they are kept

-- those of a polygon's edges that reach the latitudes from low to high
abbrev pub kept : ℕ → ℤ → ℤ → List Segment → List (ℕ × Segment)
kept n low high edges = map (λ e. (n, e)) (filter (reaches low high) edges)

-- the same of all polygons, counted from n
abbrev pub kept_from : ℕ → ℤ → ℤ → List Polygon → List (ℕ × Segment)
kept_from n low high [] = []
kept_from n low high (rings ∷ rest) = kept n low high (polygon_edges rings) ++ kept_from (n + 1) low high rest
