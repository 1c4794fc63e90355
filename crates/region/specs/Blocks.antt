-- Edges that follow each other, in blocks of one polygon, each with a box round its edges.
use Rattle.std.specs.Prelude.{◌≡◌, ℕ, ◌<◌, ◌≤◌, ◌≤ℤ◌, Bool, ◌||◌, if◌then◌else◌, ◌==◌, List, [], ◌∷◌, length, map, take, drop, count_by, Option, None}
use Rattle.std.specs.Option.{option_or}
use Rattle.std.specs.List.{All, list_any}
use Rattle.region.specs.declared.blocks.Block.{Block}
use Rattle.plane_edges.specs.declared.edges.Edge.{Edge}
use Rattle.plane_edges.specs.Plane.{Place, Segment, Box, is_on, crosses, xor}
use Rattle.region.specs.Rings.{is_odd}
use Rattle.plane_edges.specs.EdgePoints.{first_point}
use Rattle.plane_edges.specs.Views.{segment_of}

-- the edge is of the block's polygon, and both its ends lie in the block's box
pub record IsHeld (block : Block) (e : Edge) : Type 0 where
  pub polygon_is : e.polygon ≡ block.polygon
  pub xa_east : block.west ≤ℤ e.xa
  pub xb_east : block.west ≤ℤ e.xb
  pub xa_west : e.xa ≤ℤ block.east
  pub xb_west : e.xb ≤ℤ block.east
  pub ya_north : block.south ≤ℤ e.ya
  pub yb_north : block.south ≤ℤ e.yb
  pub ya_south : e.ya ≤ℤ block.north
  pub yb_south : e.yb ≤ℤ block.north

-- the blocks hold the edges, one block after another, and none is empty
abbrev pub AreBlocksOf : List Block → List Edge → Type 0
AreBlocksOf [] edges = edges ≡ []
AreBlocksOf (b ∷ rest) edges =
    (0 < b.count) × (b.count ≤ length edges) × All (IsHeld b) (take b.count edges) × AreBlocksOf rest (drop b.count edges)

-- each block's polygon and edges
abbrev pub cut : List Block → List Edge → List (ℕ × List Segment)
cut [] edges = []
cut (b ∷ rest) edges = (b.polygon, map segment_of (take b.count edges)) ∷ cut rest (drop b.count edges)

-- the point of the first edge that meets the box, block by block
abbrev pub first_in_blocks : Box → List (ℕ × List Segment) → Option Place
first_in_blocks box [] = None
first_in_blocks box (t ∷ rest) = option_or (first_point box t.1) (first_in_blocks box rest)

-- whether the place is in a polygon, by blocks in order: those of polygon n so far crossed an odd number
-- of times, or not
abbrev pub is_in_some_block : Place → ℕ → Bool → List (ℕ × List Segment) → Bool
is_in_some_block p n odd [] = odd
is_in_some_block p n odd (t ∷ rest) =
    if t.0 == n
    then list_any (is_on p) t.1 || is_in_some_block p n (xor odd (is_odd (count_by (crosses p) t.1))) rest
    else odd || (list_any (is_on p) t.1 || is_in_some_block p t.0 (is_odd (count_by (crosses p) t.1)) rest)
