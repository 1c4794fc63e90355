-- A law on edges and boxes, the clause of a public function with an empty body.
use Rattle.std.specs.Prelude.{◌≡◌, ◌||◌, None, IsTrue, IsFalse}
use Rattle.plane_edges.specs.Plane.{Place, Segment, Box, IsIn, IsOrdered, is_on}
use Rattle.plane_edges.specs.EdgePoints.{edge_point, misses_latitudes, misses_longitudes}

-- an edge whose own closed box misses the box names no point and holds no place of it
abbrev pub NamesNoneBeyond : Type 0
NamesNoneBeyond = (box : Box) (e : Segment) → IsOrdered box
    → IsTrue (misses_latitudes box e || misses_longitudes box e)
    → (edge_point box e ≡ None) × ((p : Place) → IsIn box p → IsFalse (is_on p e))
