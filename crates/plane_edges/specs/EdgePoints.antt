-- The place that is named where an edge meets a box, and the first of several edges' places.
use Rattle.std.specs.Prelude.{ℤ, pos, ◌+ℤ◌, ◌-ℤ◌, ◌*ℤ◌, int_lt, int_le, Bool, not, ◌&&◌, ◌||◌, if◌then◌else◌, List, [], ◌∷◌, Option, Some, None}
use Rattle.std.specs.Ordering.{int_eq}
use Rattle.std.specs.Option.{option_map, option_or}
use Rattle.plane_edges.specs.Plane.{Place, Segment, Box, encloses}

-- the distance from one number to another, and how far z is on the way
abbrev pub progress : ℤ → ℤ → ℤ → ℤ
progress u v z = if int_lt u v then z -ℤ u else u -ℤ z

-- Along an edge one coordinate goes from u to v while the other goes from s to t. Where it passes z,
-- the other is value / d; it counts only from low to high.
abbrev pub passing : (u v s t z low high : ℤ) → Option (ℤ × ℤ)
passing u v s t z low high =
    let d = progress u v v in
    let value = s *ℤ d +ℤ progress u v z *ℤ (t -ℤ s) in
    if not (int_eq u v) && (encloses u v z && (int_le (low *ℤ d) value && int_le value (high *ℤ d)))
    then Some (value, d)
    else None

-- where the edge passes the longitude x in the box's latitudes
abbrev pub at_longitude : Box → Segment → ℤ → Option Place
at_longitude box e x =
    option_map (λ (value, d). record { a = x *ℤ d; b = value; d = d })
    (passing e.xa e.xb e.ya e.yb x box.y0 box.y1)

-- where the edge passes the latitude y in the box's longitudes
abbrev pub at_latitude : Box → Segment → ℤ → Option Place
at_latitude box e y =
    option_map (λ (value, d). record { a = value; b = y *ℤ d; d = d })
    (passing e.ya e.yb e.xa e.xb y box.x0 box.x1)

-- the edge's start, in the box
abbrev pub at_start : Box → Segment → Option Place
at_start box e =
    if int_le box.x0 e.xa && (int_le e.xa box.x1 && (int_le box.y0 e.ya && int_le e.ya box.y1))
    then Some (record { a = e.xa; b = e.ya; d = pos 1 })
    else None

-- the place where an edge meets a box: its start, or where it first passes the box's west, east,
-- south or north side
abbrev pub edge_point : Box → Segment → Option Place
edge_point box e =
    option_or (at_start box e)
    (option_or (at_longitude box e box.x0)
    (option_or (at_longitude box e box.x1)
    (option_or (at_latitude box e box.y0) (at_latitude box e box.y1))))

-- the point of the first edge that meets the box
abbrev pub first_point : Box → List Segment → Option Place
first_point box [] = None
first_point box (e ∷ rest) = option_or (edge_point box e) (first_point box rest)

-- the box's corner in the south-west
abbrev pub corner : Box → Place
corner box = record { a = box.x0; b = box.y0; d = pos 1 }

-- ---- what an edge far from a box shows

-- the edge's latitudes, its ends' and all between, are beyond the box's
abbrev pub misses_latitudes : Box → Segment → Bool
misses_latitudes box e =
    (int_lt e.ya box.y0 && int_lt e.yb box.y0) || (int_lt box.y1 e.ya && int_lt box.y1 e.yb)

abbrev pub misses_longitudes : Box → Segment → Bool
misses_longitudes box e =
    (int_lt e.xa box.x0 && int_lt e.xb box.x0) || (int_lt box.x1 e.xa && int_lt box.x1 e.xb)
