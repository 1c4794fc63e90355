-- On which side of an edge's line the corners of a box are.
use Rattle.std.specs.Prelude.{ℤ, pos, int_lt, Bool, ◌&&◌}
use Rattle.plane_edges.specs.Plane.{Place, Segment, Box, orientation}

-- the place with whole coordinates
abbrev pub whole : ℤ → ℤ → Place
whole x y = record { a = x; b = y; d = pos 1 }

-- all four corners are strictly on the edge's left
abbrev pub all_left : Box → Segment → Bool
all_left box e =
    int_lt (pos 0) (orientation e (whole box.x0 box.y0))
    && (int_lt (pos 0) (orientation e (whole box.x1 box.y0))
    && (int_lt (pos 0) (orientation e (whole box.x0 box.y1)) && int_lt (pos 0) (orientation e (whole box.x1 box.y1))))

-- all four corners are strictly on the edge's right
abbrev pub all_right : Box → Segment → Bool
all_right box e =
    int_lt (orientation e (whole box.x0 box.y0)) (pos 0)
    && (int_lt (orientation e (whole box.x1 box.y0)) (pos 0)
    && (int_lt (orientation e (whole box.x0 box.y1)) (pos 0) && int_lt (orientation e (whole box.x1 box.y1)) (pos 0)))
