-- Places, straight edges between positions, and boxes, in place units (128 to a microdegree).
-- A place is inside a ring by the even-odd rule along a ray to the east, as for the polygons of RFC 7946.
use Rattle.std.specs.Prelude.{ℤ, pos, ◌-ℤ◌, ◌*ℤ◌, ◌≤ℤ◌, ◌<ℤ◌, int_lt, int_le, Bool, not, ◌&&◌, ◌||◌, if◌then◌else◌}
use Rattle.std.specs.Ordering.{int_eq}

-- the place at longitude a/d and latitude b/d
pub record Place : Type 0 where
  pub a : ℤ
  pub b : ℤ
  pub d : ℤ

-- the straight edge from (xa, ya) to (xb, yb)
pub record Segment : Type 0 where
  pub xa : ℤ
  pub ya : ℤ
  pub xb : ℤ
  pub yb : ℤ

-- the closed box with longitudes from x0 to x1 and latitudes from y0 to y1
pub record Box : Type 0 where
  pub x0 : ℤ
  pub x1 : ℤ
  pub y0 : ℤ
  pub y1 : ℤ

-- a box with its ends in order
pub record IsOrdered (box : Box) : Type 0 where
  pub x_ordered : box.x0 ≤ℤ box.x1
  pub y_ordered : box.y0 ≤ℤ box.y1

-- a rational place of the box
pub record IsIn (box : Box) (p : Place) : Type 0 where
  pub positive : pos 0 <ℤ p.d
  pub west : (box.x0 *ℤ p.d) ≤ℤ p.a
  pub east : p.a ≤ℤ (box.x1 *ℤ p.d)
  pub south : (box.y0 *ℤ p.d) ≤ℤ p.b
  pub north : p.b ≤ℤ (box.y1 *ℤ p.d)

-- two ends enclose a number, in either order
abbrev pub encloses : ℤ → ℤ → ℤ → Bool
encloses u v z = (int_le u z && int_le z v) || (int_le v z && int_le z u)

-- above 0 where the place is on the edge's left, below 0 on its right, and 0 on its line
abbrev pub orientation : Segment → Place → ℤ
orientation e p =
    (e.xb -ℤ e.xa) *ℤ (p.b -ℤ e.ya *ℤ p.d) -ℤ (e.yb -ℤ e.ya) *ℤ (p.a -ℤ e.xa *ℤ p.d)

-- the place lies on the edge, its ends included
abbrev pub is_on : Place → Segment → Bool
is_on p e =
    encloses (e.xa *ℤ p.d) (e.xb *ℤ p.d) p.a
    && (encloses (e.ya *ℤ p.d) (e.yb *ℤ p.d) p.b && int_eq (orientation e p) (pos 0))

-- the latitude y is greater than the place's
abbrev pub is_above : Place → ℤ → Bool
is_above p y = int_lt p.b (y *ℤ p.d)

-- Exactly one end of the edge is above the place, and the edge passes its latitude to the east:
-- an edge that rises has the place on its left, and one that falls on its right.
abbrev pub crosses : Place → Segment → Bool
crosses p e =
    if is_above p e.yb
    then not (is_above p e.ya) && int_lt (pos 0) (orientation e p)
    else is_above p e.ya && int_lt (orientation e p) (pos 0)

-- exactly one of two tests holds
abbrev pub xor : Bool → Bool → Bool
xor a b = if a then not b else b
