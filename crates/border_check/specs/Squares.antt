-- Squares of places, and their quarters. Places are in place units, 128 to a microdegree.
use Rattle.std.specs.Prelude.{◌^◌, ◌-◌, ◌≤◌, Bool, if◌then◌else◌, ℤ, pos, neg_ℤ, ◌+ℤ◌, ◌≤ℤ◌}
use Rattle.plane_edges.specs.Plane.{Box}
use Rattle.border_check.specs.declared.squares.Square.{Square}

abbrev pub side : Square → ℤ
side s = pos (2 ^ s.size)

-- the closed box of the square's places
abbrev pub box_in : Square → Box
box_in s = record { x0 = s.x; x1 = s.x +ℤ side s; y0 = s.y; y1 = s.y +ℤ side s }

-- half the side
abbrev pub half : Square → ℤ
half s = pos (2 ^ (s.size - 1))

-- a quarter of the square, of the western ones or the eastern, of the southern or the northern
abbrev pub quarter : Square → Bool → Bool → Square
quarter s east north = record {
  x = if east then s.x +ℤ half s else s.x;
  y = if north then s.y +ℤ half s else s.y;
  size = s.size - 1;
}

-- the root of all squares: it holds each longitude within 360 degrees, and more
abbrev pub root : Square
root = record { x = neg_ℤ (pos 68_719_476_736); y = neg_ℤ (pos 68_719_476_736); size = 37 }

-- the square is no larger than the root, and within it
pub record IsNear (s : Square) : Type 0 where
  pub not_large : s.size ≤ 37
  pub west : neg_ℤ (pos (2 ^ 36)) ≤ℤ s.x
  pub east : (s.x +ℤ side s) ≤ℤ pos (2 ^ 36)
  pub south : neg_ℤ (pos (2 ^ 36)) ≤ℤ s.y
  pub north : (s.y +ℤ side s) ≤ℤ pos (2 ^ 36)
