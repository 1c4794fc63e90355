-- Polygons as lists of rings, rings as lists of positions (longitude, latitude) in microdegrees.
use Rattle.std.specs.Prelude.{ℤ, Bool, true, ◌&&◌, List, [], ◌∷◌}
use Rattle.std.specs.Ordering.{int_eq}
use Rattle.std.specs.List.{list_all}

-- a position; a ring; a polygon, its outer ring and its holes
abbrev pub Position : Type 0
Position = ℤ × ℤ

abbrev pub Ring : Type 0
Ring = List Position

abbrev pub Polygon : Type 0
Polygon = List Ring

-- the last position of a ring that begins with p
abbrev pub last_after : Position → Ring → Position
last_after p [] = p
last_after p (q ∷ rest) = last_after q rest

-- the ring ends where it begins
abbrev pub is_closed : Ring → Bool
is_closed [] = true
is_closed (p ∷ rest) = int_eq (last_after p rest).0 p.0 && int_eq (last_after p rest).1 p.1

-- every ring ends where it begins
abbrev pub are_closed : List Polygon → Bool
are_closed polygons = list_all (list_all is_closed) polygons
