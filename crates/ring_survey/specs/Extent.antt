-- How far a district reaches, in microdegrees.
use Rattle.std.specs.Prelude.{ℤ, pos, ◌-ℤ◌, unsigned_abs, nat_lt, nat_le, int_lt, Bool, true, not, ◌&&◌, ◌||◌, List, [], ◌∷◌, map, fold}
use Rattle.std.specs.Int.{int_min, int_max}
use Rattle.std.specs.List.{flat_map}
use Rattle.ring_survey.specs.Polygons.{Position, Ring, Polygon}

-- farther than 360 degrees of longitude or 65 degrees of latitude, either way
abbrev pub is_far : Position → Bool
is_far p = nat_lt 65_000_000 (unsigned_abs p.1) || nat_lt 360_000_000 (unsigned_abs p.0)

-- all positions of all rings
abbrev pub positions_of : List Polygon → List Position
positions_of polygons = flat_map (λ rings. flat_map (λ ring. ring) rings) polygons

-- the least and the greatest number of a list, and 0 of none
abbrev pub least : List ℤ → ℤ
least [] = pos 0
least (z ∷ rest) = fold int_min z rest

abbrev pub greatest : List ℤ → ℤ
greatest [] = pos 0
greatest (z ∷ rest) = fold int_max z rest

abbrev pub longitudes : List Polygon → List ℤ
longitudes polygons = map (λ p. p.0) (positions_of polygons)

abbrev pub latitudes : List Polygon → List ℤ
latitudes polygons = map (λ p. p.1) (positions_of polygons)

-- the numbers span more than a district may, each way
abbrev pub is_wide : List ℤ → Bool
is_wide zs = int_lt (pos 4_194_304) (greatest zs -ℤ least zs)

-- ---- what this means for one edge of a ring

-- from one position to the next, within a district's extent
abbrev pub is_step : Position → Position → Bool
is_step p q =
    nat_le (unsigned_abs (q.0 -ℤ p.0)) 4_194_304 && nat_le (unsigned_abs (q.1 -ℤ p.1)) 4_194_304

-- each position is near and each step is within the extent
abbrev pub is_compact_from : Position → Ring → Bool
is_compact_from p [] = not (is_far p)
is_compact_from p (q ∷ rest) = not (is_far p) && (is_step p q && is_compact_from q rest)

abbrev pub is_compact : Ring → Bool
is_compact [] = true
is_compact (p ∷ rest) = is_compact_from p rest
