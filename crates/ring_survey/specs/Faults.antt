-- The first reason for which a list of polygons is no district.
use Rattle.std.specs.Prelude.{◌≡◌, ℤ, ℕ, true, false, ◌+◌, nat_lt, Bool, ◌||◌, if◌then◌else◌, List, [], ◌∷◌, length, Option, Some, None}
use Rattle.std.specs.Option.{option_or}
use Rattle.std.specs.List.{list_any, flat_map}
use Rattle.ring_survey.specs.declared.faults.RegionFault.{RegionFault}
use Rattle.ring_survey.specs.declared.faults.RegionFault.TheVariants.{Short, Open, TooMany, TooWide, TooFar, NoPolygon}
use Rattle.ring_survey.specs.Polygons.{Ring, Polygon, is_closed}
use Rattle.ring_survey.specs.Extent.{is_far, positions_of, longitudes, latitudes, least, greatest, is_wide}

abbrev pub is_empty : {A : Type 0} → List A → Bool
is_empty [] = true
is_empty (x ∷ xs) = false

-- there is no polygon, or some polygon has no ring
abbrev pub lacks_ring : List Polygon → Bool
lacks_ring polygons = is_empty polygons || list_any is_empty polygons

-- the first ring with fewer than four positions, or that doesn't end where it begins, counted from n
abbrev pub ring_fault : ℕ → List Ring → Option RegionFault
ring_fault n [] = None
ring_fault n (ring ∷ rest) =
    if nat_lt (length ring) 4 then Some (Short n)
    else if is_closed ring then ring_fault (n + 1) rest
    else Some (Open n)

abbrev pub first_fault : List Polygon → Option RegionFault
first_fault polygons =
    if lacks_ring polygons then Some NoPolygon
    else if nat_lt 4096 (length (positions_of polygons)) then Some TooMany
    else option_or (ring_fault 0 (flat_map (λ rings. rings) polygons))
    (if list_any is_far (positions_of polygons) then Some TooFar
    else if is_wide (longitudes polygons) || is_wide (latitudes polygons) then Some TooWide
    else None)

-- what a district knows of its polygons
pub record IsSurveyed (polygons : List Polygon) (west east south north : ℤ) (positions : ℕ) : Type 0 where
  pub sound : first_fault polygons ≡ None
  pub west_is : west ≡ least (longitudes polygons)
  pub east_is : east ≡ greatest (longitudes polygons)
  pub south_is : south ≡ least (latitudes polygons)
  pub north_is : north ≡ greatest (latitudes polygons)
  pub positions_is : positions ≡ length (positions_of polygons)
