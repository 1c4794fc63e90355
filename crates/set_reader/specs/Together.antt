-- The districts of a set, and the one of all their polygons.
use Rattle.std.specs.Prelude.{◌≡◌, ◌≤◌, List, [], ◌∷◌, length, Option, None}
use Rattle.std.specs.Option.{option_or}
use Rattle.ring_survey.specs.Faults.{first_fault}
use Rattle.ring_survey.specs.Polygons.{Polygon}
use Rattle.ring_survey.specs.declared.faults.RegionFault.{RegionFault}
use Rattle.set_reader.specs.Features.{polygons_of}

-- the first refusal of districts one after another
abbrev pub parts_fault : List (List Polygon) → Option RegionFault
parts_fault [] = None
parts_fault (part ∷ rest) = option_or (first_fault part) (parts_fault rest)

-- 1 to 64 districts, and the one that has all their polygons
pub record AreParts (whole : List Polygon) (parts : List (List Polygon)) : Type 0 where
  pub some : 1 ≤ length parts
  pub few : length parts ≤ 64
  pub sound : parts_fault parts ≡ None
  pub together : whole ≡ polygons_of parts
