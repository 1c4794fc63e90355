-- The root over all districts of a set is over each of them.
use Rattle.std.proofs.Common.{◌≡◌, ◌<◌, ◌||◌, cond, List, [], ◌∷◌, ◌++◌, length, map, Option, Some, None, refl, ap, ◌∙◌, subst, arith}
use Rattle.std.specs.Prelude.{ℤ, pos, ◌+ℤ◌, ◌*ℤ◌, ◌≤ℤ◌, All, flat_map, fold, nat_lt}
use Rattle.std.specs.Int.{int_min, int_max}
use Rattle.std.specs.List.{AllByRecursion as Every, list_any}
use Rattle.std.specs.Option.{option_or}
use Rattle.std.proofs.lemmas.Int.{ints, clamps}
use Rattle.std.proofs.lemmas.List.{map-append}
use Rattle.std.proofs.lemmas.List.Concat.{flat_map-append}
use Rattle.std.proofs.lemmas.List.Elements.{All-from_recursion}
use Rattle.ring_survey.specs.Extent.{greatest, is_far, is_wide, latitudes, least, longitudes, positions_of}
use Rattle.ring_survey.specs.Faults.{first_fault, lacks_ring}
use Rattle.ring_survey.specs.Polygons.{Polygon, Position}
use Rattle.ring_survey.specs.declared.faults.RegionFault.{RegionFault}
use Rattle.ring_survey.specs.declared.faults.RegionFault.TheVariants.{NoPolygon, Short, TooFar, TooMany, TooWide}
use Rattle.ring_survey.proofs.Reach.{AllIn, all_in}
use Rattle.ring_survey.proofs.Sound.{else_none}
use Rattle.cell_split.specs.declared.cell.Cell.{Cell}
use Rattle.cell_split.specs.Cells.{side}
use Rattle.cell_judge.specs.Limits.{IsOver}
use Rattle.cell_judge.proofs.ExtentLemmas.{root_is_over}
use Rattle.order_table.specs.Trees.{root_over}
use Rattle.set_reader.specs.Features.{polygons_of}
use Rattle.set_reader.specs.Together.{AreParts, parts_fault}

-- ---- each district is sound

none_both : (a b : Option RegionFault) → option_or a b ≡ None → (a ≡ None) × (b ≡ None)
none_both None b h = (refl, h)
none_both (Some x) b h = absurd cc

abbrev pub IsFaultless : List Polygon → Type 0
IsFaultless polygons = first_fault polygons ≡ None

pub each_faultless : (parts : List (List Polygon)) → parts_fault parts ≡ None → Every IsFaultless parts
each_faultless [] h = tt
each_faultless (part ∷ rest) h =
    let both = none_both (first_fault part) (parts_fault rest) h in
    (both.0, each_faultless rest both.1)

not_short : (f : Option RegionFault) → option_or (Some (Short 0)) f ≡ None → ⊥
not_short f h = absurd cc

-- and has a position
has_position : (polygons : List Polygon) → first_fault polygons ≡ None → 0 < length (positions_of polygons)
has_position [] h = absurd cc
has_position ([] ∷ rest) h = absurd cc
has_position (([] ∷ rings) ∷ rest) h =
    let polygons : List Polygon = ([] ∷ rings) ∷ rest in
    let extent = cond (list_any is_far (positions_of polygons)) (Some TooFar)
    (cond (is_wide (longitudes polygons) || is_wide (latitudes polygons)) (Some TooWide) None) in
    let ring = option_or (Some (Short 0)) extent in
    let many = cond (nat_lt 4096 (length (positions_of polygons))) (Some TooMany) ring in
    absurd (not_short extent (else_none (nat_lt 4096 (length (positions_of polygons))) TooMany ring (else_none (lacks_ring polygons) NoPolygon many h).1).1)
has_position (((p ∷ ps) ∷ rings) ∷ rest) h = omega arith

-- ---- numbers within limits

not_below : (low high a : ℤ) (zs : List ℤ) → low ≤ℤ a → AllIn low high zs → low ≤ℤ fold int_min a zs
not_below low high a [] h all = h
not_below low high a (z ∷ zs) h all = not_below low high (int_min a z) zs (omega (arith, ints, clamps, h, all.0)) all.2

not_above : (low high a : ℤ) (zs : List ℤ) → a ≤ℤ high → AllIn low high zs → fold int_max a zs ≤ℤ high
not_above low high a [] h all = h
not_above low high a (z ∷ zs) h all = not_above low high (int_max a z) zs (omega (arith, ints, clamps, h, all.1)) all.2

-- the least and the greatest of some are within limits where all are
pub record IsWithin (low high : ℤ) (zs : List ℤ) : Type 0 where
  pub least_in : low ≤ℤ least zs
  pub greatest_in : greatest zs ≤ℤ high

within : (low high : ℤ) (zs : List ℤ) → 0 < length zs → AllIn low high zs → IsWithin low high zs
within low high [] some all = absurd (omega (arith, some))
within low high (z ∷ zs) some all = record { least_in = not_below low high z zs all.0 all.2; greatest_in = not_above low high z zs all.1 all.2 }

both_in : (low high : ℤ) (xs ys : List ℤ) → AllIn low high (xs ++ ys) → AllIn low high xs × AllIn low high ys
both_in low high [] ys all = (tt, all)
both_in low high (x ∷ xs) ys all = let rest = both_in low high xs ys all.2 in ((all.0, all.1, rest.0), rest.1)

-- ---- each district within all together

module _ (coordinate : Position → ℤ) (low high : ℤ) where
  abbrev numbers : List Polygon → List ℤ
  numbers polygons = map coordinate (positions_of polygons)

  apart : (part : List Polygon) (rest : List (List Polygon)) → numbers (polygons_of (part ∷ rest)) ≡ numbers part ++ numbers (polygons_of rest)
  apart part rest =
      ap (λ (ps : List Position). map coordinate ps) (flat_map-append (λ rings. flat_map (λ ring. ring) rings) part (polygons_of rest))
      ∙ map-append coordinate (positions_of part) (positions_of (polygons_of rest))

  some_numbers : (polygons : List Polygon) → first_fault polygons ≡ None → 0 < length (numbers polygons)
  some_numbers polygons h = some (positions_of polygons) (has_position polygons h) where
    some : (ps : List Position) → 0 < length ps → 0 < length (map coordinate ps)
    some [] k = k
    some (p ∷ ps) k = omega arith

  pub each_within : (parts : List (List Polygon)) → Every IsFaultless parts → AllIn low high (numbers (polygons_of parts)) →
      Every (λ part. IsWithin low high (numbers part)) parts
  each_within [] faultless all = tt
  each_within (part ∷ rest) faultless all =
      let both = both_in low high (numbers part) (numbers (polygons_of rest)) (subst (AllIn low high) (apart part rest) all) in
      (within low high (numbers part) (some_numbers part faultless.0) both.0, each_within rest faultless.1 both.1)

module _ (whole : List Polygon) where
  over_each : (root : Cell) → IsOver root whole → (parts : List (List Polygon)) →
      Every (λ part. IsWithin (least (longitudes whole)) (greatest (longitudes whole)) (longitudes part)) parts →
      Every (λ part. IsWithin (least (latitudes whole)) (greatest (latitudes whole)) (latitudes part)) parts → Every (IsOver root) parts
  over_each root over [] x y = tt
  over_each root over (part ∷ rest) x y = (
    record {
      west = after root.x (least (longitudes whole)) (least (longitudes part)) over.west x.0.least_in;
      east = before (greatest (longitudes whole)) (greatest (longitudes part)) (root.x +ℤ side root) over.east x.0.greatest_in;
      south = after root.y (least (latitudes whole)) (least (latitudes part)) over.south y.0.least_in;
      north = before (greatest (latitudes whole)) (greatest (latitudes part)) (root.y +ℤ side root) over.north y.0.greatest_in;
    },
    over_each root over rest x.1 y.1,
  )
    where
      after : (r a b : ℤ) → r ≤ℤ (pos 128 *ℤ a) → a ≤ℤ b → r ≤ℤ (pos 128 *ℤ b)
      after r a b h k = omega (arith, ints, h, k)

      before : (a b r : ℤ) → (pos 128 *ℤ a) ≤ℤ r → b ≤ℤ a → (pos 128 *ℤ b) ≤ℤ r
      before a b r h k = omega (arith, ints, h, k)

pub root_over_each : (whole : List Polygon) (parts : List (List Polygon)) → first_fault whole ≡ None → AreParts whole parts → Every (IsOver (root_over whole)) parts
root_over_each whole parts faultless are =
    let each = each_faultless parts are.sound in
    let in_all : (coordinate : Position → ℤ) → AllIn (least (map coordinate (positions_of whole))) (greatest (map coordinate (positions_of whole)))
    (map coordinate (positions_of (polygons_of parts))) =
    λ coordinate.
    subst (λ (polygons : List Polygon). AllIn (least (map coordinate (positions_of whole))) (greatest (map coordinate (positions_of whole)))
    (map coordinate (positions_of polygons))) are.together (all_in (map coordinate (positions_of whole))) in
    over_each whole (root_over whole) (root_is_over whole faultless) parts
    (each_within (λ p. p.0) (least (longitudes whole)) (greatest (longitudes whole)) parts each (in_all (λ p. p.0)))
    (each_within (λ p. p.1) (least (latitudes whole)) (greatest (latitudes whole)) parts each (in_all (λ p. p.1)))

pub root_over_all : (whole : List Polygon) (parts : List (List Polygon)) → first_fault whole ≡ None → AreParts whole parts → All (IsOver (root_over whole)) parts
root_over_all whole parts faultless are = All-from_recursion (IsOver (root_over whole)) parts (root_over_each whole parts faultless are)
