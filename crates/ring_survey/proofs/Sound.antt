-- What a list of polygons without a fault is known to be.
use Rattle.std.proofs.Common.{◌≡◌, ℕ, ◌+◌, ◌≤◌, Bool, true, false, ◌||◌, cond, List, [], ◌∷◌, length, length-append, Option, Some, None, arith, refl, sym, ◌∙◌}
use Rattle.std.specs.Prelude.{nat_lt}
use Rattle.std.specs.Option.{option_or}
use Rattle.std.specs.List.{list_any, list_all, flat_map}
use Rattle.std.proofs.lemmas.Bool.{and_from, and_parts, or_parts as neither}
use Rattle.std.proofs.lemmas.Bool.Decides.{nat_tests}
use Rattle.std.proofs.lemmas.List.Folds.{list_all-append}
use Rattle.ring_survey.specs.declared.faults.RegionFault.TheVariants.{Short, Open, TooMany, TooWide, TooFar, NoPolygon}
use Rattle.ring_survey.specs.Polygons.{Ring, Polygon, is_closed, are_closed}
use Rattle.ring_survey.specs.Extent.{is_far, positions_of, longitudes, latitudes, is_wide}
use Rattle.ring_survey.specs.Faults.{is_empty, ring_fault, lacks_ring, first_fault}
use Rattle.ring_survey.proofs.Counting.{ring_fault-append}

pub else_none : {A : Type 0} (b : Bool) (x : A) (o : Option A) → cond b (Some x) o ≡ None → (b ≡ false) × (o ≡ None)
else_none true x o h = cc
else_none false x o h = (refl, h)

then_none : {A : Type 0} (b : Bool) (x : A) (o : Option A) → cond b o (Some x) ≡ None → (b ≡ true) × (o ≡ None)
then_none true x o h = (refl, h)
then_none false x o h = cc

rings_closed : (n : ℕ) (rings : List Ring) → ring_fault n rings ≡ None → list_all is_closed rings ≡ true
rings_closed n [] h = refl
rings_closed n (ring ∷ rest) h =
    let long = else_none (nat_lt (length ring) 4) (Short n) (cond (is_closed ring) (ring_fault (n + 1) rest) (Some (Open n))) h in
    let closed = then_none (is_closed ring) (Open n) (ring_fault (n + 1) rest) long.1 in
    and_from (is_closed ring) (list_all is_closed rest) closed.0 (rings_closed (n + 1) rest closed.1)

all_closed : (polygons : List Polygon) → list_all is_closed (flat_map (λ rings. rings) polygons) ≡ true → are_closed polygons ≡ true
all_closed [] h = refl
all_closed (rings ∷ rest) h =
    let parts = sym (list_all-append is_closed rings (flat_map (λ rings. rings) rest)) ∙ h in
    let both = and_parts (list_all is_closed rings) (list_all is_closed (flat_map (λ rings. rings) rest)) parts in
    and_from (list_all is_closed rings) (are_closed rest) both.0 (all_closed rest both.1)

-- ring by ring, and then far and wide
pub record IsSound (polygons : List Polygon) : Type 0 where
  pub closed : are_closed polygons ≡ true
  pub few : length polygons ≤ 4096
  pub near : list_any is_far (positions_of polygons) ≡ false
  pub narrow : (is_wide (longitudes polygons) || is_wide (latitudes polygons)) ≡ false

or_parts : {A : Type 0} (o p : Option A) → option_or o p ≡ None → (o ≡ None) × (p ≡ None)
or_parts None p h = (refl, h)
or_parts (Some x) p h = cc

not_less : (m n : ℕ) → nat_lt m n ≡ false → n ≤ m
not_less m n h = grind (arith, nat_tests)

ring_long : (n : ℕ) (ring : Ring) (rest : List Ring) → ring_fault n (ring ∷ rest) ≡ None → 4 ≤ length ring
ring_long n ring rest h =
    let long = else_none (nat_lt (length ring) 4) (Short n) (cond (is_closed ring) (ring_fault (n + 1) rest) (Some (Open n))) h in
    not_less (length ring) 4 long.0

-- each polygon has a ring, and each ring positions
few_polygons : (n : ℕ) (polygons : List Polygon) → list_any is_empty polygons ≡ false
    → ring_fault n (flat_map (λ rings. rings) polygons) ≡ None → length polygons ≤ length (positions_of polygons)
few_polygons n [] e h = omega arith
few_polygons n ([] ∷ rest) e h = cc
few_polygons n ((ring ∷ rings) ∷ rest) e h =
    let parts = or_parts (ring_fault n (ring ∷ rings)) (ring_fault (n + length (ring ∷ rings)) (flat_map (λ rings. rings) rest))
    (sym (ring_fault-append n (ring ∷ rings) (flat_map (λ rings. rings) rest)) ∙ h) in
    let long = ring_long n ring rings parts.0 in
    let more = few_polygons (n + length (ring ∷ rings)) rest e parts.1 in
    omega (
      arith,
      length-append ring (flat_map (λ ring. ring) rings),
      length-append (flat_map (λ ring. ring) (ring ∷ rings)) (positions_of rest),
    )

pub sound : (polygons : List Polygon) → first_fault polygons ≡ None → IsSound polygons
sound polygons h =
    let extent = cond (list_any is_far (positions_of polygons)) (Some TooFar)
    (cond (is_wide (longitudes polygons) || is_wide (latitudes polygons)) (Some TooWide) None) in
    let rings = ring_fault 0 (flat_map (λ rings. rings) polygons) in
    let a = else_none (lacks_ring polygons) NoPolygon (cond (nat_lt 4096 (length (positions_of polygons))) (Some TooMany) (option_or rings extent)) h in
    let b = else_none (nat_lt 4096 (length (positions_of polygons))) TooMany (option_or rings extent) a.1 in
    let c = or_parts rings extent b.1 in
    let d = else_none (list_any is_far (positions_of polygons)) TooFar
    (cond (is_wide (longitudes polygons) || is_wide (latitudes polygons)) (Some TooWide) None) c.1 in
    let e = else_none (is_wide (longitudes polygons) || is_wide (latitudes polygons)) TooWide None d.1 in
    let lacks = neither (is_empty polygons) (list_any is_empty polygons) a.0 in
    let few = few_polygons 0 polygons lacks.1 c.0 in
    let room = not_less 4096 (length (positions_of polygons)) b.0 in
    record { few = omega arith; closed = all_closed polygons (rings_closed 0 (flat_map (λ rings. rings) polygons) c.0); near = d.0; narrow = e.0 }
