-- What a list of polygons without a fault is known to be.
use Rattle.std.proofs.Common.{◌≡◌, ℕ, ◌+◌, ◌*◌, ◌≤◌, Bool, true, false, cond, List, [], ◌∷◌, length, length-append, Option, Some, None, arith, refl, sym, ap, ◌∙◌}
use Rattle.std.specs.Prelude.{nat_lt}
use Rattle.std.specs.Option.{option_or}
use Rattle.std.specs.List.{list_any, list_all, flat_map}
use Rattle.std.proofs.lemmas.List.Folds.{list_all-append}
use Rattle.ring_survey.specs.declared.faults.RegionFault.{RegionFault}
use Rattle.ring_survey.specs.declared.faults.RegionFault.TheVariants.{Short, Open, TooMany, TooFar, NoPolygon}
use Rattle.ring_survey.specs.Polygons.{Ring, Polygon, is_closed, are_closed}
use Rattle.ring_survey.specs.Extent.{is_far, positions_of}
use Rattle.ring_survey.specs.Faults.{ring_fault, lacks_ring, first_fault}
use Rattle.plane_edges.proofs.Truth.{and_true, and_left, and_right, or_none_left, or_none_right}
use Rattle.ring_survey.proofs.Counting.{ring_fault-append}
use Rattle.ring_survey.proofs.Sound.{else_none, sound}
use Rattle.border_check.specs.Borders.{border_fault, positions_in, IsDrawn}

then_none : {A : Type 0} (b : Bool) (x : A) (o : Option A) → cond b o (Some x) ≡ None → (b ≡ true) × (o ≡ None)
then_none true x o h = (refl, h)
then_none false x o h = cc

rings_closed : (n : ℕ) (rings : List Ring) → ring_fault n rings ≡ None → list_all is_closed rings ≡ true
rings_closed n [] h = refl
rings_closed n (ring ∷ rest) h =
    let long = else_none (nat_lt (length ring) 4) (Short n) (cond (is_closed ring) (ring_fault (n + 1) rest) (Some (Open n))) h in
    let closed = then_none (is_closed ring) (Open n) (ring_fault (n + 1) rest) long.1 in
    and_true (is_closed ring) (list_all is_closed rest) closed.0 (rings_closed (n + 1) rest closed.1)

all_closed : (polygons : List Polygon) → list_all is_closed (flat_map (λ rings. rings) polygons) ≡ true → are_closed polygons ≡ true
all_closed [] h = refl
all_closed (rings ∷ rest) h =
    let parts = sym (list_all-append is_closed rings (flat_map (λ rings. rings) rest)) ∙ h in
    and_true (list_all is_closed rings) (are_closed rest)
    (and_left (list_all is_closed rings) (list_all is_closed (flat_map (λ rings. rings) rest)) parts)
    (all_closed rest (and_right (list_all is_closed rings) (list_all is_closed (flat_map (λ rings. rings) rest)) parts))

pub drawn : (polygons : List Polygon) → border_fault polygons ≡ None → IsDrawn polygons
drawn polygons h =
    let far = cond (list_any is_far (positions_of polygons)) (Some TooFar) None in
    let rings = ring_fault 0 (flat_map (λ rings. rings) polygons) in
    let a = else_none (lacks_ring polygons) NoPolygon (cond (nat_lt 1_000_000 (length (positions_of polygons))) (Some TooMany) (option_or rings far)) h in
    let b = else_none (nat_lt 1_000_000 (length (positions_of polygons))) TooMany (option_or rings far) a.1 in
    let d = else_none (list_any is_far (positions_of polygons)) TooFar None (or_none_right rings far b.1) in
    record { closed = all_closed polygons (rings_closed 0 (flat_map (λ rings. rings) polygons) (or_none_left rings far b.1)); near = d.0 }

-- a district is drawn too
pub district_drawn : (polygons : List Polygon) → first_fault polygons ≡ None → IsDrawn polygons
district_drawn polygons h = let s = sound polygons h in record { closed = s.closed; near = s.near }
