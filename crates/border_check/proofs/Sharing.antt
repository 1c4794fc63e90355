-- A box's share is what the definitions on whole polygons say, and an inner box's share comes from it alone.
use Rattle.std.proofs.Common.{◌≡◌, Bool, true, false, not, ◌&&◌, ◌||◌, cond, List, [], ◌∷◌, Option, Some, None, refl, sym, ap, ◌∙◌}
use Rattle.std.specs.Prelude.{count_by}
use Rattle.std.specs.Option.{is_none, option_or}
use Rattle.std.specs.List.{list_any, list_all, flat_map}
use Rattle.plane_edges.specs.Plane.{Segment, Box, is_on, xor, IsOrdered}
use Rattle.ring_survey.specs.Polygons.{Polygon, is_closed, are_closed}
use Rattle.region.specs.Rings.{polygon_edges, is_odd, is_in_district}
use Rattle.plane_edges.specs.EdgePoints.{first_point, corner}
use Rattle.ring_survey.specs.Faults.{is_empty}
use Rattle.plane_edges.proofs.Truth.{and_left, and_right}
use Rattle.region.proofs.Odd.{is_odd-count_by}
use Rattle.region.proofs.Wholly.{first_point-append}
use Rattle.plane_edges.proofs.Parity.{corner_ordered}
use Rattle.border_check.specs.Shares.{near, odd_at, PartView, ShareView, with_part, part_of, share_of, changes, part_within, parts_within, share_within}
use Rattle.border_check.specs.Settled.{is_clear, is_settled, settles}
use Rattle.border_check.proofs.Meeting.{IsInner, inner_corner, near_near, none_near, none_on}
use Rattle.border_check.proofs.Parities.{moved}

-- ---- a share and the polygons

none_or : {A : Type 0} (o p : Option A) → is_none (option_or o p) ≡ (is_none o && is_none p)
none_or None p = refl
none_or (Some x) p = refl

none_of_parts : (edges : List Segment) (odd : Bool) (share : ShareView)
    → is_empty (with_part (record { edges = edges; odd = odd }) share).parts ≡ (is_empty edges && is_empty share.parts)
none_of_parts [] odd share = refl
none_of_parts (e ∷ edges) odd share = refl

-- no part is left exactly where no edge meets the box
pub parts_clear : (box : Box) (polygons : List Polygon) → is_empty (share_of box polygons).parts ≡ is_clear box polygons
parts_clear box [] = refl
parts_clear box (rings ∷ rest) =
    let edges = polygon_edges rings in
    let more = flat_map polygon_edges rest in
    none_of_parts (near box edges) (odd_at (corner box) edges) (share_of box rest)
    ∙ ap (λ b. b && is_empty (share_of box rest).parts) (none_near box edges)
    ∙ ap (λ b. is_none (first_point box edges) && b) (parts_clear box rest)
    ∙ sym (none_or (first_point box edges) (first_point box more))
    ∙ ap is_none (sym (first_point-append box edges more))

inside_step : (empty odd inside on : Bool) → empty ≡ true → on ≡ false → ((empty && odd) || inside) ≡ ((on || odd) || inside)
inside_step true odd inside true h k = cc
inside_step true odd inside false h k = refl
inside_step false odd inside on h k = cc

-- then the corner is inside as the share says
pub inside_is : (box : Box) (polygons : List Polygon) → IsOrdered box → is_empty (share_of box polygons).parts ≡ true
    → (share_of box polygons).inside ≡ is_in_district (corner box) polygons
inside_is box [] o none = refl
inside_is box (rings ∷ rest) o none =
    let edges = polygon_edges rings in
    let parts = sym (none_of_parts (near box edges) (odd_at (corner box) edges) (share_of box rest)) ∙ none in
    let here = and_left (is_empty (near box edges)) (is_empty (share_of box rest).parts) parts in
    let there = inside_is box rest o (and_right (is_empty (near box edges)) (is_empty (share_of box rest).parts) parts) in
    ap (λ b. (is_empty (near box edges) && odd_at (corner box) edges) || b) there
    ∙ inside_step (is_empty (near box edges)) (odd_at (corner box) edges) (is_in_district (corner box) rest)
    (list_any (is_on (corner box)) edges) here (none_on box (corner box) edges (corner_ordered box o) here)

settled_step : (a b c d p q r s : Bool) → a ≡ c → b ≡ d → (a ≡ true → p ≡ r) → (b ≡ true → q ≡ s)
    → ((a && not p) || (b && q)) ≡ ((c && not r) || (d && s))
settled_step a b c d p q r s e f g h =
    ap (λ x. (x || (b && q))) (under a p r g) ∙ ap (λ x. (a && not r) || x) (over b q s h)
    ∙ ap (λ x. (x && not r) || (b && s)) e ∙ ap (λ x. (c && not r) || (x && s)) f
  where
    under : (a p r : Bool) → (a ≡ true → p ≡ r) → (a && not p) ≡ (a && not r)
    under true p r k = ap not (k refl)
    under false p r k = refl

    over : (b q s : Bool) → (b ≡ true → q ≡ s) → (b && q) ≡ (b && s)
    over true q s k = k refl
    over false q s k = refl

-- two shares settle a box exactly where the polygons do
pub settles_is : (box : Box) (border district : List Polygon) → IsOrdered box
    → settles (share_of box border) (share_of box district) ≡ is_settled box border district
settles_is box border district o =
    settled_step (is_empty (share_of box border).parts) (is_empty (share_of box district).parts) (is_clear box border) (is_clear box district)
    (share_of box border).inside (share_of box district).inside (is_in_district (corner box) border) (is_in_district (corner box) district)
    (parts_clear box border) (parts_clear box district) (inside_is box border o) (inside_is box district o)

-- ---- from a box to one within it

or_swapped : (a b c : Bool) → (a || (b || c)) ≡ (b || (a || c))
or_swapped true true c = refl
or_swapped true false c = refl
or_swapped false true c = refl
or_swapped false false c = refl

abbrev with_inside : Bool → ShareView → ShareView
with_inside odd share = record { parts = share.parts; inside = odd || share.inside }

inside_apart : (box inner : Box) (odd inside : Bool) (parts : List PartView)
    → parts_within box inner parts (odd || inside) ≡ with_inside odd (parts_within box inner parts inside)
inside_apart box inner odd inside [] = refl
inside_apart box inner odd inside (part ∷ rest) =
    let here = part_within box inner part in
    let more = parts_within box inner rest inside in
    ap (λ s. with_part here s) (inside_apart box inner odd inside rest)
    ∙ ap (λ (b : Bool). record { parts = cond (is_empty here.edges) more.parts (here ∷ more.parts); inside = b })
    (or_swapped (is_empty here.edges && here.odd) odd more.inside)

xor_none : (a : Bool) → xor a false ≡ a
xor_none true = refl
xor_none false = refl

within_step : (box inner : Box) (edges : List Segment) (odd : Bool) (share : ShareView)
    → share_within box inner (with_part (record { edges = edges; odd = odd }) share)
    ≡ with_part (part_within box inner (record { edges = edges; odd = odd })) (share_within box inner share)
within_step box inner [] odd share =
    inside_apart box inner odd share.inside share.parts
    ∙ ap (λ (b : Bool). with_inside b (share_within box inner share)) (sym (xor_none odd))
within_step box inner (e ∷ edges) odd share = refl

part_moved : (box inner : Box) (rings : Polygon) → IsInner box inner → list_all is_closed rings ≡ true
    → part_within box inner (part_of box (polygon_edges rings)) ≡ part_of inner (polygon_edges rings)
part_moved box inner rings i closed =
    let edges = polygon_edges rings in
    let turns = changes box (corner inner) in
    ap (λ (es : List Segment). record { edges = es; odd = xor (odd_at (corner box) edges) (is_odd (count_by turns (near box edges))) })
    (near_near box inner edges i)
    ∙ ap (λ (b : Bool). record { edges = near inner edges; odd = b })
    (ap (λ b. xor (odd_at (corner box) edges) b) (is_odd-count_by turns (near box edges))
    ∙ moved box (corner inner) rings (inner_corner box inner i) closed)

-- what an inner box takes of a share is its own share of the polygons
pub share_within_is : (box inner : Box) (polygons : List Polygon) → IsInner box inner → are_closed polygons ≡ true
    → share_within box inner (share_of box polygons) ≡ share_of inner polygons
share_within_is box inner [] i closed = refl
share_within_is box inner (rings ∷ rest) i closed =
    let edges = polygon_edges rings in
    let here = part_moved box inner rings i (and_left (list_all is_closed rings) (are_closed rest) closed) in
    let there = share_within_is box inner rest i (and_right (list_all is_closed rings) (are_closed rest) closed) in
    within_step box inner (near box edges) (odd_at (corner box) edges) (share_of box rest)
    ∙ ap (λ (part : PartView). with_part part (share_within box inner (share_of box rest))) here
    ∙ ap (λ (share : ShareView). with_part (part_of inner edges) share) there
