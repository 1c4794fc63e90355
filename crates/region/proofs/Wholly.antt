-- A box that no edge meets is wholly inside a polygon or wholly outside it, and so the named place of
-- a box is exact.
use Rattle.std.proofs.Common.{◌≡◌, inl, inr, Bool, true, false, ◌||◌, cond, List, [], ◌∷◌, ◌++◌, Option, Some, None, arith, refl, sym, ap, ◌∙◌}
use Rattle.std.proofs.Math.IntN.{ℤ, pos, ◌*ℤ◌}
use Rattle.std.specs.Prelude.{MatchOption, count_by}
use Rattle.std.specs.Ordering.{int_eq}
use Rattle.std.specs.Option.{option_or}
use Rattle.std.specs.List.{list_any, list_all, flat_map}
use Rattle.std.proofs.lemmas.Int.{ints}
use Rattle.std.proofs.lemmas.List.Folds.{list_any-append}
use Rattle.plane_edges.specs.Plane.{Place, Segment, Box, IsIn, is_on, crosses, xor, IsOrdered}
use Rattle.ring_survey.specs.Polygons.{Position, Ring, Polygon, last_after, is_closed, are_closed}
use Rattle.region.specs.Rings.{edge_between, edges_from, ring_edges, polygon_edges, is_odd, is_in_polygon, is_in_district}
use Rattle.plane_edges.specs.EdgePoints.{edge_point, first_point, corner}
use Rattle.region.specs.Laws.{IsWhollyInOrOut, NamesExactly}
use Rattle.plane_edges.proofs.Truth.{same, by_same, by_table, and_left, and_right, or_left, or_right, or_cases, or_some, or_none_left, or_none_right}
use Rattle.region.proofs.Odd.{odd_by, odd_by-append, is_odd-count_by, xor_self, middle_out}
use Rattle.plane_edges.proofs.Apart.{apart}
use Rattle.plane_edges.proofs.Parity.{passed, alike, corner_in, corner_ordered}
use Rattle.plane_edges.proofs.OffEdge.{off_apart}
use Rattle.plane_edges.proofs.OnEdge.{edge_met}

-- ---- a ring

swapped : (a b c d : Bool) → xor (xor a b) (xor c d) ≡ xor (xor a c) (xor b d)
swapped a b c d = by_same _ _ (by_table (λ x y z w. same (xor (xor x y) (xor z w)) (xor (xor x z) (xor y w))) refl a b c d)

same_of_xor : (a b : Bool) → xor a b ≡ false → a ≡ b
same_of_xor true true h = refl
same_of_xor true false h = cc
same_of_xor false true h = cc
same_of_xor false false h = refl

abbrev passed_at : Box → Place → Position → Bool
passed_at box p q = passed box p (pos 128 *ℤ q.0) (pos 128 *ℤ q.1)

joined : (a b c d x y z : Bool) → xor a b ≡ xor x y → xor c d ≡ xor y z → xor (xor a c) (xor b d) ≡ xor x z
joined a b c d x y z h k = swapped a c b d ∙ ap (λ w. xor w (xor c d)) h ∙ ap (λ w. xor (xor x y) w) k ∙ middle_out x y z

-- the ends between two edges cancel
ends_alike : (box : Box) (p : Place) (q : Position) (rest : Ring) → IsIn box p
    → first_point box (edges_from q rest) ≡ None
    → xor (odd_by (crosses p) (edges_from q rest)) (odd_by (crosses (corner box)) (edges_from q rest))
    ≡ xor (passed_at box p q) (passed_at box p (last_after q rest))
ends_alike box p q [] i none = sym (xor_self (passed_at box p q))
ends_alike box p q (r ∷ rest) i none =
    let e = edge_between q r in
    let here = alike box p e i (apart box e (or_none_left (edge_point box e) (first_point box (edges_from r rest)) none)) in
    let there = ends_alike box p r rest i (or_none_right (edge_point box e) (first_point box (edges_from r rest)) none) in
    joined (crosses p e) (crosses (corner box) e) (odd_by (crosses p) (edges_from r rest)) (odd_by (crosses (corner box)) (edges_from r rest))
    (passed_at box p q) (passed_at box p r) (passed_at box p (last_after r rest)) here there

pub equal_of_test : (u v : ℤ) → int_eq u v ≡ true → u ≡ v
equal_of_test u v h = grind (arith, ints)

ring_alike : (box : Box) (p : Place) (ring : Ring) → IsIn box p → is_closed ring ≡ true
    → first_point box (ring_edges ring) ≡ None
    → odd_by (crosses p) (ring_edges ring) ≡ odd_by (crosses (corner box)) (ring_edges ring)
ring_alike box p [] i closed none = refl
ring_alike box p (q ∷ rest) i closed none =
    let x = equal_of_test (last_after q rest).0 q.0 (and_left (int_eq (last_after q rest).0 q.0) (int_eq (last_after q rest).1 q.1) closed) in
    let y = equal_of_test (last_after q rest).1 q.1 (and_right (int_eq (last_after q rest).0 q.0) (int_eq (last_after q rest).1 q.1) closed) in
    let ends : passed_at box p (last_after q rest) ≡ passed_at box p q =
    ap (λ (z : ℤ). passed box p (pos 128 *ℤ z) (pos 128 *ℤ (last_after q rest).1)) x
    ∙ ap (λ (z : ℤ). passed box p (pos 128 *ℤ q.0) (pos 128 *ℤ z)) y in
    same_of_xor _ _ (ends_alike box p q rest i none ∙ ap (λ w. xor (passed_at box p q) w) ends ∙ xor_self (passed_at box p q))

-- ---- a polygon and a district

pub first_point-append : (box : Box) (xs ys : List Segment) → first_point box (xs ++ ys) ≡ option_or (first_point box xs) (first_point box ys)
first_point-append box [] ys = refl
first_point-append box (e ∷ xs) ys = step (edge_point box e) (first_point box xs) (first_point box ys) _ (first_point-append box xs ys)
  where
    step : (o p q r : Option Place) → r ≡ option_or p q → option_or o r ≡ option_or (option_or o p) q
    step None p q r h = h
    step (Some x) p q r h = refl

polygon_alike : (box : Box) (p : Place) (rings : Polygon) → IsIn box p → list_all is_closed rings ≡ true
    → first_point box (polygon_edges rings) ≡ None
    → odd_by (crosses p) (polygon_edges rings) ≡ odd_by (crosses (corner box)) (polygon_edges rings)
polygon_alike box p [] i closed none = refl
polygon_alike box p (ring ∷ rings) i closed none =
    let parts = sym (first_point-append box (ring_edges ring) (polygon_edges rings)) ∙ none in
    let here = ring_alike box p ring i (and_left (is_closed ring) (list_all is_closed rings) closed)
    (or_none_left (first_point box (ring_edges ring)) (first_point box (polygon_edges rings)) parts) in
    let there = polygon_alike box p rings i (and_right (is_closed ring) (list_all is_closed rings) closed)
    (or_none_right (first_point box (ring_edges ring)) (first_point box (polygon_edges rings)) parts) in
    odd_by-append (crosses p) (ring_edges ring) (polygon_edges rings)
    ∙ ap (λ w. xor w (odd_by (crosses p) (polygon_edges rings))) here
    ∙ ap (λ w. xor (odd_by (crosses (corner box)) (ring_edges ring)) w) there
    ∙ sym (odd_by-append (crosses (corner box)) (ring_edges ring) (polygon_edges rings))

none_on : (box : Box) (p : Place) (edges : List Segment) → IsIn box p → first_point box edges ≡ None
    → list_any (is_on p) edges ≡ false
none_on box p [] i none = refl
none_on box p (e ∷ rest) i none =
    both_false _ _ (off_apart box p e i (apart box e (or_none_left (edge_point box e) (first_point box rest) none)))
    (none_on box p rest i (or_none_right (edge_point box e) (first_point box rest) none))
  where
    both_false : (a b : Bool) → a ≡ false → b ≡ false → (a || b) ≡ false
    both_false true b h k = h
    both_false false b h k = k

-- a place of a box that no edge meets is in a polygon as the corner is
in_polygon_alike : (box : Box) (p : Place) (rings : Polygon) → IsIn box p → list_all is_closed rings ≡ true
    → first_point box (polygon_edges rings) ≡ None → is_in_polygon p rings ≡ is_in_polygon (corner box) rings
in_polygon_alike box p rings i closed none =
    let here = none_on box p (polygon_edges rings) i none in
    let there = none_on box (corner box) (polygon_edges rings) (corner_in box p i) none in
    ap (λ w. w || is_odd (count_by (crosses p) (polygon_edges rings))) here
    ∙ is_odd-count_by (crosses p) (polygon_edges rings)
    ∙ polygon_alike box p rings i closed none
    ∙ sym (is_odd-count_by (crosses (corner box)) (polygon_edges rings))
    ∙ sym (ap (λ w. w || is_odd (count_by (crosses (corner box)) (polygon_edges rings))) there)

pub in_district_alike : (box : Box) (p : Place) (polygons : List Polygon) → IsIn box p → are_closed polygons ≡ true
    → first_point box (flat_map polygon_edges polygons) ≡ None
    → is_in_district p polygons ≡ is_in_district (corner box) polygons
in_district_alike box p [] i closed none = refl
in_district_alike box p (rings ∷ rest) i closed none =
    let parts = sym (first_point-append box (polygon_edges rings) (flat_map polygon_edges rest)) ∙ none in
    let here = in_polygon_alike box p rings i (and_left (list_all is_closed rings) (are_closed rest) closed)
    (or_none_left (first_point box (polygon_edges rings)) (first_point box (flat_map polygon_edges rest)) parts) in
    let there = in_district_alike box p rest i (and_right (list_all is_closed rings) (are_closed rest) closed)
    (or_none_right (first_point box (polygon_edges rings)) (first_point box (flat_map polygon_edges rest)) parts) in
    ap (λ w. w || is_in_district p rest) here ∙ ap (λ w. is_in_polygon (corner box) rings || w) there

-- ---- the laws

-- the first point is in the box and on an edge
first_met : (box : Box) (p : Place) (edges : List Segment) → IsOrdered box → first_point box edges ≡ Some p
    → IsIn box p × (list_any (is_on p) edges ≡ true)
first_met box p [] o h = cc
first_met box p (e ∷ rest) o h =
    elim (or_some (edge_point box e) (first_point box rest) p h) [
      | inl here ↦
          let m = edge_met box e p o.x_ordered o.y_ordered here in
          (m.inside, or_left (is_on p e) (list_any (is_on p) rest) m.on)
      | inr there ↦
          let m = first_met box p rest o there in
          (m.0, or_right (is_on p e) (list_any (is_on p) rest) m.1)
    ]

ordered_of : (box : Box) (p : Place) → IsIn box p → IsOrdered box
ordered_of box p i =
    let c = corner_in box p i in
    record { x_ordered = omega (arith, ints, c.east); y_ordered = omega (arith, ints, c.north) }

none_first : (box : Box) (edges : List Segment) → IsOrdered box
    → ((r : Place) → IsIn box r → list_any (is_on r) edges ≡ false) → first_point box edges ≡ None
none_first box edges o off = by (first_point box edges) refl
  where
    by : (found : Option Place) → first_point box edges ≡ found → found ≡ None
    by None h = refl
    by (Some r) h =
        let m = first_met box r edges o h in
        let contrary : true ≡ false = sym m.1 ∙ off r m.0 in
        cc

pub wholly_in_or_out : IsWhollyInOrOut
wholly_in_or_out box rings closed off p q i j =
    let none = none_first box (polygon_edges rings) (ordered_of box p i) off in
    in_polygon_alike box p rings i closed none ∙ sym (in_polygon_alike box q rings j closed none)

-- what is on an edge of a polygon is in the district
on_border : (p : Place) (polygons : List Polygon) → list_any (is_on p) (flat_map polygon_edges polygons) ≡ true
    → is_in_district p polygons ≡ true
on_border p [] h = h
on_border p (rings ∷ rest) h =
    let parts = sym (list_any-append (is_on p) (polygon_edges rings) (flat_map polygon_edges rest)) ∙ h in
    elim (or_cases (list_any (is_on p) (polygon_edges rings)) (list_any (is_on p) (flat_map polygon_edges rest)) parts) [
      | inl here ↦ or_left (is_in_polygon p rings) (is_in_district p rest)
          (or_left (list_any (is_on p) (polygon_edges rings)) (is_odd (count_by (crosses p) (polygon_edges rings))) here)
      | inr there ↦ or_right (is_in_polygon p rings) (is_in_district p rest) (on_border p rest there)
    ]

-- the first point of a district's edges
pub first_in : (box : Box) (p : Place) (polygons : List Polygon) → IsOrdered box
    → Some p ≡ first_point box (flat_map polygon_edges polygons) → IsIn box p × (is_in_district p polygons ≡ true)
first_in box p polygons ordered h =
    let m = first_met box p (flat_map polygon_edges polygons) ordered (sym h) in
    (m.0, on_border p polygons m.1)

pub names_exactly : NamesExactly
names_exactly box polygons ordered closed =
    by (first_point box (flat_map polygon_edges polygons)) refl
    (is_in_district (corner box) polygons) refl
  where
    by : (found : Option Place) → first_point box (flat_map polygon_edges polygons) ≡ found
        → (here : Bool) → is_in_district (corner box) polygons ≡ here
        → MatchOption (option_or found (cond here (Some (corner box)) None))
        ((p : Place) → IsIn box p → is_in_district p polygons ≡ false)
        (λ p. IsIn box p × (is_in_district p polygons ≡ true))
    by (Some p) h here k =
        let m = first_met box p (flat_map polygon_edges polygons) ordered h in
        (m.0, on_border p polygons m.1)
    by None h true k = (corner_ordered box ordered, k)
    by None h false k = λ p i. in_district_alike box p polygons i closed h ∙ k
