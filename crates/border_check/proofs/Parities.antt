-- The parity at a place of a box, by that at its corner and the edges that meet the box.
use Rattle.std.proofs.Common.{◌≡◌, Bool, true, false, not, cond, List, [], ◌∷◌, ◌++◌, Option, Some, None, arith, refl, sym, ap, ◌∙◌}
use Rattle.std.proofs.Math.IntN.{ℤ, pos, ◌*ℤ◌}
use Rattle.std.specs.Ordering.{int_eq}
use Rattle.std.specs.Option.{is_some}
use Rattle.std.specs.List.{list_all}
use Rattle.std.proofs.lemmas.Int.{ints}
use Rattle.plane_edges.specs.Plane.{Place, Segment, Box, IsIn, crosses, xor}
use Rattle.ring_survey.specs.Polygons.{Position, Ring, Polygon, last_after, is_closed}
use Rattle.region.specs.Rings.{edge_between, edges_from, ring_edges, polygon_edges}
use Rattle.plane_edges.specs.EdgePoints.{edge_point, corner}
use Rattle.plane_edges.proofs.Truth.{same, by_same, by_table, and_left, and_right}
use Rattle.region.proofs.Odd.{odd_by, odd_by-append, is_odd-count_by}
use Rattle.plane_edges.proofs.Apart.{apart}
use Rattle.plane_edges.proofs.Parity.{passed, alike}
use Rattle.border_check.specs.Shares.{meets, near, odd_at, changes}

swapped : (a b c d : Bool) → xor (xor a b) (xor c d) ≡ xor (xor a c) (xor b d)
swapped a b c d = by_same _ _ (by_table (λ x y z w. same (xor (xor x y) (xor z w)) (xor (xor x z) (xor y w))) refl a b c d)

middle_out : (a b c : Bool) → xor (xor a b) (xor b c) ≡ xor a c
middle_out a b c = by_same _ _ (by_table (λ x y z w. same (xor (xor x y) (xor y z)) (xor x z)) refl a b c true)

given_back : (a b : Bool) → xor a (xor b a) ≡ b
given_back true true = refl
given_back true false = refl
given_back false true = refl
given_back false false = refl

xor_self : (a : Bool) → xor a a ≡ false
xor_self true = refl
xor_self false = refl

of_xor : (a b : Bool) → a ≡ b → xor a b ≡ false
of_xor true b h = ap not (sym h)
of_xor false b h = sym h

xor_false : (a : Bool) → xor a false ≡ a
xor_false true = refl
xor_false false = refl

-- an edge that doesn't meet the box changes nothing
unchanged : (box : Box) (p : Place) (e : Segment) → IsIn box p → meets box e ≡ false → changes box p e ≡ false
unchanged box p e i h = by (edge_point box e) refl h
  where
    by : (found : Option Place) → edge_point box e ≡ found → is_some found ≡ false → changes box p e ≡ false
    by (Some q) f none = cc
    by None f none = of_xor _ _ (alike box p e i (apart box e f))

near_changes : (box : Box) (p : Place) (edges : List Segment) → IsIn box p
    → odd_by (changes box p) (near box edges) ≡ odd_by (changes box p) edges
near_changes box p [] i = refl
near_changes box p (e ∷ rest) i = by (meets box e) refl (near_changes box p rest i)
  where
    by : (b : Bool) → meets box e ≡ b → odd_by (changes box p) (near box rest) ≡ odd_by (changes box p) rest
        → odd_by (changes box p) (cond b (e ∷ near box rest) (near box rest)) ≡ xor (changes box p e) (odd_by (changes box p) rest)
    by true h more = ap (λ w. xor (changes box p e) w) more
    by false h more = more ∙ ap (λ w. xor w (odd_by (changes box p) rest)) (sym (unchanged box p e i h))

abbrev passed_at : Box → Place → Position → Bool
passed_at box p q = passed box p (pos 128 *ℤ q.0) (pos 128 *ℤ q.1)

-- the parities at the place and at the corner together
abbrev both : Box → Place → List Segment → Bool
both box p edges = xor (odd_by (crosses p) edges) (odd_by (crosses (corner box)) edges)

joined : (a b c d x y z t : Bool) → t ≡ xor (xor c d) (xor y z)
    → xor (xor (xor a b) (xor x y)) t ≡ xor (xor (xor a c) (xor b d)) (xor x z)
joined a b c d x y z t h =
    ap (λ w. xor (xor (xor a b) (xor x y)) w) h
    ∙ swapped (xor a b) (xor x y) (xor c d) (xor y z)
    ∙ ap (λ w. xor w (xor (xor x y) (xor y z))) (swapped a b c d)
    ∙ ap (λ w. xor (xor (xor a c) (xor b d)) w) (middle_out x y z)

-- the ends between two edges cancel
changed_from : (box : Box) (p : Place) (q : Position) (rest : Ring) → odd_by (changes box p) (edges_from q rest)
    ≡ xor (both box p (edges_from q rest)) (xor (passed_at box p q) (passed_at box p (last_after q rest)))
changed_from box p q [] = sym (xor_self (passed_at box p q))
changed_from box p q (r ∷ rest) =
    joined (crosses p (edge_between q r)) (crosses (corner box) (edge_between q r))
    (odd_by (crosses p) (edges_from r rest)) (odd_by (crosses (corner box)) (edges_from r rest))
    (passed_at box p q) (passed_at box p r) (passed_at box p (last_after r rest))
    (odd_by (changes box p) (edges_from r rest)) (changed_from box p r rest)

equal_of_test : (u v : ℤ) → int_eq u v ≡ true → u ≡ v
equal_of_test u v h = grind (arith, ints)

changed_ring : (box : Box) (p : Place) (ring : Ring) → is_closed ring ≡ true
    → odd_by (changes box p) (ring_edges ring) ≡ both box p (ring_edges ring)
changed_ring box p [] closed = refl
changed_ring box p (q ∷ rest) closed =
    let x = equal_of_test (last_after q rest).0 q.0 (and_left (int_eq (last_after q rest).0 q.0) (int_eq (last_after q rest).1 q.1) closed) in
    let y = equal_of_test (last_after q rest).1 q.1 (and_right (int_eq (last_after q rest).0 q.0) (int_eq (last_after q rest).1 q.1) closed) in
    let ends : passed_at box p (last_after q rest) ≡ passed_at box p q =
    ap (λ (z : ℤ). passed box p (pos 128 *ℤ z) (pos 128 *ℤ (last_after q rest).1)) x
    ∙ ap (λ (z : ℤ). passed box p (pos 128 *ℤ q.0) (pos 128 *ℤ z)) y in
    changed_from box p q rest
    ∙ ap (λ w. xor (both box p (edges_from q rest)) (xor (passed_at box p q) w)) ends
    ∙ ap (λ w. xor (both box p (edges_from q rest)) w) (xor_self (passed_at box p q))
    ∙ xor_false (both box p (edges_from q rest))

changed_polygon : (box : Box) (p : Place) (rings : Polygon) → list_all is_closed rings ≡ true
    → odd_by (changes box p) (polygon_edges rings) ≡ both box p (polygon_edges rings)
changed_polygon box p [] closed = refl
changed_polygon box p (ring ∷ rings) closed =
    let here = changed_ring box p ring (and_left (is_closed ring) (list_all is_closed rings) closed) in
    let there = changed_polygon box p rings (and_right (is_closed ring) (list_all is_closed rings) closed) in
    let edges = ring_edges ring in
    let more = polygon_edges rings in
    odd_by-append (changes box p) edges more
    ∙ ap (λ w. xor w (odd_by (changes box p) more)) here
    ∙ ap (λ w. xor (both box p edges) w) there
    ∙ swapped (odd_by (crosses p) edges) (odd_by (crosses (corner box)) edges) (odd_by (crosses p) more) (odd_by (crosses (corner box)) more)
    ∙ ap (λ w. xor w (xor (odd_by (crosses (corner box)) edges) (odd_by (crosses (corner box)) more))) (sym (odd_by-append (crosses p) edges more))
    ∙ ap (λ w. xor (odd_by (crosses p) (edges ++ more)) w) (sym (odd_by-append (crosses (corner box)) edges more))

-- the parity at the place, by that at the corner and the edges near the box
pub moved : (box : Box) (p : Place) (rings : Polygon) → IsIn box p → list_all is_closed rings ≡ true
    → xor (odd_at (corner box) (polygon_edges rings)) (odd_by (changes box p) (near box (polygon_edges rings)))
    ≡ odd_at p (polygon_edges rings)
moved box p rings i closed =
    let edges = polygon_edges rings in
    let change = near_changes box p edges i ∙ changed_polygon box p rings closed in
    ap (λ w. xor w (odd_by (changes box p) (near box edges))) (is_odd-count_by (crosses (corner box)) edges)
    ∙ ap (λ w. xor (odd_by (crosses (corner box)) edges) w) change
    ∙ given_back (odd_by (crosses (corner box)) edges) (odd_by (crosses p) edges)
    ∙ sym (is_odd-count_by (crosses p) edges)
