-- A district's places lie within its longitudes and latitudes.
use Rattle.std.proofs.Common.{◌≡◌, Bool, true, false, cond, not, ◌&&◌, ◌||◌, List, [], ◌∷◌, ◌++◌, map, refl, sym, ap, ◌∙◌, arith}
use Rattle.std.proofs.Math.IntN.{ℤ, pos, ◌*ℤ◌}
use Rattle.std.specs.Prelude.{◌<ℤ◌, ◌≤ℤ◌}
use Rattle.std.specs.Ordering.{int_eq}
use Rattle.std.specs.List.{list_any, list_all, flat_map, AllByRecursion as Every}
use Rattle.std.proofs.lemmas.Int.{ints, by_lt_z}
use Rattle.std.proofs.lemmas.Bool.{false≢true}
use Rattle.std.proofs.lemmas.List.Folds.{list_any-append}
use Rattle.plane_edges.specs.Plane.{Place, Segment, Box, IsIn, is_on, is_above, crosses, xor}
use Rattle.ring_survey.specs.Polygons.{Position, Ring, Polygon, last_after, is_closed, are_closed}
use Rattle.region.specs.Rings.{edge_between, edges_from, ring_edges, polygon_edges, is_in_district}
use Rattle.ring_survey.specs.Extent.{longitudes, latitudes, least, greatest, positions_of}
use Rattle.plane_edges.proofs.Products.{times_mono}
use Rattle.plane_edges.proofs.Truth.{and_left, and_right, lt_true, lt_false, and_false, false_and}
use Rattle.region.proofs.Odd.{odd_by, odd_by-append, is_odd-count_by, xor_self, middle_out}
use Rattle.region.proofs.Wholly.{equal_of_test}
use Rattle.plane_edges.proofs.Parity.{no_cross_west, cross_east}
use Rattle.ring_survey.proofs.Reach.{AllIn, all_in}
use Rattle.plane_edges.proofs.OffEdge.{above_both, below_both}

-- a position within these ends, in place units
record IsWithin (w e s n : ℤ) (q : Position) : Type 0 where
  west : w ≤ℤ (pos 128 *ℤ q.0)
  east : (pos 128 *ℤ q.0) ≤ℤ e
  south : s ≤ℤ (pos 128 *ℤ q.1)
  north : (pos 128 *ℤ q.1) ≤ℤ n

-- the place is beyond one of these ends
data IsBeyond (w e s n : ℤ) (p : Place) : Type 0 where
  west : p.a <ℤ (w *ℤ p.d) → IsBeyond w e s n p
  east : (e *ℤ p.d) <ℤ p.a → IsBeyond w e s n p
  south : p.b <ℤ (s *ℤ p.d) → IsBeyond w e s n p
  north : (n *ℤ p.d) <ℤ p.b → IsBeyond w e s n p

above : (p : Place) (u v : ℤ) → pos 0 <ℤ p.d → u ≤ℤ v → (u *ℤ p.d) ≤ℤ (v *ℤ p.d)
above p u v positive h = times_mono u v p.d (omega (arith, ints)) h

-- what the start adds to the parity of an edge's crossing, and the end: beyond the west they cancel in a ring
abbrev counted : {w e s n : ℤ} (p : Place) → IsBeyond w e s n p → Position → Bool
counted p (west h) q = is_above p (pos 128 *ℤ q.1)
counted p (east h) q = false
counted p (south h) q = false
counted p (north h) q = false

counted_same : {w e s n : ℤ} (p : Place) (b : IsBeyond w e s n p) (q r : Position) → q.1 ≡ r.1 → counted p b q ≡ counted p b r
counted_same p (west h) q r same = ap (λ (z : ℤ). is_above p (pos 128 *ℤ z)) same
counted_same p (east h) q r same = refl
counted_same p (south h) q r same = refl
counted_same p (north h) q r same = refl

both_above : (from to left right : Bool) → from ≡ true → to ≡ true → cond to (not from && left) (from && right) ≡ false
both_above true true left right f g = refl
both_above false to left right f g = cc
both_above true false left right f g = cc

both_below : (from to left right : Bool) → from ≡ false → to ≡ false → cond to (not from && left) (from && right) ≡ false
both_below false false left right f g = refl
both_below true to left right f g = cc
both_below false true left right f g = cc

-- the place is not on an edge within the ends, and crosses it only as its ends count
record Misses {w e s n : ℤ} (p : Place) (b : IsBeyond w e s n p) (q r : Position) : Type 0 where
  off : is_on p (edge_between q r) ≡ false
  parity : crosses p (edge_between q r) ≡ xor (counted p b q) (counted p b r)

misses : {w e s n : ℤ} (p : Place) (b : IsBeyond w e s n p) (q r : Position) → pos 0 <ℤ p.d → IsWithin w e s n q → IsWithin w e s n r → Misses p b q r
misses {w} p (west h) q r positive i j =
    let f = above p w (pos 128 *ℤ q.0) positive i.west in
    let g = above p w (pos 128 *ℤ r.0) positive j.west in
    record {
      off = false_and _ _ (above_both ((pos 128 *ℤ q.0) *ℤ p.d) ((pos 128 *ℤ r.0) *ℤ p.d) p.a (omega (arith, ints, f, h)) (omega (arith, ints, g, h)));
      parity = cross_east (edge_between q r) p positive (omega (arith, ints, f, h)) (omega (arith, ints, g, h));
    }
misses {w} {e} p (east h) q r positive i j =
    let f = above p (pos 128 *ℤ q.0) e positive i.east in
    let g = above p (pos 128 *ℤ r.0) e positive j.east in
    record {
      off = false_and _ _ (below_both ((pos 128 *ℤ q.0) *ℤ p.d) ((pos 128 *ℤ r.0) *ℤ p.d) p.a (omega (arith, ints, f, h)) (omega (arith, ints, g, h)));
      parity = no_cross_west (edge_between q r) p positive (omega (arith, ints, f, h)) (omega (arith, ints, g, h));
    }
misses {w} {e} {s} p (south h) q r positive i j =
    let f = above p s (pos 128 *ℤ q.1) positive i.south in
    let g = above p s (pos 128 *ℤ r.1) positive j.south in
    record {
      off = and_false _ _ (false_and _ _ (above_both ((pos 128 *ℤ q.1) *ℤ p.d) ((pos 128 *ℤ r.1) *ℤ p.d) p.b (omega (arith, ints, f, h)) (omega (arith, ints, g, h))));
      parity = both_above _ _ _ _
          (lt_true p.b ((pos 128 *ℤ q.1) *ℤ p.d) (omega (arith, ints, f, h)))
          (lt_true p.b ((pos 128 *ℤ r.1) *ℤ p.d) (omega (arith, ints, g, h)));
    }
misses {w} {e} {s} {n} p (north h) q r positive i j =
    let f = above p (pos 128 *ℤ q.1) n positive i.north in
    let g = above p (pos 128 *ℤ r.1) n positive j.north in
    record {
      off = and_false _ _ (false_and _ _ (below_both ((pos 128 *ℤ q.1) *ℤ p.d) ((pos 128 *ℤ r.1) *ℤ p.d) p.b (omega (arith, ints, f, h)) (omega (arith, ints, g, h))));
      parity = both_below _ _ _ _
          (lt_false p.b ((pos 128 *ℤ q.1) *ℤ p.d) (omega (arith, ints, f, h)))
          (lt_false p.b ((pos 128 *ℤ r.1) *ℤ p.d) (omega (arith, ints, g, h)));
    }

-- ---- rings, polygons, districts

both_false : (a b : Bool) → a ≡ false → b ≡ false → (a || b) ≡ false
both_false true b h k = h
both_false false b h k = k

record MissesAll (p : Place) (edges : List Segment) (parity : Bool) : Type 0 where
  off : list_any (is_on p) edges ≡ false
  odd : odd_by (crosses p) edges ≡ parity

misses_from : {w e s n : ℤ} (p : Place) (b : IsBeyond w e s n p) (q : Position) (rest : Ring) → pos 0 <ℤ p.d →
    Every (IsWithin w e s n) (q ∷ rest) → MissesAll p (edges_from q rest) (xor (counted p b q) (counted p b (last_after q rest)))
misses_from p b q [] positive i = record { off = refl; odd = sym (xor_self (counted p b q)) }
misses_from p b q (r ∷ rest) positive i =
    let here = misses p b q r positive i.0 i.1.0 in
    let there = misses_from p b r rest positive i.1 in
    record {
      off = both_false _ _ here.off there.off;
      odd = ap (λ x. xor x (odd_by (crosses p) (edges_from r rest))) here.parity
          ∙ ap (λ x. xor (xor (counted p b q) (counted p b r)) x) there.odd
          ∙ middle_out (counted p b q) (counted p b r) (counted p b (last_after r rest));
    }

misses_ring : {w e s n : ℤ} (p : Place) (b : IsBeyond w e s n p) (ring : Ring) → pos 0 <ℤ p.d → is_closed ring ≡ true →
    Every (IsWithin w e s n) ring → MissesAll p (ring_edges ring) false
misses_ring p b [] positive closed i = record { off = refl; odd = refl }
misses_ring p b (q ∷ rest) positive closed i =
    let all = misses_from p b q rest positive i in
    let ends = equal_of_test (last_after q rest).1 q.1 (and_right (int_eq (last_after q rest).0 q.0) (int_eq (last_after q rest).1 q.1) closed) in
    record {
      off = all.off;
      odd = all.odd ∙ ap (λ x. xor (counted p b q) x) (counted_same p b (last_after q rest) q ends) ∙ xor_self (counted p b q);
    }

misses_polygon : {w e s n : ℤ} (p : Place) (b : IsBeyond w e s n p) (rings : Polygon) → pos 0 <ℤ p.d → list_all is_closed rings ≡ true →
    Every (Every (IsWithin w e s n)) rings → MissesAll p (polygon_edges rings) false
misses_polygon p b [] positive closed i = record { off = refl; odd = refl }
misses_polygon p b (ring ∷ rings) positive closed i =
    let here = misses_ring p b ring positive (and_left (is_closed ring) (list_all is_closed rings) closed) i.0 in
    let there = misses_polygon p b rings positive (and_right (is_closed ring) (list_all is_closed rings) closed) i.1 in
    record {
      off = list_any-append (is_on p) (ring_edges ring) (polygon_edges rings) ∙ both_false _ _ here.off there.off;
      odd = odd_by-append (crosses p) (ring_edges ring) (polygon_edges rings)
          ∙ ap (λ x. xor x (odd_by (crosses p) (polygon_edges rings))) here.odd ∙ there.odd;
    }

misses_district : {w e s n : ℤ} (p : Place) (b : IsBeyond w e s n p) (polygons : List Polygon) → pos 0 <ℤ p.d → are_closed polygons ≡ true →
    Every (Every (Every (IsWithin w e s n))) polygons → is_in_district p polygons ≡ false
misses_district p b [] positive closed i = refl
misses_district p b (rings ∷ rest) positive closed i =
    let here = misses_polygon p b rings positive (and_left (list_all is_closed rings) (are_closed rest) closed) i.0 in
    both_false _ _ (both_false _ _ here.off (is_odd-count_by (crosses p) (polygon_edges rings) ∙ here.odd))
    (misses_district p b rest positive (and_right (list_all is_closed rings) (are_closed rest) closed) i.1)

-- ---- the ends of a district's positions

in_all : (w e s n : ℤ) (ps : List Position) → AllIn w e (map (λ q. q.0) ps) → AllIn s n (map (λ q. q.1) ps) →
    Every (IsWithin (pos 128 *ℤ w) (pos 128 *ℤ e) (pos 128 *ℤ s) (pos 128 *ℤ n)) ps
in_all w e s n [] x y = tt
in_all w e s n (q ∷ ps) x y = (
  record { west = omega (arith, ints, x.0); east = omega (arith, ints, x.1); south = omega (arith, ints, y.0); north = omega (arith, ints, y.1) },
  in_all w e s n ps x.2 y.2,
)

Every-split : {X : Type 0} (P : X → Type 0) (xs ys : List X) → Every P (xs ++ ys) → Every P xs × Every P ys
Every-split P [] ys h = (tt, h)
Every-split P (x ∷ xs) ys h = let k = Every-split P xs ys h.1 in ((h.0, k.0), k.1)

in_rings : (P : Position → Type 0) (rings : Polygon) → Every P (flat_map (λ ring. ring) rings) → Every (Every P) rings
in_rings P [] h = tt
in_rings P (ring ∷ rings) h =
    let k = Every-split P ring (flat_map (λ ring. ring) rings) h in (k.0, in_rings P rings k.1)

in_polygons : (P : Position → Type 0) (polygons : List Polygon) → Every P (positions_of polygons) → Every (Every (Every P)) polygons
in_polygons P [] h = tt
in_polygons P (rings ∷ rest) h =
    let k = Every-split P (flat_map (λ ring. ring) rings) (positions_of rest) h in (in_rings P rings k.0, in_polygons P rest k.1)

-- the box round a district
abbrev pub bounds : List Polygon → Box
bounds polygons = record {
  x0 = pos 128 *ℤ least (longitudes polygons);
  x1 = pos 128 *ℤ greatest (longitudes polygons);
  y0 = pos 128 *ℤ least (latitudes polygons);
  y1 = pos 128 *ℤ greatest (latitudes polygons);
}

pub in_bounds : (polygons : List Polygon) → are_closed polygons ≡ true → (p : Place) → pos 0 <ℤ p.d → is_in_district p polygons ≡ true →
    IsIn (bounds polygons) p
in_bounds polygons closed p positive inside =
    let b = bounds polygons in
    let within = in_polygons (IsWithin b.x0 b.x1 b.y0 b.y1) polygons
    (in_all (least (longitudes polygons)) (greatest (longitudes polygons)) (least (latitudes polygons)) (greatest (latitudes polygons))
    (positions_of polygons) (all_in (longitudes polygons)) (all_in (latitudes polygons))) in
    let never : IsBeyond b.x0 b.x1 b.y0 b.y1 p → ⊥ = λ beyond. false≢true (sym (misses_district p beyond polygons positive closed within) ∙ inside) in
    record {
      positive = positive;
      west = by_lt_z p.a (b.x0 *ℤ p.d) (λ h. absurd (never (west h))) (λ h. h);
      east = by_lt_z (b.x1 *ℤ p.d) p.a (λ h. absurd (never (east h))) (λ h. h);
      south = by_lt_z p.b (b.y0 *ℤ p.d) (λ h. absurd (never (south h))) (λ h. h);
      north = by_lt_z (b.y1 *ℤ p.d) p.b (λ h. absurd (never (north h))) (λ h. h);
    }
