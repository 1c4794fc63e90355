-- Loops over a ring's edges: what was seen so far, with what is left, is what holds of all.
use Rattle.std.proofs.Common.{◌≡◌, ℕ, suc, ◌+◌, ◌≤◌, ◌<◌, ◌^◌, add-one, length, drop, get_or, Bool, true, false, not, ◌&&◌, ◌||◌, List, [], ◌∷◌, ◌++◌, Some, None, arith, refl, sym, ap, ◌∙◌}
use Rattle.std.proofs.Math.Seq.{drop-cons}
use Rattle.std.proofs.Math.IntN.{ℤ, pos, ◌-ℤ◌, ◌*ℤ◌}
use Rattle.std.specs.Prelude.{◌≤ℤ◌, unsigned_abs, nat_lt, nat_le}
use Rattle.std.proofs.lemmas.Int.{ints}
use Rattle.std.proofs.lemmas.Bool.Decides.{nat_tests}
use Rattle.plane_edges.specs.Magnitude.{IsWithin}
use Rattle.std.specs.List.{list_any}
use Rattle.std.specs.Option.{option_or}
use Rattle.std.proofs.lemmas.List.Folds.{list_any-append}
use Rattle.plane_edges.specs.Plane.{Place, Segment, Box, is_on, crosses, xor}
use Rattle.ring_survey.specs.Polygons.{Position, Ring, Polygon}
use Rattle.region.specs.Rings.{edges_from, ring_edges, polygon_edges}
use Rattle.ring_survey.specs.Extent.{is_far, is_step, is_compact_from}
use Rattle.plane_edges.specs.EdgePoints.{first_point}
use Rattle.plane_edges.proofs.Truth.{or_assoc, and_left, and_right, not_false, neither}
use Rattle.region.proofs.Odd.{odd_by, odd_by-append, xor_assoc}
use Rattle.region.proofs.Wholly.{first_point-append}

pub record Touched (p : Place) (first : Position) (all : Ring) (previous : Position) (left : Ring) (on odd : Bool) : Type 0 where
  pub short : is_compact_from previous left ≡ true
  pub on_is : (on || list_any (is_on p) (edges_from previous left)) ≡ list_any (is_on p) (edges_from first all)
  pub odd_is : xor odd (odd_by (crosses p) (edges_from previous left)) ≡ odd_by (crosses p) (edges_from first all)

pub record Passed (box : Box) (first : Position) (all : Ring) (previous : Position) (left : Ring) : Type 0 where
  pub short : is_compact_from previous left ≡ true
  pub none : first_point box (edges_from previous left) ≡ first_point box (edges_from first all)

-- ---- near positions and short steps

pub short_start : (p : Position) (left : Ring) → is_compact_from p left ≡ true → is_far p ≡ false
short_start p [] h = not_false (is_far p) h
short_start p (q ∷ rest) h = not_false (is_far p) (and_left (not (is_far p)) (is_step p q && is_compact_from q rest) h)

pub short_rest : (p q : Position) (rest : Ring) → is_compact_from p (q ∷ rest) ≡ true → is_compact_from q rest ≡ true
short_rest p q rest h =
    and_right (is_step p q) (is_compact_from q rest) (and_right (not (is_far p)) (is_step p q && is_compact_from q rest) h)

magnitude_within : (n : ℕ) (z : ℤ) → unsigned_abs z ≤ n → IsWithin (pos n) z
magnitude_within n z h = record { low = omega (arith, ints); high = omega (arith, ints) }

pub near : (p : Position) → is_far p ≡ false → IsWithin (pos 360_000_000) p.0 × IsWithin (pos 65_000_000) p.1
near p h =
    let k = neither (nat_lt 65_000_000 (unsigned_abs p.1)) (nat_lt 360_000_000 (unsigned_abs p.0)) h in
    (magnitude_within _ p.0 (not_less _ _ k.1), magnitude_within _ p.1 (not_less _ _ k.0))
  where
    not_less : (m n : ℕ) → nat_lt m n ≡ false → n ≤ m
    not_less m n h = grind (arith, nat_tests)

pub stepped : (p q : Position) → is_step p q ≡ true
    → IsWithin (pos 4_194_304) (q.0 -ℤ p.0) × IsWithin (pos 4_194_304) (q.1 -ℤ p.1)
stepped p q h = (
  magnitude_within _ (q.0 -ℤ p.0) (at_most _ _ (and_left (nat_le (unsigned_abs (q.0 -ℤ p.0)) 4_194_304) (nat_le (unsigned_abs (q.1 -ℤ p.1)) 4_194_304) h)),
  magnitude_within _ (q.1 -ℤ p.1) (at_most _ _ (and_right (nat_le (unsigned_abs (q.0 -ℤ p.0)) 4_194_304) (nat_le (unsigned_abs (q.1 -ℤ p.1)) 4_194_304) h)),
)
  where
    at_most : (m n : ℕ) → nat_le m n ≡ true → m ≤ n
    at_most m n h = grind (arith, nat_tests)

-- an edge between near positions, in place units
scaled_within : (m n z : ℤ) → (pos 128 *ℤ m) ≤ℤ n → IsWithin m z → IsWithin n (pos 128 *ℤ z)
scaled_within m n z h w = record { low = omega (arith, ints, w.low, w.high); high = omega (arith, ints, w.low, w.high) }

scaled_span : (m n y z : ℤ) → (pos 128 *ℤ m) ≤ℤ n → IsWithin m (z -ℤ y) → IsWithin n (pos 128 *ℤ z -ℤ pos 128 *ℤ y)
scaled_span m n y z h w = record { low = omega (arith, ints, w.low, w.high); high = omega (arith, ints, w.low, w.high) }

pub record IsEdge (p q : Position) : Type 0 where
  pub xa : IsWithin (pos 47_000_000_000) (pos 128 *ℤ p.0)
  pub ya : IsWithin (pos 47_000_000_000) (pos 128 *ℤ p.1)
  pub xb : IsWithin (pos 47_000_000_000) (pos 128 *ℤ q.0)
  pub yb : IsWithin (pos 47_000_000_000) (pos 128 *ℤ q.1)
  pub x_span : IsWithin (pos (2 ^ 29)) (pos 128 *ℤ q.0 -ℤ pos 128 *ℤ p.0)
  pub y_span : IsWithin (pos (2 ^ 29)) (pos 128 *ℤ q.1 -ℤ pos 128 *ℤ p.1)

pub is_edge : (p q : Position) → is_far p ≡ false → is_far q ≡ false → is_step p q ≡ true → IsEdge p q
is_edge p q g h k =
    let a = near p g in
    let b = near q h in
    let s = stepped p q k in
    record {
      xa = scaled_within (pos 360_000_000) _ p.0 (omega (arith, ints)) a.0;
      ya = scaled_within (pos 65_000_000) _ p.1 (omega (arith, ints)) a.1;
      xb = scaled_within (pos 360_000_000) _ q.0 (omega (arith, ints)) b.0;
      yb = scaled_within (pos 65_000_000) _ q.1 (omega (arith, ints)) b.1;
      x_span = scaled_span (pos 4_194_304) _ p.0 q.0 (omega (arith, ints)) s.0;
      y_span = scaled_span (pos 4_194_304) _ p.1 q.1 (omega (arith, ints)) s.1;
    }

-- the next position of what is left
pub short_next : (p : Position) (all : Ring) (i : ℕ) → i < length all → is_compact_from p (drop i all) ≡ true
    → is_far (get_or all i (pos 0, pos 0)) ≡ false
short_next p all i h s =
    let left = drop-cons all i (pos 0, pos 0) h in
    let q = get_or all i (pos 0, pos 0) in
    short_start q (drop (suc i) all) (short_rest p q (drop (suc i) all) (rw left at s))

-- ---- loops over a polygon's rings

pub record RingsTouched (p : Place) (all left : Polygon) (on odd : Bool) : Type 0 where
  pub on_is : (on || list_any (is_on p) (polygon_edges left)) ≡ list_any (is_on p) (polygon_edges all)
  pub odd_is : xor odd (odd_by (crosses p) (polygon_edges left)) ≡ odd_by (crosses p) (polygon_edges all)

-- one more ring
pub ring_touched : (p : Place) (all : Polygon) (ring : Ring) (left : Polygon) (on odd : Bool)
    → RingsTouched p all (ring ∷ left) on odd
    → RingsTouched p all left (on || list_any (is_on p) (ring_edges ring)) (xor odd (odd_by (crosses p) (ring_edges ring)))
ring_touched p all ring left on odd t = record {
  on_is = or_assoc on (list_any (is_on p) (ring_edges ring)) (list_any (is_on p) (polygon_edges left))
      ∙ ap (λ w. on || w) (sym (list_any-append (is_on p) (ring_edges ring) (polygon_edges left)))
      ∙ t.on_is;
  odd_is = xor_assoc odd (odd_by (crosses p) (ring_edges ring)) (odd_by (crosses p) (polygon_edges left))
      ∙ ap (λ w. xor odd w) (sym (odd_by-append (crosses p) (ring_edges ring) (polygon_edges left)))
      ∙ t.odd_is;
}

-- a first point that comes later
pub first_later : (box : Box) (xs ys : List Segment) → None ≡ first_point box xs
    → first_point box ys ≡ first_point box (xs ++ ys)
first_later box xs ys h = sym (first_point-append box xs ys ∙ ap (λ o. option_or o (first_point box ys)) (sym h))

-- a first point that is here
pub first_here : (box : Box) (xs ys : List Segment) (p : Place) → Some p ≡ first_point box xs
    → Some p ≡ first_point box (xs ++ ys)
first_here box xs ys p h = sym (first_point-append box xs ys ∙ ap (λ o. option_or o (first_point box ys)) (sym h))

pub short_step : (p : Position) (all : Ring) (i : ℕ) → i < length all → is_compact_from p (drop i all) ≡ true
    → is_step p (get_or all i (pos 0, pos 0)) ≡ true
short_step p all i h s =
    let left = drop-cons all i (pos 0, pos 0) h in
    let q = get_or all i (pos 0, pos 0) in
    let rest = drop (suc i) all in
    and_left (is_step p q) (is_compact_from q rest)
    (and_right (not (is_far p)) (is_step p q && is_compact_from q rest) (rw left at s))

pub next_position : (all : Ring) (i : ℕ) → i < length all → drop i all ≡ get_or all i (pos 0, pos 0) ∷ drop (i + 1) all
next_position all i h = drop-cons all i (pos 0, pos 0) h ∙ rw add-one refl
