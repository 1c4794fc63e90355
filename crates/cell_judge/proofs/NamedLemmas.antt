-- The place that is named for a cell's box is within the limits of points.
use Rattle.std.proofs.Common.{◌≡◌, ◌^◌, true, not, ◌&&◌, cond, List, [], ◌∷◌, ◌++◌, Some, None, inl, inr, arith, ap, subst}
use Rattle.std.specs.Prelude.{ℤ, pos, ◌+ℤ◌, ◌-ℤ◌, ◌*ℤ◌, ◌≤ℤ◌, ◌<ℤ◌, int_le}
use Rattle.std.specs.Ordering.{int_eq}
use Rattle.std.specs.Option.{option_or}
use Rattle.std.specs.List.{flat_map, list_all}
use Rattle.std.proofs.lemmas.Int.{ints, by_lt_z}
use Rattle.plane_edges.specs.Magnitude.{IsWithin}
use Rattle.plane_edges.specs.Plane.{Place, Segment, Box, IsIn, encloses}
use Rattle.ring_survey.specs.Polygons.{Position, Ring, Polygon}
use Rattle.region.specs.Rings.{edges_from, ring_edges, polygon_edges, is_in_district}
use Rattle.ring_survey.specs.Extent.{is_far, is_compact, is_compact_from, is_step}
use Rattle.ring_survey.specs.Faults.{first_fault}
use Rattle.plane_edges.specs.EdgePoints.{progress, passing, at_start, at_longitude, at_latitude, edge_point, first_point, corner}
use Rattle.region.specs.Named.{named}
use Rattle.plane_edges.proofs.Truth.{and_left, and_right, and_true, le_true, map_some, or_left, or_right, or_some, some_is}
use Rattle.plane_edges.proofs.Products.{mul_within}
use Rattle.plane_edges.proofs.OnEdge.{progress_within}
use Rattle.region.proofs.Along.{short_rest, short_start, is_edge}
use Rattle.ring_survey.proofs.Reach.{all_short}
use Rattle.ring_survey.proofs.Sound.{sound}
use Rattle.cell_judge.proofs.PointLemmas.{IsPoint}

-- an edge that spans at most 2^29 place units each way
record IsShort (e : Segment) : Type 0 where
  x_span : IsWithin (pos (2 ^ 29)) (e.xb -ℤ e.xa)
  y_span : IsWithin (pos (2 ^ 29)) (e.yb -ℤ e.ya)

abbrev AreShort : List Segment → Type 0
AreShort [] = Unit {0}
AreShort (e ∷ rest) = IsShort e × AreShort rest

short-append : (xs ys : List Segment) → AreShort xs → AreShort ys → AreShort (xs ++ ys)
short-append [] ys h k = k
short-append (x ∷ xs) ys (h, hs) k = (h, short-append xs ys hs k)

-- ---- the edges of a district

along_short : (p : Position) (rest : Ring) → is_compact_from p rest ≡ true → AreShort (edges_from p rest)
along_short p [] h = tt
along_short p (q ∷ rest) h =
    let later = short_rest p q rest h in
    let step = and_left (is_step p q) (is_compact_from q rest) (and_right (not (is_far p)) (is_step p q && is_compact_from q rest) h) in
    let e = is_edge p q (short_start p (q ∷ rest) h) (short_start q rest later) step in
    (record { x_span = e.x_span; y_span = e.y_span }, along_short q rest later)

ring_short : (ring : Ring) → is_compact ring ≡ true → AreShort (ring_edges ring)
ring_short [] h = tt
ring_short (p ∷ rest) h = along_short p rest h

polygon_short : (rings : Polygon) → list_all is_compact rings ≡ true → AreShort (polygon_edges rings)
polygon_short [] h = tt
polygon_short (ring ∷ rest) h =
    short-append (ring_edges ring) (polygon_edges rest)
    (ring_short ring (and_left (is_compact ring) (list_all is_compact rest) h))
    (polygon_short rest (and_right (is_compact ring) (list_all is_compact rest) h))

district_short : (polygons : List Polygon) → list_all (list_all is_compact) polygons ≡ true → AreShort (flat_map polygon_edges polygons)
district_short [] h = tt
district_short (rings ∷ rest) h =
    short-append (polygon_edges rings) (flat_map polygon_edges rest)
    (polygon_short rings (and_left (list_all is_compact rings) (list_all (list_all is_compact) rest) h))
    (district_short rest (and_right (list_all is_compact rings) (list_all (list_all is_compact) rest) h))

-- ---- the place that an edge names

-- it is so many parts of the way to one of the box's sides
record IsSmall (p : Place) : Type 0 where
  short : p.d ≤ℤ pos (2 ^ 30)

ends_enclose : (u v : ℤ) → encloses u v v ≡ true
ends_enclose u v =
    by_lt_z u v
    (λ up. or_left (int_le u v && int_le v v) (int_le v v && int_le v u) (and_true (int_le u v) (int_le v v) (le_true u v (omega (arith, ints))) (le_true v v (omega (arith, ints)))))
    (λ down. or_right (int_le u v && int_le v v) (int_le v v && int_le v u) (and_true (int_le v v) (int_le v u) (le_true v v (omega (arith, ints))) (le_true v u (omega (arith, ints)))))

passing_small : (u v s t z low high value d : ℤ) → IsWithin (pos (2 ^ 29)) (v -ℤ u) → passing u v s t z low high ≡ Some (value, d) → d ≤ℤ pos (2 ^ 30)
passing_small u v s t z low high value d span h =
    let at = s *ℤ progress u v v +ℤ progress u v z *ℤ (t -ℤ s) in
    let within = int_le (low *ℤ progress u v v) at && int_le at (high *ℤ progress u v v) in
    let k = some_is (not (int_eq u v) && (encloses u v z && within)) (at, progress u v v) (value, d) h in
    let w = progress_within (pos (2 ^ 29)) u v v (ends_enclose u v) span in
    let same : progress u v v ≡ d = ap (λ (x : ℤ × ℤ). x.1) k.1 in
    omega (arith, ints, w.high)

start_small : (box : Box) (e : Segment) (p : Place) → at_start box e ≡ Some p → IsSmall p
start_small box e p h =
    let test = int_le box.x0 e.xa && (int_le e.xa box.x1 && (int_le box.y0 e.ya && int_le e.ya box.y1)) in
    let k = some_is test (record { a = e.xa; b = e.ya; d = pos 1 }) p h in
    subst IsSmall k.1 (record { short = omega (arith, ints) })

longitude_small : (box : Box) (e : Segment) (x : ℤ) (p : Place) → IsShort e → at_longitude box e x ≡ Some p → IsSmall p
longitude_small box e x p short h =
    let m = map_some (λ (pair : ℤ × ℤ). record { a = x *ℤ pair.1; b = pair.0; d = pair.1 })
    (passing e.xa e.xb e.ya e.yb x box.y0 box.y1) p h in
    subst IsSmall m.2 (record { short = passing_small e.xa e.xb e.ya e.yb x box.y0 box.y1 m.0.0 m.0.1 short.x_span m.1 })

latitude_small : (box : Box) (e : Segment) (y : ℤ) (p : Place) → IsShort e → at_latitude box e y ≡ Some p → IsSmall p
latitude_small box e y p short h =
    let m = map_some (λ (pair : ℤ × ℤ). record { a = pair.0; b = y *ℤ pair.1; d = pair.1 })
    (passing e.ya e.yb e.xa e.xb y box.x0 box.x1) p h in
    subst IsSmall m.2 (record { short = passing_small e.ya e.yb e.xa e.xb y box.x0 box.x1 m.0.0 m.0.1 short.y_span m.1 })

edge_small : (box : Box) (e : Segment) (p : Place) → IsShort e → edge_point box e ≡ Some p → IsSmall p
edge_small box e p short h =
    let after_x1 = option_or (at_latitude box e box.y0) (at_latitude box e box.y1) in
    let after_x0 = option_or (at_longitude box e box.x1) after_x1 in
    let after_start = option_or (at_longitude box e box.x0) after_x0 in
    elim (or_some (at_start box e) after_start p h) [
      | inl a ↦ start_small box e p a
      | inr rest ↦ elim (or_some (at_longitude box e box.x0) after_x0 p rest) [
        | inl a ↦ longitude_small box e box.x0 p short a
        | inr rest ↦ elim (or_some (at_longitude box e box.x1) after_x1 p rest) [
          | inl a ↦ longitude_small box e box.x1 p short a
          | inr rest ↦ elim (or_some (at_latitude box e box.y0) (at_latitude box e box.y1) p rest) [
            | inl a ↦ latitude_small box e box.y0 p short a
            | inr a ↦ latitude_small box e box.y1 p short a
          ]
        ]
      ]
    ]

first_small : (box : Box) (edges : List Segment) (p : Place) → AreShort edges → first_point box edges ≡ Some p → IsSmall p
first_small box [] p short h = cc
first_small box (e ∷ rest) p (short, later) h =
    elim (or_some (edge_point box e) (first_point box rest) p h) [
      | inl here ↦ edge_small box e p short here
      | inr there ↦ first_small box rest p later there
    ]

named_small : (box : Box) (polygons : List Polygon) (p : Place) → AreShort (flat_map polygon_edges polygons) → named box polygons ≡ Some p → IsSmall p
named_small box polygons p short h =
    elim (or_some (first_point box (flat_map polygon_edges polygons)) (cond (is_in_district (corner box) polygons) (Some (corner box)) None) p h) [
      | inl border ↦ first_small box (flat_map polygon_edges polygons) p short border
      | inr inside ↦ subst IsSmall (some_is (is_in_district (corner box) polygons) (corner box) p inside).1 (record { short = omega (arith, ints) })
    ]

-- ---- a place of a box

-- the ends of a box are within the limits of boxes
pub record IsNear (box : Box) : Type 0 where
  pub x0 : IsWithin (pos 47_000_000_000) box.x0
  pub x1 : IsWithin (pos 47_000_000_000) box.x1
  pub y0 : IsWithin (pos 47_000_000_000) box.y0
  pub y1 : IsWithin (pos 47_000_000_000) box.y1

between_ends : (low high d a : ℤ) → pos 0 <ℤ d → d ≤ℤ pos (2 ^ 30) → IsWithin (pos 47_000_000_000) low → IsWithin (pos 47_000_000_000) high
    → (low *ℤ d) ≤ℤ a → a ≤ℤ (high *ℤ d) → IsWithin (pos (2 ^ 70)) a
between_ends low high d a positive short l h from to =
    let w : IsWithin (pos (2 ^ 30)) d = record { low = omega (arith, ints); high = short } in
    let p = mul_within (pos 47_000_000_000) (pos (2 ^ 30)) low d l w in
    let q = mul_within (pos 47_000_000_000) (pos (2 ^ 30)) high d h w in
    record { low = omega (arith, ints, p.low); high = omega (arith, ints, q.high) }

pub named_is_point : (box : Box) (polygons : List Polygon) (p : Place) → first_fault polygons ≡ None → IsNear box → named box polygons ≡ Some p → IsIn box p → IsPoint p
named_is_point box polygons p faultless near h inside =
    let small = named_small box polygons p (district_short polygons (all_short polygons (sound polygons faultless))) h in
    record {
      positive = omega (arith, ints, inside.positive);
      short = small.short;
      a_within = between_ends box.x0 box.x1 p.d p.a inside.positive small.short near.x0 near.x1 inside.west inside.east;
      b_within = between_ends box.y0 box.y1 p.d p.b inside.positive small.short near.y0 near.y1 inside.south inside.north;
    }
