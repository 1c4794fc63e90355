-- An edge that names no point for a box is apart from it: it lies beyond one of the box's sides, or
-- the whole box lies strictly on one side of its line.
use Rattle.std.proofs.Common.{◌≡◌, true, false, None, arith, refl}
use Rattle.std.proofs.Math.IntN.{ℤ, pos, ◌+ℤ◌, ◌-ℤ◌, ◌*ℤ◌, neg_ℤ}
use Rattle.std.specs.Prelude.{◌≤ℤ◌, ◌<ℤ◌, int_lt}
use Rattle.std.specs.Ordering.{int_eq}
use Rattle.std.proofs.lemmas.Int.{ints, by_lt_z}
use Rattle.plane_edges.specs.Plane.{Place, Segment, Box, IsIn, orientation, encloses}
use Rattle.plane_edges.specs.EdgePoints.{progress, passing, at_start, at_longitude, at_latitude, edge_point}
use Rattle.plane_edges.proofs.Truth.{and_true, or_left, or_right, some_when, map_none, or_none_left, or_none_right, le_true}
use Rattle.plane_edges.proofs.Products.{expand, mul_nonneg, mul_pos, factor_pos}

pub data Apart (box : Box) (e : Segment) : Type 0 where
  beyond_west : e.xa <ℤ box.x0 → e.xb <ℤ box.x0 → Apart box e
  beyond_east : box.x1 <ℤ e.xa → box.x1 <ℤ e.xb → Apart box e
  beyond_south : e.ya <ℤ box.y0 → e.yb <ℤ box.y0 → Apart box e
  beyond_north : box.y1 <ℤ e.ya → box.y1 <ℤ e.yb → Apart box e
  box_left : ((p : Place) → IsIn box p → pos 0 <ℤ orientation e p) → Apart box e
  box_right : ((p : Place) → IsIn box p → orientation e p <ℤ pos 0) → Apart box e

-- ---- where an edge does not pass z from low to high, on its way up from u to v

pub record Misses (u v s t z low high : ℤ) : Type 0 where
  pub no : u <ℤ v → u ≤ℤ z → z ≤ℤ v
      → (low *ℤ (v -ℤ u)) ≤ℤ (s *ℤ (v -ℤ u) +ℤ (z -ℤ u) *ℤ (t -ℤ s))
      → (s *ℤ (v -ℤ u) +ℤ (z -ℤ u) *ℤ (t -ℤ s)) ≤ℤ (high *ℤ (v -ℤ u)) → ⊥

passes : (u v s t z low high : ℤ) → int_eq u v ≡ false → encloses u v z ≡ true
    → (low *ℤ progress u v v) ≤ℤ (s *ℤ progress u v v +ℤ progress u v z *ℤ (t -ℤ s))
    → (s *ℤ progress u v v +ℤ progress u v z *ℤ (t -ℤ s)) ≤ℤ (high *ℤ progress u v v)
    → passing u v s t z low high ≡ None → ⊥
passes u v s t z low high apart within least most none =
    some_when _ _
    (and_true _ _ (rw apart refl)
    (and_true _ _ within (and_true _ _ (le_true _ _ least) (le_true _ _ most))))
    none

passing_misses : (u v s t z low high : ℤ) → passing u v s t z low high ≡ None → Misses u v s t z low high
passing_misses u v s t z low high none = record {
  no = λ less from to least most.
      let up : int_lt u v ≡ true = grind (arith, ints) in
      passes u v s t z low high (grind (arith, ints))
      (or_left _ _ (and_true _ _ (le_true _ _ from) (le_true _ _ to)))
      (rw up least) (rw up most) none;
}

-- the same edge in the other direction
passing_turned : (u v s t z low high : ℤ) → passing u v s t z low high ≡ None
    → Misses (neg_ℤ u) (neg_ℤ v) s t (neg_ℤ z) low high
passing_turned u v s t z low high none = record {
  no = λ less from to least most.
      let down : int_lt u v ≡ false = grind (arith, ints) in
      let whole : neg_ℤ v -ℤ neg_ℤ u ≡ u -ℤ v = omega (arith, ints) in
      let part : neg_ℤ z -ℤ neg_ℤ u ≡ u -ℤ z = omega (arith, ints) in
      passes u v s t z low high (grind (arith, ints))
      (or_right _ _ (and_true _ _ (le_true v z (omega (arith, ints))) (le_true z u (omega (arith, ints)))))
      (rw down (rw (whole, part) at least)) (rw down (rw (whole, part) at most)) none;
}

-- the other coordinate with its sign turned
misses_turned : (u v s t z low high : ℤ) → Misses u v s t z low high
    → Misses u v (neg_ℤ s) (neg_ℤ t) z (neg_ℤ high) (neg_ℤ low)
misses_turned u v s t z low high m = record {
  no = λ less from to least most.
      let l = simp expand at least in
      let h = simp expand at most in
      m.no less from to (simp expand (omega (arith, ints))) (simp expand (omega (arith, ints)));
}

-- ---- an edge that rises to the north-east

-- Where it passes the side z within the box's far end, it passes beyond the near end too.
passes_beyond : (u v s t z low high : ℤ) → Misses u v s t z low high → u <ℤ v → u ≤ℤ z → z ≤ℤ v
    → pos 0 ≤ℤ ((v -ℤ u) *ℤ (high -ℤ s) -ℤ (t -ℤ s) *ℤ (z -ℤ u))
    → pos 0 <ℤ ((v -ℤ u) *ℤ (low -ℤ s) -ℤ (t -ℤ s) *ℤ (z -ℤ u))
passes_beyond u v s t z low high m less from to h =
    by_lt_z (s *ℤ (v -ℤ u) +ℤ (z -ℤ u) *ℤ (t -ℤ s)) (low *ℤ (v -ℤ u))
    (λ below. let b = simp expand at below in simp expand (omega (arith, ints)))
    (λ least.
    let g = simp expand at h in
    absurd (m.no less from to least (simp expand (omega (arith, ints)))))

-- An edge whose line meets the box, and which starts west of it and reaches it, passes the west
-- side or the south side within the box.
no_start_west : (xa xb ya yb x0 x1 y0 y1 : ℤ) → ya ≤ℤ yb → x0 ≤ℤ xb → y0 ≤ℤ yb
    → Misses xa xb ya yb x0 y0 y1 → Misses ya yb xa xb y0 x0 x1
    → pos 0 ≤ℤ ((xb -ℤ xa) *ℤ (y1 -ℤ ya) -ℤ (yb -ℤ ya) *ℤ (x0 -ℤ xa))
    → pos 0 ≤ℤ ((yb -ℤ ya) *ℤ (x1 -ℤ xa) -ℤ (xb -ℤ xa) *ℤ (y0 -ℤ ya))
    → xa <ℤ x0 → ⊥
no_start_west xa xb ya yb x0 x1 y0 y1 up reaches rises west south most least before =
    let c = passes_beyond xa xb ya yb x0 y0 y1 west (omega (arith, ints)) (omega (arith, ints)) reaches most in
    let f = mul_nonneg (yb -ℤ ya) (x0 -ℤ xa) (omega (arith, ints)) (omega (arith, ints)) in
    let g : pos 0 <ℤ ((xb -ℤ xa) *ℤ (y0 -ℤ ya)) = omega (arith, ints) in
    let h = factor_pos (xb -ℤ xa) (y0 -ℤ ya) (omega (arith, ints)) g in
    let k = passes_beyond ya yb xa xb y0 x0 x1 south (omega (arith, ints)) (omega (arith, ints)) rises least in
    omega (arith, ints)

-- `side` at a place, from its least and its greatest value at the box's corners
side_from_least : (dx dy xa ya x1 y0 a b d : ℤ) →
    dx *ℤ (b -ℤ ya *ℤ d) -ℤ dy *ℤ (a -ℤ xa *ℤ d)
    ≡ dx *ℤ (b -ℤ y0 *ℤ d) +ℤ dy *ℤ (x1 *ℤ d -ℤ a) +ℤ (dx *ℤ (y0 -ℤ ya) -ℤ dy *ℤ (x1 -ℤ xa)) *ℤ d
side_from_least dx dy xa ya x1 y0 a b d = simp expand (omega (arith, ints))

side_from_most : (dx dy xa ya x0 y1 a b d : ℤ) →
    dx *ℤ (b -ℤ ya *ℤ d) -ℤ dy *ℤ (a -ℤ xa *ℤ d)
    ≡ neg_ℤ (dx *ℤ (y1 *ℤ d -ℤ b) +ℤ dy *ℤ (a -ℤ x0 *ℤ d) +ℤ neg_ℤ (dx *ℤ (y1 -ℤ ya) -ℤ dy *ℤ (x0 -ℤ xa)) *ℤ d)
side_from_most dx dy xa ya x0 y1 a b d = simp expand (omega (arith, ints))

sum_pos : (a b c : ℤ) → pos 0 ≤ℤ a → pos 0 ≤ℤ b → pos 0 <ℤ c → pos 0 <ℤ (a +ℤ b +ℤ c)
sum_pos a b c p q r = omega (arith, ints)

neg_of_pos : (a : ℤ) → pos 0 <ℤ a → neg_ℤ a <ℤ pos 0
neg_of_pos a p = omega (arith, ints)

rising_left : (box : Box) (e : Segment) → e.xa ≤ℤ e.xb → e.ya ≤ℤ e.yb
    → pos 0 <ℤ ((e.xb -ℤ e.xa) *ℤ (box.y0 -ℤ e.ya) -ℤ (e.yb -ℤ e.ya) *ℤ (box.x1 -ℤ e.xa))
    → (p : Place) → IsIn box p → pos 0 <ℤ orientation e p
rising_left box e across up least p i =
    let f = mul_nonneg (e.xb -ℤ e.xa) (p.b -ℤ box.y0 *ℤ p.d) (omega (arith, ints)) (omega (arith, ints, i.south)) in
    let g = mul_nonneg (e.yb -ℤ e.ya) (box.x1 *ℤ p.d -ℤ p.a) (omega (arith, ints)) (omega (arith, ints, i.east)) in
    let h = mul_pos ((e.xb -ℤ e.xa) *ℤ (box.y0 -ℤ e.ya) -ℤ (e.yb -ℤ e.ya) *ℤ (box.x1 -ℤ e.xa)) p.d least i.positive in
    rw (side_from_least (e.xb -ℤ e.xa) (e.yb -ℤ e.ya) e.xa e.ya box.x1 box.y0 p.a p.b p.d)
    (sum_pos _ _ _ f g h)

rising_right : (box : Box) (e : Segment) → e.xa ≤ℤ e.xb → e.ya ≤ℤ e.yb
    → ((e.xb -ℤ e.xa) *ℤ (box.y1 -ℤ e.ya) -ℤ (e.yb -ℤ e.ya) *ℤ (box.x0 -ℤ e.xa)) <ℤ pos 0
    → (p : Place) → IsIn box p → orientation e p <ℤ pos 0
rising_right box e across up most p i =
    let f = mul_nonneg (e.xb -ℤ e.xa) (box.y1 *ℤ p.d -ℤ p.b) (omega (arith, ints)) (omega (arith, ints, i.north)) in
    let g = mul_nonneg (e.yb -ℤ e.ya) (p.a -ℤ box.x0 *ℤ p.d) (omega (arith, ints)) (omega (arith, ints, i.west)) in
    let h = mul_pos (neg_ℤ ((e.xb -ℤ e.xa) *ℤ (box.y1 -ℤ e.ya) -ℤ (e.yb -ℤ e.ya) *ℤ (box.x0 -ℤ e.xa))) p.d (omega (arith, ints)) i.positive in
    rw (side_from_most (e.xb -ℤ e.xa) (e.yb -ℤ e.ya) e.xa e.ya box.x0 box.y1 p.a p.b p.d)
    (neg_of_pos _ (sum_pos _ _ _ f g h))

-- the start is not in the box
abbrev pub StartsOutside : Box → Segment → Type 0
StartsOutside box e = box.x0 ≤ℤ e.xa → e.xa ≤ℤ box.x1 → box.y0 ≤ℤ e.ya → e.ya ≤ℤ box.y1 → ⊥

rising : (box : Box) (e : Segment) → e.xa ≤ℤ e.xb → e.ya ≤ℤ e.yb → StartsOutside box e
    → Misses e.xa e.xb e.ya e.yb box.x0 box.y0 box.y1
    → Misses e.ya e.yb e.xa e.xb box.y0 box.x0 box.x1
    → Apart box e
rising box e across up outside no_west no_south =
    by_lt_z e.xb box.x0 (λ h. beyond_west (omega (arith, ints)) h) (λ reaches.
    by_lt_z e.yb box.y0 (λ h. beyond_south (omega (arith, ints)) h) (λ rises.
    by_lt_z box.x1 e.xa (λ h. beyond_east h (omega (arith, ints))) (λ in_east.
    by_lt_z box.y1 e.ya (λ h. beyond_north h (omega (arith, ints))) (λ in_north.
    by_lt_z (pos 0) ((e.xb -ℤ e.xa) *ℤ (box.y0 -ℤ e.ya) -ℤ (e.yb -ℤ e.ya) *ℤ (box.x1 -ℤ e.xa))
    (λ h. box_left (rising_left box e across up h)) (λ least.
    by_lt_z ((e.xb -ℤ e.xa) *ℤ (box.y1 -ℤ e.ya) -ℤ (e.yb -ℤ e.ya) *ℤ (box.x0 -ℤ e.xa)) (pos 0)
    (λ h. box_right (rising_right box e across up h)) (λ most.
    let least' : pos 0 ≤ℤ ((e.yb -ℤ e.ya) *ℤ (box.x1 -ℤ e.xa) -ℤ (e.xb -ℤ e.xa) *ℤ (box.y0 -ℤ e.ya)) = omega (arith, ints, least) in
    by_lt_z e.xa box.x0
    (λ h. absurd (no_start_west e.xa e.xb e.ya e.yb box.x0 box.x1 box.y0 box.y1 up reaches rises no_west no_south most least' h))
    (λ in_west. by_lt_z e.ya box.y0
    (λ h. absurd (no_start_west e.ya e.yb e.xa e.xb box.y0 box.y1 box.x0 box.x1 across rises reaches no_south no_west least' most h))
    (λ in_south. absurd (outside in_west in_east in_south in_north)))))))))

-- ---- the other directions, by turning an axis

side_turned_x : (e : Segment) (p : Place) →
    orientation (record e { xa = neg_ℤ e.xa; xb = neg_ℤ e.xb }) (record p { a = neg_ℤ p.a }) ≡ neg_ℤ (orientation e p)
side_turned_x e p = simp expand (omega (arith, ints))

side_turned_y : (e : Segment) (p : Place) →
    orientation (record e { ya = neg_ℤ e.ya; yb = neg_ℤ e.yb }) (record p { b = neg_ℤ p.b }) ≡ neg_ℤ (orientation e p)
side_turned_y e p = simp expand (omega (arith, ints))

turned_le : (x y d : ℤ) → (x *ℤ d) ≤ℤ y → neg_ℤ y ≤ℤ (neg_ℤ x *ℤ d)
turned_le x y d h = simp expand (omega (arith, ints))

le_turned : (x y d : ℤ) → y ≤ℤ (x *ℤ d) → (neg_ℤ x *ℤ d) ≤ℤ neg_ℤ y
le_turned x y d h = simp expand (omega (arith, ints))

abbrev box_turned_x : Box → Box
box_turned_x box = record box { x0 = neg_ℤ box.x1; x1 = neg_ℤ box.x0 }

abbrev box_turned_y : Box → Box
box_turned_y box = record box { y0 = neg_ℤ box.y1; y1 = neg_ℤ box.y0 }

abbrev edge_turned_x : Segment → Segment
edge_turned_x e = record e { xa = neg_ℤ e.xa; xb = neg_ℤ e.xb }

abbrev edge_turned_y : Segment → Segment
edge_turned_y e = record e { ya = neg_ℤ e.ya; yb = neg_ℤ e.yb }

in_turned_x : (box : Box) (p : Place) → IsIn box p → IsIn (box_turned_x box) (record p { a = neg_ℤ p.a })
in_turned_x box p i = record {
  positive = i.positive;
  west = le_turned box.x1 p.a p.d i.east;
  east = turned_le box.x0 p.a p.d i.west;
  south = i.south;
  north = i.north;
}

in_turned_y : (box : Box) (p : Place) → IsIn box p → IsIn (box_turned_y box) (record p { b = neg_ℤ p.b })
in_turned_y box p i = record {
  positive = i.positive;
  west = i.west;
  east = i.east;
  south = le_turned box.y1 p.b p.d i.north;
  north = turned_le box.y0 p.b p.d i.south;
}

was_neg : (a b : ℤ) → a ≡ neg_ℤ b → a <ℤ pos 0 → pos 0 <ℤ b
was_neg a b e h = omega (arith, ints)

was_pos : (a b : ℤ) → a ≡ neg_ℤ b → pos 0 <ℤ a → b <ℤ pos 0
was_pos a b e h = omega (arith, ints)

turn_x : (box : Box) (e : Segment) → Apart (box_turned_x box) (edge_turned_x e) → Apart box e
turn_x box e (beyond_west h k) = beyond_east (omega (arith, ints, h)) (omega (arith, ints, k))
turn_x box e (beyond_east h k) = beyond_west (omega (arith, ints, h)) (omega (arith, ints, k))
turn_x box e (beyond_south h k) = beyond_south h k
turn_x box e (beyond_north h k) = beyond_north h k
turn_x box e (box_left f) = box_right (λ p i. was_pos _ _ (side_turned_x e p) (f _ (in_turned_x box p i)))
turn_x box e (box_right f) = box_left (λ p i. was_neg _ _ (side_turned_x e p) (f _ (in_turned_x box p i)))

turn_y : (box : Box) (e : Segment) → Apart (box_turned_y box) (edge_turned_y e) → Apart box e
turn_y box e (beyond_west h k) = beyond_west h k
turn_y box e (beyond_east h k) = beyond_east h k
turn_y box e (beyond_south h k) = beyond_north (omega (arith, ints, h)) (omega (arith, ints, k))
turn_y box e (beyond_north h k) = beyond_south (omega (arith, ints, h)) (omega (arith, ints, k))
turn_y box e (box_left f) = box_right (λ p i. was_pos _ _ (side_turned_y e p) (f _ (in_turned_y box p i)))
turn_y box e (box_right f) = box_left (λ p i. was_neg _ _ (side_turned_y e p) (f _ (in_turned_y box p i)))

-- ---- all directions

starts_outside : (box : Box) (e : Segment) → at_start box e ≡ None → StartsOutside box e
starts_outside box e none w x s n =
    some_when _ _
    (and_true _ _ (le_true _ _ w) (and_true _ _ (le_true _ _ x) (and_true _ _ (le_true _ _ s) (le_true _ _ n))))
    none

-- by the directions in which the edge goes
by_direction : (box : Box) (e : Segment) → StartsOutside box e
    → passing e.xa e.xb e.ya e.yb box.x0 box.y0 box.y1 ≡ None
    → passing e.xa e.xb e.ya e.yb box.x1 box.y0 box.y1 ≡ None
    → passing e.ya e.yb e.xa e.xb box.y0 box.x0 box.x1 ≡ None
    → passing e.ya e.yb e.xa e.xb box.y1 box.x0 box.x1 ≡ None
    → Apart box e
by_direction box e outside x0 x1 y0 y1 =
    by_lt_z e.xb e.xa
    (λ to_west. by_lt_z e.yb e.ya
    (λ to_south. turn_x box e (turn_y (box_turned_x box) (edge_turned_x e)
    (rising _ _ (omega (arith, ints)) (omega (arith, ints))
    (λ w x s n. outside (omega (arith, ints)) (omega (arith, ints)) (omega (arith, ints)) (omega (arith, ints)))
    (misses_turned _ _ _ _ _ _ _ (passing_turned _ _ _ _ _ _ _ x1))
    (misses_turned _ _ _ _ _ _ _ (passing_turned _ _ _ _ _ _ _ y1)))))
    (λ to_north. turn_x box e
    (rising _ _ (omega (arith, ints)) to_north
    (λ w x s n. outside (omega (arith, ints)) (omega (arith, ints)) s n)
    (passing_turned _ _ _ _ _ _ _ x1)
    (misses_turned _ _ _ _ _ _ _ (passing_misses _ _ _ _ _ _ _ y0)))))
    (λ to_east. by_lt_z e.yb e.ya
    (λ to_south. turn_y box e
    (rising _ _ to_east (omega (arith, ints))
    (λ w x s n. outside w x (omega (arith, ints)) (omega (arith, ints)))
    (misses_turned _ _ _ _ _ _ _ (passing_misses _ _ _ _ _ _ _ x0))
    (passing_turned _ _ _ _ _ _ _ y1)))
    (λ to_north. rising box e to_east to_north outside
    (passing_misses _ _ _ _ _ _ _ x0) (passing_misses _ _ _ _ _ _ _ y0)))

pub apart : (box : Box) (e : Segment) → edge_point box e ≡ None → Apart box e
apart box e none =
    let outside = starts_outside box e (or_none_left _ _ none) in
    let sides = or_none_right (at_start box e) _ none in
    let at_x0 = map_none _ _ (or_none_left (at_longitude box e box.x0) _ sides) in
    let after_x0 = or_none_right (at_longitude box e box.x0) _ sides in
    let at_x1 = map_none _ _ (or_none_left (at_longitude box e box.x1) _ after_x0) in
    let after_x1 = or_none_right (at_longitude box e box.x1) _ after_x0 in
    let at_y0 = map_none _ _ (or_none_left (at_latitude box e box.y0) _ after_x1) in
    let at_y1 = map_none _ _ (or_none_right (at_latitude box e box.y0) _ after_x1) in
    by_direction box e outside at_x0 at_x1 at_y0 at_y1
