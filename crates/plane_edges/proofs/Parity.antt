-- A ray from a place of the box and one from the box's corner cross an edge that is apart from the
-- box alike, but for the edge's ends that lie between their latitudes, east of the corner.
use Rattle.std.proofs.Common.{◌≡◌, Bool, true, false, not, ◌&&◌, cond, arith, refl, sym, ◌∙◌}
use Rattle.std.proofs.Math.IntN.{ℤ, pos, ◌+ℤ◌, ◌-ℤ◌, ◌*ℤ◌, neg_ℤ, *ℤ_comm}
use Rattle.std.specs.Prelude.{◌≤ℤ◌, ◌<ℤ◌, int_lt}
use Rattle.std.proofs.lemmas.Int.{ints, by_lt_z}
use Rattle.plane_edges.specs.Plane.{Place, Segment, Box, IsIn, IsOrdered, orientation, is_above, crosses, xor}
use Rattle.plane_edges.specs.EdgePoints.{corner}
use Rattle.plane_edges.proofs.Products.{expand, mul_nonneg, factor_pos, negative_factor, times_mono, times_strict, less_of_times, order_of_times}
use Rattle.plane_edges.proofs.Truth.{implies, same, by_implies, to_implies, by_same, by_table, and_true, and_left, and_right, and_same, not_false, xor_comm, lt_true, lt_false, is_lt, is_ge, le_of_lt}
use Rattle.plane_edges.proofs.Apart.{Apart, beyond_west, beyond_east, beyond_south, beyond_north, box_left, box_right}

-- an end of an edge between the latitudes of the corner and of the place, east of the corner
abbrev pub passed : Box → Place → ℤ → ℤ → Bool
passed box p x y = int_lt box.x0 x && (is_above (corner box) y && not (is_above p y))

-- ---- an edge wholly to the west or to the east of a place

-- `side`, times d
times_side : (xa ya xb yb u v d : ℤ) → d *ℤ ((xb -ℤ xa) *ℤ u -ℤ (yb -ℤ ya) *ℤ v)
    ≡ (d *ℤ xb -ℤ d *ℤ xa) *ℤ u -ℤ (d *ℤ yb -ℤ d *ℤ ya) *ℤ v
times_side xa ya xb yb u v d = simp expand (omega (arith, ints))

-- a cross product, by the ends of the edge
by_ends : (xa ya xb yb a b : ℤ) →
    (xb -ℤ xa) *ℤ (b -ℤ ya) -ℤ (yb -ℤ ya) *ℤ (a -ℤ xa) ≡ (xb -ℤ a) *ℤ (b -ℤ ya) +ℤ (xa -ℤ a) *ℤ (yb -ℤ b)
by_ends xa ya xb yb a b = simp expand (omega (arith, ints))

scaled_side : (e : Segment) (p : Place) → p.d *ℤ orientation e p
    ≡ (e.xb *ℤ p.d -ℤ p.a) *ℤ (p.b -ℤ e.ya *ℤ p.d) +ℤ (e.xa *ℤ p.d -ℤ p.a) *ℤ (e.yb *ℤ p.d -ℤ p.b)
scaled_side e p =
    times_side e.xa e.ya e.xb e.yb (p.b -ℤ e.ya *ℤ p.d) (p.a -ℤ e.xa *ℤ p.d) p.d
    ∙ rw (*ℤ_comm p.d e.xb, *ℤ_comm p.d e.xa, *ℤ_comm p.d e.yb, *ℤ_comm p.d e.ya)
    (by_ends (e.xa *ℤ p.d) (e.ya *ℤ p.d) (e.xb *ℤ p.d) (e.yb *ℤ p.d) p.a p.b)

positive_side : (e : Segment) (p : Place) → pos 0 <ℤ p.d
    → pos 0 <ℤ ((e.xb *ℤ p.d -ℤ p.a) *ℤ (p.b -ℤ e.ya *ℤ p.d) +ℤ (e.xa *ℤ p.d -ℤ p.a) *ℤ (e.yb *ℤ p.d -ℤ p.b))
    → pos 0 <ℤ orientation e p
positive_side e p d h =
    let k = rw (← scaled_side e p) at h in
    factor_pos p.d (orientation e p) (omega (arith, ints)) k

negative_side : (e : Segment) (p : Place) → pos 0 <ℤ p.d
    → ((e.xb *ℤ p.d -ℤ p.a) *ℤ (p.b -ℤ e.ya *ℤ p.d) +ℤ (e.xa *ℤ p.d -ℤ p.a) *ℤ (e.yb *ℤ p.d -ℤ p.b)) <ℤ pos 0
    → orientation e p <ℤ pos 0
negative_side e p d h =
    let k = rw (← scaled_side e p) at h in
    negative_factor p.d (orientation e p) d k

-- the sign of such a sum where both ends are on one side of the place
mixed_pos : (u v s t : ℤ) → pos 0 <ℤ u → pos 0 <ℤ v → pos 0 ≤ℤ s → pos 0 ≤ℤ t → pos 0 <ℤ (s +ℤ t)
    → pos 0 <ℤ (u *ℤ s +ℤ v *ℤ t)
mixed_pos u v s t p q h k some =
    let f = mul_nonneg (u -ℤ pos 1) s (omega (arith, ints)) h in
    let g = mul_nonneg (v -ℤ pos 1) t (omega (arith, ints)) k in
    let a : (u -ℤ pos 1) *ℤ s ≡ u *ℤ s -ℤ s = simp expand (omega (arith, ints)) in
    let b : (v -ℤ pos 1) *ℤ t ≡ v *ℤ t -ℤ t = simp expand (omega (arith, ints)) in
    omega (arith, ints)

mixed_neg : (u v s t : ℤ) → pos 0 <ℤ u → pos 0 <ℤ v → s ≤ℤ pos 0 → t ≤ℤ pos 0 → (s +ℤ t) <ℤ pos 0
    → (u *ℤ s +ℤ v *ℤ t) <ℤ pos 0
mixed_neg u v s t p q h k some =
    let f = mixed_pos u v (neg_ℤ s) (neg_ℤ t) p q (omega (arith, ints)) (omega (arith, ints)) (omega (arith, ints)) in
    let g = simp expand at f in
    omega (arith, ints)

turned_neg : (u v s t : ℤ) → u <ℤ pos 0 → v <ℤ pos 0 → pos 0 ≤ℤ s → pos 0 ≤ℤ t → pos 0 <ℤ (s +ℤ t)
    → (u *ℤ s +ℤ v *ℤ t) <ℤ pos 0
turned_neg u v s t p q h k some =
    let f = mixed_pos (neg_ℤ u) (neg_ℤ v) s t (omega (arith, ints)) (omega (arith, ints)) h k some in
    let g = simp expand at f in
    omega (arith, ints)

turned_pos : (u v s t : ℤ) → u <ℤ pos 0 → v <ℤ pos 0 → s ≤ℤ pos 0 → t ≤ℤ pos 0 → (s +ℤ t) <ℤ pos 0
    → pos 0 <ℤ (u *ℤ s +ℤ v *ℤ t)
turned_pos u v s t p q h k some =
    let f = mixed_neg (neg_ℤ u) (neg_ℤ v) s t (omega (arith, ints)) (omega (arith, ints)) h k some in
    let g = simp expand at f in
    omega (arith, ints)

-- the edge rises past a place, or falls past it
abbrev Rises : Place → Segment → Type 0
Rises p e = ((e.ya *ℤ p.d) ≤ℤ p.b) × (p.b <ℤ (e.yb *ℤ p.d))

abbrev Falls : Place → Segment → Type 0
Falls p e = ((e.yb *ℤ p.d) ≤ℤ p.b) × (p.b <ℤ (e.ya *ℤ p.d))

rises_east : (e : Segment) (p : Place) → pos 0 <ℤ p.d → p.a <ℤ (e.xa *ℤ p.d) → p.a <ℤ (e.xb *ℤ p.d)
    → Rises p e → pos 0 <ℤ orientation e p
rises_east e p d h k (from, to) =
    positive_side e p d
    (mixed_pos (e.xb *ℤ p.d -ℤ p.a) (e.xa *ℤ p.d -ℤ p.a) (p.b -ℤ e.ya *ℤ p.d) (e.yb *ℤ p.d -ℤ p.b)
    (omega (arith, ints)) (omega (arith, ints)) (omega (arith, ints)) (omega (arith, ints)) (omega (arith, ints)))

falls_east : (e : Segment) (p : Place) → pos 0 <ℤ p.d → p.a <ℤ (e.xa *ℤ p.d) → p.a <ℤ (e.xb *ℤ p.d)
    → Falls p e → orientation e p <ℤ pos 0
falls_east e p d h k (to, from) =
    negative_side e p d
    (mixed_neg (e.xb *ℤ p.d -ℤ p.a) (e.xa *ℤ p.d -ℤ p.a) (p.b -ℤ e.ya *ℤ p.d) (e.yb *ℤ p.d -ℤ p.b)
    (omega (arith, ints)) (omega (arith, ints)) (omega (arith, ints)) (omega (arith, ints)) (omega (arith, ints)))

rises_west : (e : Segment) (p : Place) → pos 0 <ℤ p.d → (e.xa *ℤ p.d) <ℤ p.a → (e.xb *ℤ p.d) <ℤ p.a
    → Rises p e → orientation e p <ℤ pos 0
rises_west e p d h k (from, to) =
    negative_side e p d
    (turned_neg (e.xb *ℤ p.d -ℤ p.a) (e.xa *ℤ p.d -ℤ p.a) (p.b -ℤ e.ya *ℤ p.d) (e.yb *ℤ p.d -ℤ p.b)
    (omega (arith, ints)) (omega (arith, ints)) (omega (arith, ints)) (omega (arith, ints)) (omega (arith, ints)))

falls_west : (e : Segment) (p : Place) → pos 0 <ℤ p.d → (e.xa *ℤ p.d) <ℤ p.a → (e.xb *ℤ p.d) <ℤ p.a
    → Falls p e → pos 0 <ℤ orientation e p
falls_west e p d h k (to, from) =
    positive_side e p d
    (turned_pos (e.xb *ℤ p.d -ℤ p.a) (e.xa *ℤ p.d -ℤ p.a) (p.b -ℤ e.ya *ℤ p.d) (e.yb *ℤ p.d -ℤ p.b)
    (omega (arith, ints)) (omega (arith, ints)) (omega (arith, ints)) (omega (arith, ints)) (omega (arith, ints)))

-- `crosses`, by its four tests: the start or the end is above, the place is on the left or the right
none_cross : (from to left right : Bool) → (from ≡ false → to ≡ true → left ≡ false)
    → (from ≡ true → to ≡ false → right ≡ false) → cond to (not from && left) (from && right) ≡ false
none_cross true true left right f g = refl
none_cross false true left right f g = f refl refl
none_cross true false left right f g = g refl refl
none_cross false false left right f g = refl

all_cross : (from to left right : Bool) → (from ≡ false → to ≡ true → left ≡ true)
    → (from ≡ true → to ≡ false → right ≡ true) → cond to (not from && left) (from && right) ≡ xor from to
all_cross true true left right f g = refl
all_cross false true left right f g = f refl refl
all_cross true false left right f g = g refl refl
all_cross false false left right f g = refl

pub no_cross_west : (e : Segment) (p : Place) → pos 0 <ℤ p.d → (e.xa *ℤ p.d) <ℤ p.a → (e.xb *ℤ p.d) <ℤ p.a
    → crosses p e ≡ false
no_cross_west e p d h k =
    none_cross _ _ _ _
    (λ from to. lt_false _ _ (le_of_lt _ _ (rises_west e p d h k (is_ge _ _ from, is_lt _ _ to))))
    (λ from to. lt_false _ _ (le_of_lt _ _ (falls_west e p d h k (is_ge _ _ to, is_lt _ _ from))))

pub cross_east : (e : Segment) (p : Place) → pos 0 <ℤ p.d → p.a <ℤ (e.xa *ℤ p.d) → p.a <ℤ (e.xb *ℤ p.d)
    → crosses p e ≡ xor (is_above p e.ya) (is_above p e.yb)
cross_east e p d h k =
    all_cross _ _ _ _
    (λ from to. lt_true _ _ (rises_east e p d h k (is_ge _ _ from, is_lt _ _ to)))
    (λ from to. lt_true _ _ (falls_east e p d h k (is_ge _ _ to, is_lt _ _ from)))

-- ---- an edge with the whole box on one side of its line

left_crosses : (e : Segment) (p : Place) → pos 0 <ℤ orientation e p → crosses p e ≡ (is_above p e.yb && not (is_above p e.ya))
left_crosses e p h = rows _ _ _ _ (lt_true _ _ h) (lt_false _ _ (le_of_lt _ _ h))
  where
    rows : (from to left right : Bool) → left ≡ true → right ≡ false
        → cond to (not from && left) (from && right) ≡ (to && not from)
    rows true true left right f g = refl
    rows false true left right f g = f
    rows true false left right f g = g
    rows false false left right f g = refl

right_crosses : (e : Segment) (p : Place) → orientation e p <ℤ pos 0 → crosses p e ≡ (is_above p e.ya && not (is_above p e.yb))
right_crosses e p h = rows _ _ _ _ (lt_false _ _ (le_of_lt _ _ h)) (lt_true _ _ h)
  where
    rows : (from to left right : Bool) → left ≡ false → right ≡ true
        → cond to (not from && left) (from && right) ≡ (from && not to)
    rows true true left right f g = refl
    rows false true left right f g = f
    rows true false left right f g = g
    rows false false left right f g = refl

-- the place on the box's west side at latitude y
abbrev west_at : Box → ℤ → Place
west_at box y = record { a = box.x0; b = y; d = pos 1 }

pub corner_in : (box : Box) (p : Place) → IsIn box p → IsIn box (corner box)
corner_in box p i =
    let x = order_of_times box.x0 box.x1 p.d i.positive (omega (arith, ints, i.west, i.east)) in
    let y = order_of_times box.y0 box.y1 p.d i.positive (omega (arith, ints, i.south, i.north)) in
    record {
      positive = omega (arith, ints);
      west = omega (arith, ints);
      east = omega (arith, ints);
      south = omega (arith, ints);
      north = omega (arith, ints);
    }

pub corner_ordered : (box : Box) → IsOrdered box → IsIn box (corner box)
corner_ordered box o = record {
  positive = omega (arith, ints);
  west = omega (arith, ints);
  east = omega (arith, ints, o.x_ordered);
  south = omega (arith, ints);
  north = omega (arith, ints, o.y_ordered);
}

-- a latitude above the corner's and not above the place's is in the box
between_in : (box : Box) (p : Place) (y : ℤ) → IsIn box p
    → (is_above (corner box) y && not (is_above p y)) ≡ true → IsIn box (west_at box y)
between_in box p y i h =
    let c = corner_in box p i in
    let low = is_lt box.y0 (y *ℤ pos 1) (and_left (is_above (corner box) y) (not (is_above p y)) h) in
    let high = is_ge p.b (y *ℤ p.d) (not_false (is_above p y) (and_right (is_above (corner box) y) (not (is_above p y)) h)) in
    let y1 = order_of_times y box.y1 p.d i.positive (omega (arith, ints, i.north)) in
    record {
      positive = omega (arith, ints);
      west = c.west;
      east = c.east;
      south = omega (arith, ints);
      north = omega (arith, ints);
    }

start_side : (e : Segment) (x : ℤ) →
    orientation e (record { a = x; b = e.ya; d = pos 1 }) ≡ (e.yb -ℤ e.ya) *ℤ (e.xa -ℤ x)
start_side e x = simp expand (omega (arith, ints))

end_side : (e : Segment) (x : ℤ) →
    orientation e (record { a = x; b = e.yb; d = pos 1 }) ≡ (e.yb -ℤ e.ya) *ℤ (e.xb -ℤ x)
end_side e x = simp expand (omega (arith, ints))

-- the signs of two factors of a product above 0 agree
same_sign : (u v x y : ℤ) → pos 0 <ℤ ((v -ℤ u) *ℤ (y -ℤ x)) → int_lt x y ≡ int_lt u v
same_sign u v x y h =
    by_lt_z u v
    (λ up.
    let f = factor_pos (v -ℤ u) (y -ℤ x) (omega (arith, ints)) h in
    lt_true x y (omega (arith, ints)) ∙ sym (lt_true u v up))
    (λ down.
    let e : (u -ℤ v) *ℤ (x -ℤ y) ≡ (v -ℤ u) *ℤ (y -ℤ x) = simp expand (omega (arith, ints)) in
    let f = factor_pos (u -ℤ v) (x -ℤ y) (omega (arith, ints)) (omega (arith, ints)) in
    lt_false x y (omega (arith, ints)) ∙ sym (lt_false u v down))

other_sign : (u v x y : ℤ) → ((v -ℤ u) *ℤ (y -ℤ x)) <ℤ pos 0 → int_lt x y ≡ int_lt v u
other_sign u v x y h =
    let e : (u -ℤ v) *ℤ (y -ℤ x) ≡ neg_ℤ ((v -ℤ u) *ℤ (y -ℤ x)) = simp expand (omega (arith, ints)) in
    same_sign v u x y (omega (arith, ints))

-- ---- one edge

abbrev pub Alike : Box → Place → Segment → Type 0
Alike box p e =
    xor (crosses p e) (crosses (corner box) e) ≡ xor (passed box p e.xa e.ya) (passed box p e.xb e.yb)

-- what is above the place is above the corner
above_corner : (box : Box) (p : Place) (y : ℤ) → IsIn box p → implies (is_above p y) (is_above (corner box) y) ≡ true
above_corner box p y i =
    to_implies (is_above p y) (is_above (corner box) y)
    (λ h.
    let f = is_lt p.b (y *ℤ p.d) h in
    let g = less_of_times box.y0 y p.d i.positive (omega (arith, ints, i.south)) in
    lt_true box.y0 (y *ℤ pos 1) (omega (arith, ints)))

-- what is above stays above farther north
above_more : (p : Place) (u v : ℤ) → pos 0 <ℤ p.d → u ≤ℤ v → implies (is_above p u) (is_above p v) ≡ true
above_more p u v d h =
    to_implies (is_above p u) (is_above p v)
    (λ k.
    let f = times_mono u v p.d (le_of_lt _ _ d) h in
    let g = is_lt p.b (u *ℤ p.d) k in
    lt_true p.b (v *ℤ p.d) (omega (arith, ints)))

alike_west : (box : Box) (p : Place) (e : Segment) → IsIn box p → e.xa <ℤ box.x0 → e.xb <ℤ box.x0 → Alike box p e
alike_west box p e i h k =
    let f = times_strict e.xa box.x0 p.d i.positive h in
    let g = times_strict e.xb box.x0 p.d i.positive k in
    let far = no_cross_west e p i.positive (omega (arith, ints, i.west)) (omega (arith, ints, i.west)) in
    let near = no_cross_west e (corner box) (omega (arith, ints)) (omega (arith, ints)) (omega (arith, ints)) in
    let from = lt_false box.x0 e.xa (le_of_lt _ _ h) in
    let to = lt_false box.x0 e.xb (le_of_lt _ _ k) in
    rw (far, near, from, to) refl

alike_east : (box : Box) (p : Place) (e : Segment) → IsIn box p → box.x1 <ℤ e.xa → box.x1 <ℤ e.xb → Alike box p e
alike_east box p e i h k =
    let f = times_strict box.x1 e.xa p.d i.positive h in
    let g = times_strict box.x1 e.xb p.d i.positive k in
    let c = corner_in box p i in
    let far = cross_east e p i.positive (omega (arith, ints, i.east)) (omega (arith, ints, i.east)) in
    let near = cross_east e (corner box) c.positive (omega (arith, ints, c.east)) (omega (arith, ints, c.east)) in
    let from = lt_true box.x0 e.xa (omega (arith, ints, c.east)) in
    let to = lt_true box.x0 e.xb (omega (arith, ints, c.east)) in
    rw (far, near, from, to)
    (by_same _ _
    (by_implies _ _
    (by_table (λ a b c d. implies (implies b a && implies d c) (same (xor (xor b d) (xor a c)) (xor (a && not b) (c && not d)))) refl
    (is_above (corner box) e.ya) (is_above p e.ya) (is_above (corner box) e.yb) (is_above p e.yb))
    (and_true _ _ (above_corner box p e.ya i) (above_corner box p e.yb i))))

alike_south : (box : Box) (p : Place) (e : Segment) → IsIn box p → e.ya <ℤ box.y0 → e.yb <ℤ box.y0 → Alike box p e
alike_south box p e i h k =
    let f = times_strict e.ya box.y0 p.d i.positive h in
    let g = times_strict e.yb box.y0 p.d i.positive k in
    let a = lt_false box.y0 (e.ya *ℤ pos 1) (omega (arith, ints)) in
    let b = lt_false p.b (e.ya *ℤ p.d) (omega (arith, ints, i.south)) in
    let c = lt_false box.y0 (e.yb *ℤ pos 1) (omega (arith, ints)) in
    let d = lt_false p.b (e.yb *ℤ p.d) (omega (arith, ints, i.south)) in
    none_passed _ _ _ _ _ _ _ _ _ _ a b c d
  where
    none_passed : (s0 s1 e0 e1 l r l' r' x x' : Bool) → s0 ≡ false → s1 ≡ false → e0 ≡ false → e1 ≡ false
        → xor (cond e1 (not s1 && l) (s1 && r)) (cond e0 (not s0 && l') (s0 && r'))
        ≡ xor (x && (s0 && not s1)) (x' && (e0 && not e1))
    none_passed s0 s1 e0 e1 l r l' r' true true a b c d = rw (a, b, c, d) refl
    none_passed s0 s1 e0 e1 l r l' r' true false a b c d = rw (a, b, c, d) refl
    none_passed s0 s1 e0 e1 l r l' r' false true a b c d = rw (a, b, c, d) refl
    none_passed s0 s1 e0 e1 l r l' r' false false a b c d = rw (a, b, c, d) refl

alike_north : (box : Box) (p : Place) (e : Segment) → IsIn box p → box.y1 <ℤ e.ya → box.y1 <ℤ e.yb → Alike box p e
alike_north box p e i h k =
    let c = corner_in box p i in
    let f = times_strict box.y1 e.ya p.d i.positive h in
    let g = times_strict box.y1 e.yb p.d i.positive k in
    let s0 = lt_true box.y0 (e.ya *ℤ pos 1) (omega (arith, ints, c.north)) in
    let s1 = lt_true p.b (e.ya *ℤ p.d) (omega (arith, ints, i.north)) in
    let e0 = lt_true box.y0 (e.yb *ℤ pos 1) (omega (arith, ints, c.north)) in
    let e1 = lt_true p.b (e.yb *ℤ p.d) (omega (arith, ints, i.north)) in
    all_above _ _ _ _ _ _ _ _ _ _ s0 s1 e0 e1
  where
    all_above : (s0 s1 e0 e1 l r l' r' x x' : Bool) → s0 ≡ true → s1 ≡ true → e0 ≡ true → e1 ≡ true
        → xor (cond e1 (not s1 && l) (s1 && r)) (cond e0 (not s0 && l') (s0 && r'))
        ≡ xor (x && (s0 && not s1)) (x' && (e0 && not e1))
    all_above s0 s1 e0 e1 l r l' r' true true a b c d = rw (a, b, c, d) refl
    all_above s0 s1 e0 e1 l r l' r' true false a b c d = rw (a, b, c, d) refl
    all_above s0 s1 e0 e1 l r l' r' false true a b c d = rw (a, b, c, d) refl
    all_above s0 s1 e0 e1 l r l' r' false false a b c d = rw (a, b, c, d) refl

-- one way along the edge, `up`: an end that lies between is east of the corner as the edge goes
turns : (up s0 s1 e0 e1 : Bool) → implies s1 s0 ≡ true → implies e1 e0 ≡ true
    → (up ≡ true → (implies s1 e1 && implies s0 e0) ≡ true)
    → (up ≡ false → (implies e1 s1 && implies e0 s0) ≡ true)
    → xor (e1 && not s1) (e0 && not s0) ≡ xor (up && (s0 && not s1)) (up && (e0 && not e1))
turns true s0 s1 e0 e1 s e h k =
    by_same _ _
    (by_implies _ _
    (by_table (λ a b c d. implies ((implies b a && implies d c) && (implies b d && implies a c))
    (same (xor (d && not b) (c && not a)) (xor (a && not b) (c && not d)))) refl s0 s1 e0 e1)
    (and_true _ _ (and_true _ _ s e) (h refl)))
turns false s0 s1 e0 e1 s e h k =
    by_same _ _
    (by_implies _ _
    (by_table (λ a b c d. implies (implies d b && implies c a) (same (xor (d && not b) (c && not a)) false)) refl s0 s1 e0 e1)
    (k refl))

alike_left : (box : Box) (p : Place) (e : Segment) → IsIn box p
    → ((q : Place) → IsIn box q → pos 0 <ℤ orientation e q) → Alike box p e
alike_left box p e i left =
    let c = corner_in box p i in
    let from = and_same (int_lt box.x0 e.xa) (int_lt e.ya e.yb) (is_above (corner box) e.ya && not (is_above p e.ya))
    (λ m. same_sign e.ya e.yb box.x0 e.xa (rw start_side at (left _ (between_in box p e.ya i m)))) in
    let to = and_same (int_lt box.x0 e.xb) (int_lt e.ya e.yb) (is_above (corner box) e.yb && not (is_above p e.yb))
    (λ m. same_sign e.ya e.yb box.x0 e.xb (rw end_side at (left _ (between_in box p e.yb i m)))) in
    rw (left_crosses e p (left p i), left_crosses e (corner box) (left _ c), from, to)
    (turns (int_lt e.ya e.yb) (is_above (corner box) e.ya) (is_above p e.ya) (is_above (corner box) e.yb) (is_above p e.yb)
    (above_corner box p e.ya i) (above_corner box p e.yb i)
    (λ up.
    let h = le_of_lt _ _ (is_lt e.ya e.yb up) in
    and_true _ _ (above_more p e.ya e.yb i.positive h) (above_more (corner box) e.ya e.yb c.positive h))
    (λ down.
    let h = is_ge e.ya e.yb down in
    and_true _ _ (above_more p e.yb e.ya i.positive h) (above_more (corner box) e.yb e.ya c.positive h)))

alike_right : (box : Box) (p : Place) (e : Segment) → IsIn box p
    → ((q : Place) → IsIn box q → orientation e q <ℤ pos 0) → Alike box p e
alike_right box p e i right =
    let c = corner_in box p i in
    let from = and_same (int_lt box.x0 e.xa) (int_lt e.yb e.ya) (is_above (corner box) e.ya && not (is_above p e.ya))
    (λ m. other_sign e.ya e.yb box.x0 e.xa (rw start_side at (right _ (between_in box p e.ya i m)))) in
    let to = and_same (int_lt box.x0 e.xb) (int_lt e.yb e.ya) (is_above (corner box) e.yb && not (is_above p e.yb))
    (λ m. other_sign e.ya e.yb box.x0 e.xb (rw end_side at (right _ (between_in box p e.yb i m)))) in
    rw (right_crosses e p (right p i), right_crosses e (corner box) (right _ c), from, to)
    (turns (int_lt e.yb e.ya) (is_above (corner box) e.yb) (is_above p e.yb) (is_above (corner box) e.ya) (is_above p e.ya)
    (above_corner box p e.yb i) (above_corner box p e.ya i)
    (λ up.
    let h = le_of_lt _ _ (is_lt e.yb e.ya up) in
    and_true _ _ (above_more p e.yb e.ya i.positive h) (above_more (corner box) e.yb e.ya c.positive h))
    (λ down.
    let h = is_ge e.yb e.ya down in
    and_true _ _ (above_more p e.ya e.yb i.positive h) (above_more (corner box) e.ya e.yb c.positive h))
    ∙ xor_comm (int_lt e.yb e.ya && (is_above (corner box) e.yb && not (is_above p e.yb)))
    (int_lt e.yb e.ya && (is_above (corner box) e.ya && not (is_above p e.ya))))

pub alike : (box : Box) (p : Place) (e : Segment) → IsIn box p → Apart box e → Alike box p e
alike box p e i (beyond_west h k) = alike_west box p e i h k
alike box p e i (beyond_east h k) = alike_east box p e i h k
alike box p e i (beyond_south h k) = alike_south box p e i h k
alike box p e i (beyond_north h k) = alike_north box p e i h k
alike box p e i (box_left f) = alike_left box p e i f
alike box p e i (box_right f) = alike_right box p e i f
