-- An edge meets a box exactly where its own box does and the box's corners aren't all strictly on one side of its line.
use Rattle.std.proofs.Common.{◌≡◌, inl, inr, Bool, true, false, not, ◌&&◌, ◌||◌, Option, Some, None, arith, refl, sym, ◌∙◌}
use Rattle.std.proofs.Math.IntN.{ℤ, pos, ◌+ℤ◌, ◌-ℤ◌, ◌*ℤ◌, neg_ℤ}
use Rattle.std.specs.Prelude.{◌≤ℤ◌, ◌<ℤ◌, int_lt}
use Rattle.std.specs.Option.{is_some}
use Rattle.std.proofs.lemmas.Int.{ints, by_lt_z}
use Rattle.std.proofs.lemmas.Bool.{false≢true}
use Rattle.plane_edges.specs.Plane.{Place, Segment, Box, IsIn, orientation, IsOrdered}
use Rattle.plane_edges.specs.EdgePoints.{edge_point, misses_latitudes, misses_longitudes}
use Rattle.plane_edges.proofs.Products.{expand, mul_nonneg, mul_pos}
use Rattle.plane_edges.proofs.Truth.{and_true, and_left, and_right, or_left, or_right, or_cases, lt_true, is_lt}
use Rattle.plane_edges.proofs.Apart.{Apart, beyond_west, beyond_east, beyond_south, beyond_north, box_left, box_right, apart}
use Rattle.plane_edges.proofs.Beyond.{none_apart, names_none_beyond}
use Rattle.border_check.specs.Shares.{meets}
use Rattle.border_check.specs.Sides.{whole, all_left, all_right}

one : (z : ℤ) → z *ℤ pos 1 ≡ z
one z = omega (arith, ints)

-- on which side of an edge that goes by (u, v) from (xa, ya) a place is
abbrev turn_at : ℤ → ℤ → ℤ → ℤ → ℤ → ℤ → ℤ → ℤ
turn_at u v xa ya a b d = u *ℤ (b -ℤ ya *ℤ d) -ℤ v *ℤ (a -ℤ xa *ℤ d)

abbrev corner_turn : ℤ → ℤ → ℤ → ℤ → ℤ → ℤ → ℤ
corner_turn u v xa ya x y = u *ℤ (y -ℤ ya) -ℤ v *ℤ (x -ℤ xa)

by_corner : (u v xa ya x y a b d : ℤ) → turn_at u v xa ya a b d
    ≡ corner_turn u v xa ya x y *ℤ d +ℤ (u *ℤ (b -ℤ y *ℤ d) +ℤ v *ℤ (x *ℤ d -ℤ a))
by_corner u v xa ya x y a b d = simp expand (omega (arith, ints))

-- at the corner that faces the side, and so at the place
beyond_corner : (u v xa ya x y a b d : ℤ) → pos 0 <ℤ d → pos 0 <ℤ corner_turn u v xa ya x y
    → pos 0 ≤ℤ (u *ℤ (b -ℤ y *ℤ d)) → pos 0 ≤ℤ (v *ℤ (x *ℤ d -ℤ a)) → pos 0 <ℤ turn_at u v xa ya a b d
beyond_corner u v xa ya x y a b d positive h f g =
    let k = mul_pos (corner_turn u v xa ya x y) d h positive in
    rw (by_corner u v xa ya x y a b d) (omega (arith, ints, k, f, g))

both_negative : (u z : ℤ) → u <ℤ pos 0 → z ≤ℤ pos 0 → pos 0 ≤ℤ (u *ℤ z)
both_negative u z h k =
    let f = mul_nonneg (neg_ℤ u) (neg_ℤ z) (omega (arith, ints)) (omega (arith, ints)) in
    let e : neg_ℤ u *ℤ neg_ℤ z ≡ u *ℤ z = simp expand (omega (arith, ints)) in
    rw (← e) f

record AtCorners (u v xa ya : ℤ) (box : Box) : Type 0 where
  south_west : pos 0 <ℤ corner_turn u v xa ya box.x0 box.y0
  south_east : pos 0 <ℤ corner_turn u v xa ya box.x1 box.y0
  north_west : pos 0 <ℤ corner_turn u v xa ya box.x0 box.y1
  north_east : pos 0 <ℤ corner_turn u v xa ya box.x1 box.y1

-- what holds at the four corners holds in the box
in_all : (u v xa ya : ℤ) (box : Box) (p : Place) → IsIn box p → AtCorners u v xa ya box
    → pos 0 <ℤ turn_at u v xa ya p.a p.b p.d
in_all u v xa ya box p i c =
    by_lt_z u (pos 0)
    (λ falls. by_lt_z v (pos 0)
    (λ left. beyond_corner u v xa ya box.x0 box.y1 p.a p.b p.d i.positive c.north_west
    (both_negative u (p.b -ℤ box.y1 *ℤ p.d) falls (omega (arith, ints, i.north)))
    (both_negative v (box.x0 *ℤ p.d -ℤ p.a) left (omega (arith, ints, i.west))))
    (λ right. beyond_corner u v xa ya box.x1 box.y1 p.a p.b p.d i.positive c.north_east
    (both_negative u (p.b -ℤ box.y1 *ℤ p.d) falls (omega (arith, ints, i.north)))
    (mul_nonneg v (box.x1 *ℤ p.d -ℤ p.a) right (omega (arith, ints, i.east)))))
    (λ rises. by_lt_z v (pos 0)
    (λ left. beyond_corner u v xa ya box.x0 box.y0 p.a p.b p.d i.positive c.south_west
    (mul_nonneg u (p.b -ℤ box.y0 *ℤ p.d) rises (omega (arith, ints, i.south)))
    (both_negative v (box.x0 *ℤ p.d -ℤ p.a) left (omega (arith, ints, i.west))))
    (λ right. beyond_corner u v xa ya box.x1 box.y0 p.a p.b p.d i.positive c.south_east
    (mul_nonneg u (p.b -ℤ box.y0 *ℤ p.d) rises (omega (arith, ints, i.south)))
    (mul_nonneg v (box.x1 *ℤ p.d -ℤ p.a) right (omega (arith, ints, i.east)))))

turned : (u v s t : ℤ) → (u *ℤ s -ℤ v *ℤ t) <ℤ pos 0 → pos 0 <ℤ (neg_ℤ u *ℤ s -ℤ neg_ℤ v *ℤ t)
turned u v s t h =
    let e : neg_ℤ u *ℤ s -ℤ neg_ℤ v *ℤ t ≡ neg_ℤ (u *ℤ s -ℤ v *ℤ t) = simp expand (omega (arith, ints)) in
    rw e (omega (arith, ints, h))

turned_back : (u v s t : ℤ) → pos 0 <ℤ (neg_ℤ u *ℤ s -ℤ neg_ℤ v *ℤ t) → (u *ℤ s -ℤ v *ℤ t) <ℤ pos 0
turned_back u v s t h =
    let e : neg_ℤ u *ℤ s -ℤ neg_ℤ v *ℤ t ≡ neg_ℤ (u *ℤ s -ℤ v *ℤ t) = simp expand (omega (arith, ints)) in
    let k = rw e at h in
    omega (arith, ints, k)

abbrev across : Segment → ℤ
across e = e.xb -ℤ e.xa

abbrev up : Segment → ℤ
up e = e.yb -ℤ e.ya

at_whole : (e : Segment) (x y : ℤ) → orientation e (whole x y) ≡ corner_turn (across e) (up e) e.xa e.ya x y
at_whole e x y = rw (one e.ya, one e.xa) refl

record FourTests (a b c d : Bool) : Type 0 where
  first : a ≡ true
  second : b ≡ true
  third : c ≡ true
  fourth : d ≡ true

four_of : (a b c d : Bool) → (a && (b && (c && d))) ≡ true → FourTests a b c d
four_of a b c d h =
    let g = and_right a (b && (c && d)) h in
    let k = and_right b (c && d) g in
    record { first = and_left a (b && (c && d)) h; second = and_left b (c && d) g; third = and_left c d k; fourth = and_right c d k }

left_apart : (box : Box) (e : Segment) → all_left box e ≡ true → Apart box e
left_apart box e h =
    let f = four_of (int_lt (pos 0) (orientation e (whole box.x0 box.y0))) (int_lt (pos 0) (orientation e (whole box.x1 box.y0)))
    (int_lt (pos 0) (orientation e (whole box.x0 box.y1))) (int_lt (pos 0) (orientation e (whole box.x1 box.y1))) h in
    let corners : AtCorners (across e) (up e) e.xa e.ya box = record {
      south_west = rw (← at_whole e box.x0 box.y0) (is_lt _ _ f.first);
      south_east = rw (← at_whole e box.x1 box.y0) (is_lt _ _ f.second);
      north_west = rw (← at_whole e box.x0 box.y1) (is_lt _ _ f.third);
      north_east = rw (← at_whole e box.x1 box.y1) (is_lt _ _ f.fourth);
    } in
    box_left (λ p i. in_all (across e) (up e) e.xa e.ya box p i corners)

right_apart : (box : Box) (e : Segment) → all_right box e ≡ true → Apart box e
right_apart box e h =
    let f = four_of (int_lt (orientation e (whole box.x0 box.y0)) (pos 0)) (int_lt (orientation e (whole box.x1 box.y0)) (pos 0))
    (int_lt (orientation e (whole box.x0 box.y1)) (pos 0)) (int_lt (orientation e (whole box.x1 box.y1)) (pos 0)) h in
    let at : (x y : ℤ) → orientation e (whole x y) <ℤ pos 0 → pos 0 <ℤ corner_turn (neg_ℤ (across e)) (neg_ℤ (up e)) e.xa e.ya x y =
    λ x y g. turned (across e) (up e) (y -ℤ e.ya) (x -ℤ e.xa) (rw (← at_whole e x y) g) in
    let corners : AtCorners (neg_ℤ (across e)) (neg_ℤ (up e)) e.xa e.ya box = record {
      south_west = at box.x0 box.y0 (is_lt _ _ f.first);
      south_east = at box.x1 box.y0 (is_lt _ _ f.second);
      north_west = at box.x0 box.y1 (is_lt _ _ f.third);
      north_east = at box.x1 box.y1 (is_lt _ _ f.fourth);
    } in
    box_right (λ p i. turned_back (across e) (up e) (p.b -ℤ e.ya *ℤ p.d) (p.a -ℤ e.xa *ℤ p.d)
    (in_all (neg_ℤ (across e)) (neg_ℤ (up e)) e.xa e.ya box p i corners))

corner_inside : (box : Box) (x y : ℤ) → box.x0 ≤ℤ x → x ≤ℤ box.x1 → box.y0 ≤ℤ y → y ≤ℤ box.y1 → IsIn box (whole x y)
corner_inside box x y w e s n = record {
  positive = omega (arith, ints);
  west = omega (arith, ints);
  east = omega (arith, ints);
  south = omega (arith, ints);
  north = omega (arith, ints);
}

four_true : (a b c d : Bool) → a ≡ true → b ≡ true → c ≡ true → d ≡ true → (a && (b && (c && d))) ≡ true
four_true a b c d p q r s = and_true a (b && (c && d)) p (and_true b (c && d) q (and_true c d r s))

-- the test by which an edge is beyond a box
abbrev pub is_beyond : Box → Segment → Bool
is_beyond box e = (misses_latitudes box e || misses_longitudes box e) || (all_left box e || all_right box e)

apart_beyond : (box : Box) (e : Segment) → IsOrdered box → Apart box e → is_beyond box e ≡ true
apart_beyond box e o (beyond_west h k) =
    or_left _ _ (or_right _ _ (or_left _ _ (and_true _ _ (lt_true _ _ h) (lt_true _ _ k))))
apart_beyond box e o (beyond_east h k) =
    or_left _ _ (or_right _ _ (or_right _ _ (and_true _ _ (lt_true _ _ h) (lt_true _ _ k))))
apart_beyond box e o (beyond_south h k) =
    or_left _ _ (or_left _ _ (or_left _ _ (and_true _ _ (lt_true _ _ h) (lt_true _ _ k))))
apart_beyond box e o (beyond_north h k) =
    or_left _ _ (or_left _ _ (or_right _ _ (and_true _ _ (lt_true _ _ h) (lt_true _ _ k))))
apart_beyond box e o (box_left f) =
    let x = o.x_ordered in
    let y = o.y_ordered in
    or_right _ _ (or_left _ _ (four_true _ _ _ _
    (lt_true _ _ (f _ (corner_inside box box.x0 box.y0 (omega (arith, ints)) x (omega (arith, ints)) y)))
    (lt_true _ _ (f _ (corner_inside box box.x1 box.y0 x (omega (arith, ints)) (omega (arith, ints)) y)))
    (lt_true _ _ (f _ (corner_inside box box.x0 box.y1 (omega (arith, ints)) x y (omega (arith, ints)))))
    (lt_true _ _ (f _ (corner_inside box box.x1 box.y1 x (omega (arith, ints)) y (omega (arith, ints)))))))
apart_beyond box e o (box_right f) =
    let x = o.x_ordered in
    let y = o.y_ordered in
    or_right _ _ (or_right _ _ (four_true _ _ _ _
    (lt_true _ _ (f _ (corner_inside box box.x0 box.y0 (omega (arith, ints)) x (omega (arith, ints)) y)))
    (lt_true _ _ (f _ (corner_inside box box.x1 box.y0 x (omega (arith, ints)) (omega (arith, ints)) y)))
    (lt_true _ _ (f _ (corner_inside box box.x0 box.y1 (omega (arith, ints)) x y (omega (arith, ints)))))
    (lt_true _ _ (f _ (corner_inside box box.x1 box.y1 x (omega (arith, ints)) y (omega (arith, ints)))))))

beyond_none : (box : Box) (e : Segment) → IsOrdered box → is_beyond box e ≡ true → edge_point box e ≡ None
beyond_none box e o h =
    elim (or_cases (misses_latitudes box e || misses_longitudes box e) (all_left box e || all_right box e) h) [
      | inl a ↦ (names_none_beyond box e o a).0
      | inr b ↦ elim (or_cases (all_left box e) (all_right box e) b) [
        | inl c ↦ none_apart box e o (left_apart box e c)
        | inr c ↦ none_apart box e o (right_apart box e c)
      ]
    ]

pub meets_is : (box : Box) (e : Segment) → IsOrdered box → meets box e ≡ not (is_beyond box e)
meets_is box e o = by (edge_point box e) refl (is_beyond box e) refl
  where
    by : (found : Option Place) → edge_point box e ≡ found → (b : Bool) → is_beyond box e ≡ b → is_some found ≡ not b
    by None h true k = refl
    by None h false k = absurd (false≢true (sym k ∙ apart_beyond box e o (apart box e h)))
    by (Some p) h true k = let contrary = sym h ∙ beyond_none box e o k in cc
    by (Some p) h false k = refl
