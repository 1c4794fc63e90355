-- What the test of an edge's own box says of a place.
use Rattle.std.proofs.Common.{◌≡◌, Bool, true, false, not, ◌&&◌, cond, arith, refl, ◌∙◌}
use Rattle.std.proofs.Math.IntN.{ℤ, pos, ◌*ℤ◌}
use Rattle.std.specs.Prelude.{◌<ℤ◌, int_lt}
use Rattle.std.specs.Ordering.{int_eq}
use Rattle.std.proofs.lemmas.Int.{ints}
use mathlib.Core.Bool.{beq}
use Rattle.plane_edges.specs.Plane.{Place, Segment, orientation, encloses, is_on, is_above, crosses, xor}
use Rattle.plane_edges.proofs.Truth.{and_left, and_right, is_lt, false_and, and_false}
use Rattle.plane_edges.proofs.Parity.{no_cross_west, cross_east}
use Rattle.plane_edges.proofs.OffEdge.{below_both, above_both}

-- a place outside the edge's latitudes
pub on_beyond_latitudes : (e : Segment) (p : Place) → encloses (e.ya *ℤ p.d) (e.yb *ℤ p.d) p.b ≡ false → is_on p e ≡ false
on_beyond_latitudes e p h = and_false _ _ (false_and _ _ h)

alike_beyond : (u v z : ℤ) → encloses u v z ≡ false → int_lt z u ≡ int_lt z v
alike_beyond u v z h = grind (arith, ints)

pub no_cross_level : (from to left right : Bool) → from ≡ to → cond to (not from && left) (from && right) ≡ false
no_cross_level true true left right h = refl
no_cross_level true false left right h = cc
no_cross_level false true left right h = cc
no_cross_level false false left right h = refl

pub cross_beyond_latitudes : (e : Segment) (p : Place) → encloses (e.ya *ℤ p.d) (e.yb *ℤ p.d) p.b ≡ false
    → crosses p e ≡ false
cross_beyond_latitudes e p h =
    no_cross_level (is_above p e.ya) (is_above p e.yb) (int_lt (pos 0) (orientation e p)) (int_lt (orientation e p) (pos 0))
    (alike_beyond (e.ya *ℤ p.d) (e.yb *ℤ p.d) p.b h)

-- a place to the east of the edge
pub on_beyond_west : (e : Segment) (p : Place) → (int_lt (e.xa *ℤ p.d) p.a && int_lt (e.xb *ℤ p.d) p.a) ≡ true
    → is_on p e ≡ false
on_beyond_west e p h =
    false_and _ _ (below_both _ _ _ (is_lt (e.xa *ℤ p.d) p.a (and_left _ (int_lt (e.xb *ℤ p.d) p.a) h))
    (is_lt (e.xb *ℤ p.d) p.a (and_right (int_lt (e.xa *ℤ p.d) p.a) _ h)))

pub cross_beyond_west : (e : Segment) (p : Place) → pos 0 <ℤ p.d
    → (int_lt (e.xa *ℤ p.d) p.a && int_lt (e.xb *ℤ p.d) p.a) ≡ true → crosses p e ≡ false
cross_beyond_west e p d h =
    no_cross_west e p d (is_lt (e.xa *ℤ p.d) p.a (and_left _ (int_lt (e.xb *ℤ p.d) p.a) h))
    (is_lt (e.xb *ℤ p.d) p.a (and_right (int_lt (e.xa *ℤ p.d) p.a) _ h))

-- a place to the west of the edge
pub on_beyond_east : (e : Segment) (p : Place) → (int_lt p.a (e.xa *ℤ p.d) && int_lt p.a (e.xb *ℤ p.d)) ≡ true
    → is_on p e ≡ false
on_beyond_east e p h =
    false_and _ _ (above_both _ _ _ (is_lt p.a (e.xa *ℤ p.d) (and_left _ (int_lt p.a (e.xb *ℤ p.d)) h))
    (is_lt p.a (e.xb *ℤ p.d) (and_right (int_lt p.a (e.xa *ℤ p.d)) _ h)))

differ_is : (a b : Bool) → xor a b ≡ not (beq a b)
differ_is true true = refl
differ_is true false = refl
differ_is false true = refl
differ_is false false = refl

pub cross_beyond_east : (e : Segment) (p : Place) → pos 0 <ℤ p.d
    → (int_lt p.a (e.xa *ℤ p.d) && int_lt p.a (e.xb *ℤ p.d)) ≡ true
    → crosses p e ≡ not (beq (is_above p e.ya) (is_above p e.yb))
cross_beyond_east e p d h =
    cross_east e p d (is_lt p.a (e.xa *ℤ p.d) (and_left _ (int_lt p.a (e.xb *ℤ p.d)) h))
    (is_lt p.a (e.xb *ℤ p.d) (and_right (int_lt p.a (e.xa *ℤ p.d)) _ h))
    ∙ differ_is (is_above p e.ya) (is_above p e.yb)

-- a place in the edge's own box
in_longitudes : (u v z : ℤ) → (int_lt u z && int_lt v z) ≡ false → (int_lt z u && int_lt z v) ≡ false → encloses u v z ≡ true
in_longitudes u v z h k = grind (arith, ints)

true_and : (a b c : Bool) → a ≡ true → b ≡ true → (a && (b && c)) ≡ c
true_and true true c h k = refl
true_and true false c h k = cc
true_and false b c h k = cc

pub on_in_box : (e : Segment) (p : Place) → encloses (e.ya *ℤ p.d) (e.yb *ℤ p.d) p.b ≡ true
    → (int_lt (e.xa *ℤ p.d) p.a && int_lt (e.xb *ℤ p.d) p.a) ≡ false
    → (int_lt p.a (e.xa *ℤ p.d) && int_lt p.a (e.xb *ℤ p.d)) ≡ false
    → is_on p e ≡ int_eq (orientation e p) (pos 0)
on_in_box e p y w x = true_and _ _ _ (in_longitudes (e.xa *ℤ p.d) (e.xb *ℤ p.d) p.a w x) y
