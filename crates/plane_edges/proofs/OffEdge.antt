-- No place of a box lies on an edge that is apart from it.
use Rattle.std.proofs.Common.{◌≡◌, ◌⊎◌, inl, inr, false, arith}
use Rattle.std.proofs.Math.IntN.{ℤ, pos, ◌*ℤ◌}
use Rattle.std.specs.Prelude.{◌<ℤ◌}
use Rattle.std.specs.Ordering.{int_eq}
use Rattle.std.proofs.lemmas.Int.{ints}
use Rattle.plane_edges.specs.Plane.{Place, Segment, Box, IsIn, encloses, is_on}
use Rattle.plane_edges.proofs.Products.{times_strict}
use Rattle.plane_edges.proofs.Truth.{and_false, false_and}
use Rattle.plane_edges.proofs.Apart.{Apart, beyond_west, beyond_east, beyond_south, beyond_north, box_left, box_right}

pub below_both : (u v z : ℤ) → u <ℤ z → v <ℤ z → encloses u v z ≡ false
below_both u v z h k = grind (arith, ints)

pub above_both : (u v z : ℤ) → z <ℤ u → z <ℤ v → encloses u v z ≡ false
above_both u v z h k = grind (arith, ints)

not_zero : (z : ℤ) → (pos 0 <ℤ z) ⊎ (z <ℤ pos 0) → int_eq z (pos 0) ≡ false
not_zero z (inl h) = grind (arith, ints)
not_zero z (inr h) = grind (arith, ints)

pub off_apart : (box : Box) (p : Place) (e : Segment) → IsIn box p → Apart box e → is_on p e ≡ false
off_apart box p e i (beyond_west h k) =
    let f = times_strict e.xa box.x0 p.d i.positive h in
    let g = times_strict e.xb box.x0 p.d i.positive k in
    false_and _ _ (below_both (e.xa *ℤ p.d) (e.xb *ℤ p.d) p.a (omega (arith, ints, i.west)) (omega (arith, ints, i.west)))
off_apart box p e i (beyond_east h k) =
    let f = times_strict box.x1 e.xa p.d i.positive h in
    let g = times_strict box.x1 e.xb p.d i.positive k in
    false_and _ _ (above_both (e.xa *ℤ p.d) (e.xb *ℤ p.d) p.a (omega (arith, ints, i.east)) (omega (arith, ints, i.east)))
off_apart box p e i (beyond_south h k) =
    let f = times_strict e.ya box.y0 p.d i.positive h in
    let g = times_strict e.yb box.y0 p.d i.positive k in
    and_false _ _ (false_and _ _ (below_both (e.ya *ℤ p.d) (e.yb *ℤ p.d) p.b (omega (arith, ints, i.south)) (omega (arith, ints, i.south))))
off_apart box p e i (beyond_north h k) =
    let f = times_strict box.y1 e.ya p.d i.positive h in
    let g = times_strict box.y1 e.yb p.d i.positive k in
    and_false _ _ (false_and _ _ (above_both (e.ya *ℤ p.d) (e.yb *ℤ p.d) p.b (omega (arith, ints, i.north)) (omega (arith, ints, i.north))))
off_apart box p e i (box_left f) = and_false _ _ (and_false _ _ (not_zero _ (inl (f p i))))
off_apart box p e i (box_right f) = and_false _ _ (and_false _ _ (not_zero _ (inr (f p i))))
