-- The point at a place is the code's own, where the place is within the limits of points.
use Rattle.std.proofs.Common.{◌≡◌, ◌^◌, Option, Some, None, sym, ap, subst, ◌∙◌, arith}
use Rattle.std.specs.Prelude.{ℤ, pos, neg_ℤ, ◌≤ℤ◌}
use Rattle.std.specs.Option.{option_map}
use Rattle.std.proofs.Props.{props}
use Rattle.std.proofs.lemmas.Int.{clamps, ints}
use Rattle.plane_edges.specs.declared.points.Point.{Point}
use Rattle.plane_edges.specs.Magnitude.{IsWithin}
use Rattle.plane_edges.specs.Plane.{Place}
use Rattle.plane_edges.specs.Views.{place_of}
use Rattle.cell_judge.specs.Points.{held, point_of}

-- the place is within the limits of points
pub record IsPoint (p : Place) : Type 0 where
  pub positive : pos 1 ≤ℤ p.d
  pub short : p.d ≤ℤ pos (2 ^ 30)
  pub a_within : IsWithin (pos (2 ^ 70)) p.a
  pub b_within : IsWithin (pos (2 ^ 70)) p.b

abbrev point_at : (p : Place) → IsPoint p → Point
point_at p is = record {
  a = p.a;
  b = p.b;
  d = p.d;
  positive = is.positive;
  short = is.short;
  a_within = is.a_within;
  b_within = is.b_within;
}

-- what is within the limits stays as it is
held_same : (low high z : ℤ) → low ≤ℤ z → z ≤ℤ high → held low high z ≡ z
held_same low high z g h = omega (arith, ints, clamps, g, h)

pub place_of_point : (p : Place) → IsPoint p → place_of (point_of p) ≡ p
unfolding point_of
place_of_point p is =
    let a = held_same (neg_ℤ (pos (2 ^ 70))) (pos (2 ^ 70)) p.a is.a_within.low is.a_within.high in
    let b = held_same (neg_ℤ (pos (2 ^ 70))) (pos (2 ^ 70)) p.b is.b_within.low is.b_within.high in
    let d = held_same (pos 1) (pos (2 ^ 30)) p.d is.positive is.short in
    λ i. record { a = a i; b = b i; d = d i }

le_one : (u v : ℤ) → IsProp (u ≤ℤ v)
le_one u v = hlevel props

within_one : (m z : ℤ) → IsProp (IsWithin m z)
within_one m z = hlevel props

-- whatever shows that the numbers are a point's
same_point : (p : Place) (is is' : IsPoint p) → point_at p is ≡ point_at p is'
same_point p is is' = λ i. record {
  a = p.a;
  b = p.b;
  d = p.d;
  positive = le_one (pos 1) p.d is.positive is'.positive i;
  short = le_one p.d (pos (2 ^ 30)) is.short is'.short i;
  a_within = within_one (pos (2 ^ 70)) p.a is.a_within is'.a_within i;
  b_within = within_one (pos (2 ^ 70)) p.b is.b_within is'.b_within i;
}

at_same_place : (p p' : Place) (is : IsPoint p) (is' : IsPoint p') → p ≡ p' → point_at p is ≡ point_at p' is'
at_same_place p p' is is' same = subst (λ (x : Place). (h : IsPoint x) → point_at p is ≡ point_at x h) same (same_point p is) is'

abbrev of_point : (q : Point) → IsPoint (place_of q)
of_point q = record { positive = q.positive; short = q.short; a_within = q.a_within; b_within = q.b_within }

pub point_of_place : (q : Point) → q ≡ point_of (place_of q)
unfolding point_of
point_of_place q =
    let held_point = point_of (place_of q) in
    at_same_place (place_of q) (place_of held_point) (of_point q) (of_point held_point) (sym (place_of_point (place_of q) (of_point q)))

-- the code's answer is the point at the place that it is to be
pub points_of : (o : Option Point) (p : Option Place) → option_map place_of o ≡ p → o ≡ option_map point_of p
points_of None p e = ap (option_map point_of) e
points_of (Some q) p e = ap Some (point_of_place q) ∙ ap (option_map point_of) e
