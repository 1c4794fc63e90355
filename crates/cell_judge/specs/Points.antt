-- The code's point at a place.
use Rattle.std.specs.Prelude.{◌^◌, ℤ, pos, neg_ℤ}
use Rattle.std.specs.Int.{int_max, int_min}
use Rattle.std.proofs.Common.{arith}
use Rattle.std.proofs.lemmas.Int.{clamps, ints}
use Rattle.plane_edges.specs.declared.points.Point.{Point}
use Rattle.plane_edges.specs.Plane.{Place}

-- a number held within these ends
abbrev pub held : ℤ → ℤ → ℤ → ℤ
held low high z = int_max low (int_min z high)

-- the point at a place, whose numbers are held within the limits that the type sets them
unfoldable pub point_of : Place → Point
point_of p = record {
  a = held (neg_ℤ (pos (2 ^ 70))) (pos (2 ^ 70)) p.a;
  b = held (neg_ℤ (pos (2 ^ 70))) (pos (2 ^ 70)) p.b;
  d = held (pos 1) (pos (2 ^ 30)) p.d;
  positive = omega (arith, ints, clamps);
  short = omega (arith, ints, clamps);
  a_within = record { low = omega (arith, ints, clamps); high = omega (arith, ints, clamps) };
  b_within = record { low = omega (arith, ints, clamps); high = omega (arith, ints, clamps) };
}
