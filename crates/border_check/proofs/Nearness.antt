-- A quarter of a square is near as the square is, and an edge between near positions is within its limits.
use Rattle.std.proofs.Common.{◌≡◌, ◌<◌, ◌^◌, Bool, true, false, cond, arith}
use Rattle.std.proofs.Math.IntN.{ℤ, pos, ◌+ℤ◌, ◌*ℤ◌, neg_ℤ}
use Rattle.std.specs.Prelude.{◌≤ℤ◌, ◌<ℤ◌}
use Rattle.std.proofs.lemmas.Int.{ints}
use Rattle.plane_edges.specs.Magnitude.{IsWithin}
use Rattle.ring_survey.specs.Polygons.{Position}
use Rattle.ring_survey.specs.Extent.{is_far}
use Rattle.region.proofs.Along.{near}
use Rattle.border_check.specs.declared.squares.Square.{Square}
use Rattle.border_check.specs.Squares.{IsNear, half, quarter, side}
use Rattle.border_check.proofs.Trees.{side_halves, half_positive}

record Within (x y : ℤ) : Type 0 where
  low : neg_ℤ (pos (2 ^ 36)) ≤ℤ x
  high : y ≤ℤ pos (2 ^ 36)

half_near : (far : Bool) (x h whole : ℤ) → pos 0 <ℤ h → whole ≡ h +ℤ h → Within x (x +ℤ whole)
    → Within (cond far (x +ℤ h) x) (cond far (x +ℤ h) x +ℤ h)
half_near false x h whole some e w = record { low = w.low; high = omega (arith, ints, w.high, e, some) }
half_near true x h whole some e w = record { low = omega (arith, ints, w.low, some); high = omega (arith, ints, w.high, e) }

pub quarter_near : (s : Square) (east north : Bool) → IsNear s → 0 < s.size → IsNear (quarter s east north)
quarter_near s east north n large =
    let e = side_halves s large in
    let some = half_positive s in
    let x = half_near east s.x (half s) (side s) some e (record { low = n.west; high = n.east }) in
    let y = half_near north s.y (half s) (side s) some e (record { low = n.south; high = n.north }) in
    record { not_large = omega (arith, n.not_large); west = x.low; east = x.high; south = y.low; north = y.high }

scaled_within : (m n z : ℤ) → (pos 128 *ℤ m) ≤ℤ n → IsWithin m z → IsWithin n (pos 128 *ℤ z)
scaled_within m n z h w = record { low = omega (arith, ints, w.low, w.high); high = omega (arith, ints, w.low, w.high) }

pub record IsEdge (p q : Position) : Type 0 where
  pub xa : IsWithin (pos 47_000_000_000) (pos 128 *ℤ p.0)
  pub ya : IsWithin (pos 47_000_000_000) (pos 128 *ℤ p.1)
  pub xb : IsWithin (pos 47_000_000_000) (pos 128 *ℤ q.0)
  pub yb : IsWithin (pos 47_000_000_000) (pos 128 *ℤ q.1)

pub is_edge : (p q : Position) → is_far p ≡ false → is_far q ≡ false → IsEdge p q
is_edge p q g h =
    let a = near p g in
    let b = near q h in
    record {
      xa = scaled_within (pos 360_000_000) _ p.0 (omega (arith, ints)) a.0;
      ya = scaled_within (pos 65_000_000) _ p.1 (omega (arith, ints)) a.1;
      xb = scaled_within (pos 360_000_000) _ q.0 (omega (arith, ints)) b.0;
      yb = scaled_within (pos 65_000_000) _ q.1 (omega (arith, ints)) b.1;
    }
