use Rattle.std.proofs.Common.{arith, pos, refl, FitsSigned}
use Rattle.std.proofs.Math.IntN.{◌*ℤ◌}
use Rattle.std.specs.Int.{w64}
use Rattle.std.proofs.lemmas.Int.{ints, to_z-of_z}
use Rattle.border_check.proofs.Nearness.{is_edge}
use Rattle.region.proofs.Along.{near}
use Rattle.border_check.proofs.parts.edge_between.Goals as goal

pub invariant_of-result : goal.invariant_of-result
invariant_of-result c =
    let e = is_edge c.args.p c.args.q c.requires.start c.requires.end in
    let a = near c.args.p c.requires.start in
    let b = near c.args.q c.requires.end in
    let f1 : FitsSigned w64 c.args.p.0 = omega (arith, ints, a.0.low, a.0.high) in
    let f2 : FitsSigned w64 c.args.p.1 = omega (arith, ints, a.1.low, a.1.high) in
    let f3 : FitsSigned w64 c.args.q.0 = omega (arith, ints, b.0.low, b.0.high) in
    let f4 : FitsSigned w64 c.args.q.1 = omega (arith, ints, b.1.low, b.1.high) in
    let g1 : FitsSigned w64 (pos 128 *ℤ c.args.p.0) = omega (arith, ints, e.xa.low, e.xa.high) in
    let g2 : FitsSigned w64 (pos 128 *ℤ c.args.p.1) = omega (arith, ints, e.ya.low, e.ya.high) in
    let g3 : FitsSigned w64 (pos 128 *ℤ c.args.q.0) = omega (arith, ints, e.xb.low, e.xb.high) in
    let g4 : FitsSigned w64 (pos 128 *ℤ c.args.q.1) = omega (arith, ints, e.yb.low, e.yb.high) in
    simp to_z-of_z (record { xa_within = e.xa; ya_within = e.ya; xb_within = e.xb; yb_within = e.yb })

pub returns : goal.returns
returns c =
    let e = is_edge c.args.p c.args.q c.requires.start c.requires.end in
    let a = near c.args.p c.requires.start in
    let b = near c.args.q c.requires.end in
    let f1 : FitsSigned w64 c.args.p.0 = omega (arith, ints, a.0.low, a.0.high) in
    let f2 : FitsSigned w64 c.args.p.1 = omega (arith, ints, a.1.low, a.1.high) in
    let f3 : FitsSigned w64 c.args.q.0 = omega (arith, ints, b.0.low, b.0.high) in
    let f4 : FitsSigned w64 c.args.q.1 = omega (arith, ints, b.1.low, b.1.high) in
    let g1 : FitsSigned w64 (pos 128 *ℤ c.args.p.0) = omega (arith, ints, e.xa.low, e.xa.high) in
    let g2 : FitsSigned w64 (pos 128 *ℤ c.args.p.1) = omega (arith, ints, e.ya.low, e.ya.high) in
    let g3 : FitsSigned w64 (pos 128 *ℤ c.args.q.0) = omega (arith, ints, e.xb.low, e.xb.high) in
    let g4 : FitsSigned w64 (pos 128 *ℤ c.args.q.1) = omega (arith, ints, e.yb.low, e.yb.high) in
    simp to_z-of_z refl
