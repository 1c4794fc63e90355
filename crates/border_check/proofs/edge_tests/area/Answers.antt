use Rattle.std.proofs.Common.{arith, ◌^◌, pos, ◌*ℤ◌, FitsSigned, refl}
use Rattle.std.specs.Int.{w64, w128}
use Rattle.std.proofs.lemmas.Int.{ints, to_z-of_z}
use Rattle.plane_edges.proofs.Products.{mul_within}
use Rattle.border_check.proofs.edge_tests.area.Goals as goal

pub returns-clause-value : goal.returns-clause-value
returns-clause-value c =
    let w = mul_within (pos (2 ^ 37)) (pos (2 ^ 37)) c.args.span c.args.gap c.requires.span c.requires.gap in
    let x : FitsSigned w64 c.args.span = c.ranges.span in
    let y : FitsSigned w64 c.args.gap = c.ranges.gap in
    let x2 : FitsSigned w128 c.args.span = omega (arith, ints, c.requires.span.low, c.requires.span.high) in
    let y2 : FitsSigned w128 c.args.gap = omega (arith, ints, c.requires.gap.low, c.requires.gap.high) in
    let f : FitsSigned w128 (c.args.span *ℤ c.args.gap) = omega (arith, ints, w.low, w.high) in
    simp to_z-of_z refl

pub returns-clause-within : goal.returns-clause-within
returns-clause-within c =
    let w = mul_within (pos (2 ^ 37)) (pos (2 ^ 37)) c.args.span c.args.gap c.requires.span c.requires.gap in
    let x : FitsSigned w64 c.args.span = c.ranges.span in
    let y : FitsSigned w64 c.args.gap = c.ranges.gap in
    let x2 : FitsSigned w128 c.args.span = omega (arith, ints, c.requires.span.low, c.requires.span.high) in
    let y2 : FitsSigned w128 c.args.gap = omega (arith, ints, c.requires.gap.low, c.requires.gap.high) in
    let f : FitsSigned w128 (c.args.span *ℤ c.args.gap) = omega (arith, ints, w.low, w.high) in
    simp to_z-of_z w
