use Rattle.std.proofs.Common.{rules, FitsSigned, refl, ◌∙◌}
use Rattle.std.specs.Int.{w64, w128}
use Rattle.std.proofs.lemmas.Int.{to_z-of_z}
use Rattle.border_check.proofs.edge_tests.side_at.Goals as goal

pub returns : goal.returns
returns c =
    let xa : FitsSigned w64 c.args.edge.now.xa = search rules in
    let ya : FitsSigned w64 c.args.edge.now.ya = search rules in
    let xb : FitsSigned w64 c.args.edge.now.xb = search rules in
    let yb : FitsSigned w64 c.args.edge.now.yb = search rules in
    let x : FitsSigned w64 c.args.x = c.ranges.x in
    let y : FitsSigned w64 c.args.y = c.ranges.y in
    let f1 : FitsSigned w64 c.span.result = search rules in
    let f2 : FitsSigned w64 c.gap.result = search rules in
    let f3 : FitsSigned w128 c.area-rise.result = search rules in
    let f4 : FitsSigned w64 c.span-2.result = search rules in
    let f5 : FitsSigned w64 c.gap-2.result = search rules in
    let f6 : FitsSigned w128 c.area-run.result = search rules in
    let f7 : FitsSigned w128 c.turn.result = search rules in
    let e1 = simp to_z-of_z at c.span.ensures.value in
    let e2 = simp to_z-of_z at c.gap.ensures.value in
    let e3 = simp to_z-of_z at c.area-rise.ensures.value in
    let e4 = simp to_z-of_z at c.span-2.ensures.value in
    let e5 = simp to_z-of_z at c.gap-2.ensures.value in
    let e6 = simp to_z-of_z at c.area-run.ensures.value in
    let e7 = simp to_z-of_z at c.turn.ensures in
    simp to_z-of_z (e7 ∙ rw (e3, e6, e1, e2, e4, e5) refl)
