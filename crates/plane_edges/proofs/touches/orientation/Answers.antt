use Rattle.std.proofs.Common.{rules, FitsSigned, refl, ◌∙◌}
use Rattle.std.specs.Int.{w64, w128}
use Rattle.std.proofs.lemmas.Int.{to_z-of_z}
use Rattle.plane_edges.proofs.touches.orientation.Goals as goal

pub returns : goal.returns
returns c =
    let xa : FitsSigned w64 c.args.edge.now.xa = search rules in
    let ya : FitsSigned w64 c.args.edge.now.ya = search rules in
    let xb : FitsSigned w64 c.args.edge.now.xb = search rules in
    let yb : FitsSigned w64 c.args.edge.now.yb = search rules in
    let a : FitsSigned w128 c.args.p.now.a = search rules in
    let b : FitsSigned w128 c.args.p.now.b = search rules in
    let d : FitsSigned w128 c.args.p.now.d = search rules in
    let f1 : FitsSigned w128 c.span.result = search rules in
    let f2 : FitsSigned w128 c.scaled.result = search rules in
    let f3 : FitsSigned w128 c.gap.result = search rules in
    let f4 : FitsSigned w128 c.area-rise.result = search rules in
    let f5 : FitsSigned w128 c.span-2.result = search rules in
    let f6 : FitsSigned w128 c.scaled-2.result = search rules in
    let f7 : FitsSigned w128 c.gap-2.result = search rules in
    let f8 : FitsSigned w128 c.area-run.result = search rules in
    let f9 : FitsSigned w128 c.cross.result = search rules in
    let e1 = simp to_z-of_z at c.span.ensures.value in
    let e2 = simp to_z-of_z at c.scaled.ensures.value in
    let e3 = simp to_z-of_z at c.gap.ensures.value in
    let e4 = simp to_z-of_z at c.area-rise.ensures.value in
    let e5 = simp to_z-of_z at c.span-2.ensures.value in
    let e6 = simp to_z-of_z at c.scaled-2.ensures.value in
    let e7 = simp to_z-of_z at c.gap-2.ensures.value in
    let e8 = simp to_z-of_z at c.area-run.ensures.value in
    let e9 = simp to_z-of_z at c.cross.ensures in
    simp to_z-of_z (e9 ∙ rw (e4, e8, e1, e3, e2, e5, e7, e6) refl)
