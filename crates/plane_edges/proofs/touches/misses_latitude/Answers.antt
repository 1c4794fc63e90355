use Rattle.std.proofs.Common.{rules, FitsSigned, not, refl, ap, ◌∙◌}
use Rattle.std.specs.Int.{w64, w128}
use Rattle.std.proofs.lemmas.Int.{to_z-of_z}
use Rattle.plane_edges.proofs.touches.misses_latitude.Goals as goal

pub returns : goal.returns
returns c =
    let u : FitsSigned w64 c.args.edge.now.ya = search rules in
    let v : FitsSigned w64 c.args.edge.now.yb = search rules in
    let z : FitsSigned w128 c.args.p.now.b = search rules in
    let d : FitsSigned w128 c.args.p.now.d = search rules in
    let f1 : FitsSigned w128 c.scaled.result = search rules in
    let f2 : FitsSigned w128 c.scaled-2.result = search rules in
    let e1 = simp to_z-of_z at c.scaled.ensures.value in
    let e2 = simp to_z-of_z at c.scaled-2.ensures.value in
    let e3 = simp to_z-of_z at c.encloses.ensures in
    ap not (e3 ∙ rw (e1, e2) refl)
