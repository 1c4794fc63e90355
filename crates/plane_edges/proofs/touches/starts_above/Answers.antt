use Rattle.std.proofs.Common.{rules, FitsSigned, refl}
use Rattle.std.specs.Int.{w64, w128}
use Rattle.std.proofs.lemmas.Int.{to_z-of_z}
use Rattle.plane_edges.proofs.touches.starts_above.Goals as goal

pub returns : goal.returns
returns c =
    let y : FitsSigned w64 c.args.edge.now.ya = search rules in
    let b : FitsSigned w128 c.args.p.now.b = search rules in
    let d : FitsSigned w128 c.args.p.now.d = search rules in
    let f : FitsSigned w128 c.scaled.result = search rules in
    let e = simp to_z-of_z at c.scaled.ensures.value in
    simp to_z-of_z (rw e refl)
