use Rattle.std.proofs.Common.{rules, refl, FitsSigned}
use Rattle.std.specs.Int.{w64, w128}
use Rattle.std.proofs.lemmas.Int.{to_z-of_z}
use Rattle.plane_edges.proofs.edge_points.corner.Goals as goal

pub returns : goal.returns
returns c =
    let x : FitsSigned w64 c.args.r.now.x0 = search rules in
    let y : FitsSigned w64 c.args.r.now.y0 = search rules in
    let x' : FitsSigned w128 c.args.r.now.x0 = search rules in
    let y' : FitsSigned w128 c.args.r.now.y0 = search rules in
    simp to_z-of_z refl
