use Rattle.std.proofs.Common.{rules, ◌^◌, pos, FitsSigned}
use Rattle.std.specs.Int.{w64, w128}
use Rattle.std.proofs.lemmas.Int.{to_z-of_z}
use Rattle.plane_edges.proofs.OnEdge.{progress_within}
use Rattle.plane_edges.proofs.crossings.part.Goals as goal

pub returns-clause-within : goal.returns-clause-within
returns-clause-within c =
    let u : FitsSigned w64 c.args.u = c.ranges.u in
    let v : FitsSigned w64 c.args.v = c.ranges.v in
    let z : FitsSigned w64 c.args.z = c.ranges.z in
    let f : FitsSigned w64 c.progress.result = search rules in
    let g : FitsSigned w128 c.progress.result = search rules in
    let e = simp to_z-of_z at c.progress.ensures in
    simp to_z-of_z (rw e (progress_within (pos (2 ^ 29)) c.args.u c.args.v c.args.z c.requires.enclosed c.requires.span))
