use Rattle.std.proofs.Common.{rules, FitsSigned, sym}
use Rattle.std.specs.Int.{w64, w128}
use Rattle.std.proofs.lemmas.Int.{to_z-of_z}
use Rattle.plane_edges.specs.Views.{box_of, segment_of}
use Rattle.plane_edges.proofs.OnEdge.{start_off, start_in}
use Rattle.plane_edges.proofs.edge_points.at_start.Goals as goal

pub returns-then-not-is_between-2 : goal.returns-then-not-is_between-2
returns-then-not-is_between-2 c =
    let ya : FitsSigned w64 c.args.edge.now.ya = search rules in
    let y0 : FitsSigned w64 c.args.r.now.y0 = search rules in
    let y1 : FitsSigned w64 c.args.r.now.y1 = search rules in
    sym (start_off (box_of c.args.r.now) (segment_of c.args.edge.now) (sym (simp to_z-of_z at c.if-not-is_between-2.ensures)))

pub returns : goal.returns
returns c =
    let xa : FitsSigned w64 c.args.edge.now.xa = search rules in
    let ya : FitsSigned w64 c.args.edge.now.ya = search rules in
    let x0 : FitsSigned w64 c.args.r.now.x0 = search rules in
    let x1 : FitsSigned w64 c.args.r.now.x1 = search rules in
    let y0 : FitsSigned w64 c.args.r.now.y0 = search rules in
    let y1 : FitsSigned w64 c.args.r.now.y1 = search rules in
    let a : FitsSigned w128 c.args.edge.now.xa = search rules in
    let b : FitsSigned w128 c.args.edge.now.ya = search rules in
    simp to_z-of_z
    (sym (start_in (box_of c.args.r.now) (segment_of c.args.edge.now)
    (sym (simp to_z-of_z at c.if-not-is_between.ensures)) (sym (simp to_z-of_z at c.if-not-is_between-2.ensures))))
