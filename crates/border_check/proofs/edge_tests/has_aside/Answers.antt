use Rattle.std.proofs.Common.{rules, FitsSigned, refl, ◌∙◌}
use Rattle.std.specs.Int.{w64, w128}
use Rattle.std.proofs.lemmas.Int.{to_z-of_z}
use Rattle.border_check.proofs.edge_tests.has_aside.Goals as goal

pub returns : goal.returns
returns c =
    let x0 : FitsSigned w64 c.args.r.now.x0 = search rules in
    let x1 : FitsSigned w64 c.args.r.now.x1 = search rules in
    let y0 : FitsSigned w64 c.args.r.now.y0 = search rules in
    let y1 : FitsSigned w64 c.args.r.now.y1 = search rules in
    let f1 : FitsSigned w128 c.side_at-south_west.result = search rules in
    let f2 : FitsSigned w128 c.side_at-south_east.result = search rules in
    let f3 : FitsSigned w128 c.side_at-north_west.result = search rules in
    let f4 : FitsSigned w128 c.side_at-north_east.result = search rules in
    let e1 = simp to_z-of_z at c.side_at-south_west.ensures in
    let e2 = simp to_z-of_z at c.side_at-south_east.ensures in
    let e3 = simp to_z-of_z at c.side_at-north_west.ensures in
    let e4 = simp to_z-of_z at c.side_at-north_east.ensures in
    let left = simp to_z-of_z at c.are_positive.ensures in
    let right = simp to_z-of_z at c.are_negative.ensures in
    c.either.ensures ∙ rw (left, right, e1, e2, e3, e4) refl
