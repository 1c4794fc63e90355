use Rattle.std.proofs.Common.{rules, FitsSigned, refl, ◌∙◌}
use Rattle.std.specs.Int.{w64}
use Rattle.std.proofs.lemmas.Int.{to_z-of_z}
use Rattle.border_check.proofs.edge_tests.changes.Goals as goal

pub returns : goal.returns
returns c =
    let xa : FitsSigned w64 c.args.edge.now.xa = search rules in
    let ya : FitsSigned w64 c.args.edge.now.ya = search rules in
    let xb : FitsSigned w64 c.args.edge.now.xb = search rules in
    let yb : FitsSigned w64 c.args.edge.now.yb = search rules in
    let x0 : FitsSigned w64 c.args.r.now.x0 = search rules in
    let y0 : FitsSigned w64 c.args.r.now.y0 = search rules in
    let x : FitsSigned w64 c.args.x = c.ranges.x in
    let y : FitsSigned w64 c.args.y = c.ranges.y in
    let e1 = simp to_z-of_z at c.crosses.ensures in
    let e2 = simp to_z-of_z at c.crosses-2.ensures in
    let e3 = simp to_z-of_z at c.is_passed-start.ensures in
    let e4 = simp to_z-of_z at c.is_passed-end.ensures in
    c.differ-2.ensures ∙ rw (c.differ-crossed.ensures, c.differ.ensures, e1, e2, e3, e4) refl
