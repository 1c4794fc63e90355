use Rattle.std.proofs.Common.{rules, FitsSigned, Option, ap}
use Rattle.std.proofs.Math.IntN.{ℤ, ◌*ℤ◌}
use Rattle.std.specs.Int.{w64, w128}
use Rattle.std.specs.Option.{option_map}
use Rattle.std.proofs.lemmas.Int.{to_z-of_z}
use Rattle.plane_edges.specs.Plane.{Place}
use Rattle.plane_edges.proofs.edge_points.at_latitude.Goals as goal

pub returns-in-Some : goal.returns-in-Some
returns-in-Some c =
    let xa : FitsSigned w64 c.args.edge.now.xa = search rules in
    let ya : FitsSigned w64 c.args.edge.now.ya = search rules in
    let xb : FitsSigned w64 c.args.edge.now.xb = search rules in
    let yb : FitsSigned w64 c.args.edge.now.yb = search rules in
    let x0 : FitsSigned w64 c.args.r.now.x0 = search rules in
    let x1 : FitsSigned w64 c.args.r.now.x1 = search rules in
    let y0 : FitsSigned w64 c.args.r.now.y0 = search rules in
    let y1 : FitsSigned w64 c.args.r.now.y1 = search rules in
    let y : FitsSigned w64 c.args.y = c.ranges.y in
    let value : FitsSigned w128 c.in-Some.crossing.value = search rules in
    let d : FitsSigned w128 c.in-Some.crossing.d = search rules in
    let scaled : FitsSigned w128 c.scaled.result = search rules in
    let e = simp to_z-of_z at c.in-Some.ensures in
    let s = simp to_z-of_z at c.scaled.ensures.value in
    simp to_z-of_z (rw s (ap (λ (o : Option (ℤ × ℤ)). option_map {U = Place} (λ pair. record { a = pair.0; b = c.args.y *ℤ pair.1; d = pair.1 }) o) e))

pub returns-in-None : goal.returns-in-None
returns-in-None c =
    let xa : FitsSigned w64 c.args.edge.now.xa = search rules in
    let ya : FitsSigned w64 c.args.edge.now.ya = search rules in
    let xb : FitsSigned w64 c.args.edge.now.xb = search rules in
    let yb : FitsSigned w64 c.args.edge.now.yb = search rules in
    let x0 : FitsSigned w64 c.args.r.now.x0 = search rules in
    let x1 : FitsSigned w64 c.args.r.now.x1 = search rules in
    let y0 : FitsSigned w64 c.args.r.now.y0 = search rules in
    let y1 : FitsSigned w64 c.args.r.now.y1 = search rules in
    let y : FitsSigned w64 c.args.y = c.ranges.y in
    let e = simp to_z-of_z at c.in-None.ensures in
    ap (λ (o : Option (ℤ × ℤ)). option_map {U = Place} (λ pair. record { a = pair.0; b = c.args.y *ℤ pair.1; d = pair.1 }) o) e
