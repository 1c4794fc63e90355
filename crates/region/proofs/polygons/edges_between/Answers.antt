use Rattle.std.proofs.Common.{◌≡◌, [], drop, FitsSigned, arith}
use Rattle.std.specs.Int.{w64}
use Rattle.std.proofs.lemmas.Int.{to_z-of_z}
use Rattle.std.proofs.lemmas.Grind.{common_steps}
use Rattle.region.proofs.Keeping.{edges_done}
use Rattle.region.proofs.polygons.edges_between.Goals as goal

pub returns : goal.returns
returns c =
    let low : FitsSigned w64 c.args.low = c.ranges.low in
    let high : FitsSigned w64 c.args.high = c.ranges.high in
    let none : drop c.loop-polygon.polygon-index c.args.polygons.now ≡ [] = grind (arith, common_steps) in
    let all = simp to_z-of_z at c.loop-polygon.invariant.1 in
    edges_done c.args.polygons.now c.args.low c.args.high c.loop-polygon.edges.items c.loop-polygon.number (rw none at all)
