use Rattle.std.proofs.Common.{rules, FitsSigned}
use Rattle.std.specs.Int.{w64}
use Rattle.std.proofs.lemmas.Int.{to_z-of_z}
use Rattle.region.proofs.keeps.reaches.Goals as goal

pub returns : goal.returns
returns c =
    let ya : FitsSigned w64 c.args.edge.now.ya = search rules in
    let yb : FitsSigned w64 c.args.edge.now.yb = search rules in
    let low : FitsSigned w64 c.args.low = c.ranges.low in
    let high : FitsSigned w64 c.args.high = c.ranges.high in
    let a = simp to_z-of_z at c.are_below.ensures in
    let b = simp to_z-of_z at c.are_above.ensures in
    rw (a, b) at c.neither.ensures
