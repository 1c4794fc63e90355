use Rattle.std.proofs.Common.{FitsSigned, sym}
use Rattle.std.specs.Int.{w64}
use Rattle.std.proofs.lemmas.Int.{to_z-of_z}
use Rattle.region.proofs.Keeping.{keep_one}
use Rattle.region.proofs.keeps.keep_edge.Goals as goal

pub returns-in_ok-push : goal.returns-in_ok-push
returns-in_ok-push c =
    let low : FitsSigned w64 c.args.low = c.ranges.low in
    let high : FitsSigned w64 c.args.high = c.ranges.high in
    let r = simp to_z-of_z at c.if-reaches.ensures in
    rw c.in_ok-push.ensures.items (keep_one c.args.edges.now.items c.args.edge c.args.low c.args.high (sym r))
