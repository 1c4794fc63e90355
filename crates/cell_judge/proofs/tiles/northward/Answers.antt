use Rattle.std.proofs.Common.{FitsSigned, rules, w64, arith}
use Rattle.std.proofs.lemmas.Int.{ints, to_z-of_z}
use Rattle.ring_survey.specs.Extent.{latitudes}
use Rattle.cell_judge.proofs.TileLemmas.{least_at_most}
use Rattle.cell_judge.proofs.tiles.northward.Goals as goal

pub reach_from-requires-clause-not_below : goal.reach_from-requires-clause-not_below
reach_from-requires-clause-not_below c =
    let start : FitsSigned w64 c.args.root.now.y = search rules in
    let end : FitsSigned w64 c.north.result = search rules in
    let between = least_at_most (latitudes c.args.district.now) in
    simp to_z-of_z (omega (arith, ints, between, c.north.ensures, c.requires.over.south))
