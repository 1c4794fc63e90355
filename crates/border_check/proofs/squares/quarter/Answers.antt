use Rattle.std.proofs.Common.{rules, FitsSigned}
use Rattle.std.specs.Int.{w64}
use Rattle.std.proofs.lemmas.Int.{to_z-of_z}
use Rattle.border_check.proofs.Nearness.{quarter_near}
use Rattle.border_check.proofs.squares.quarter.Goals as goal

pub returns-clause-near : goal.returns-clause-near
returns-clause-near c =
    let s = c.args.s.now in
    let x : FitsSigned w64 s.x = search rules in
    let y : FitsSigned w64 s.y = search rules in
    let f : FitsSigned w64 c.side_of-half.result = search rules in
    let fx : FitsSigned w64 c.start_of.result = search rules in
    let fy : FitsSigned w64 c.start_of-2.result = search rules in
    let ex = simp to_z-of_z at c.start_of.ensures in
    let ey = simp to_z-of_z at c.start_of-2.ensures in
    simp to_z-of_z (rw (ex, ey, c.side_of-half.ensures.value) (quarter_near s c.args.east c.args.north c.requires.near c.requires.large))
