use Rattle.std.proofs.Common.{rules, FitsSigned, refl}
use Rattle.std.specs.Int.{w64}
use Rattle.std.proofs.lemmas.Int.{to_z-of_z}
use Rattle.ring_survey.proofs.extents.widened.Goals as goal

pub returns-in-Some : goal.returns-in-Some
returns-in-Some c =
    let west : FitsSigned w64 c.in-Some.b.west = search rules in
    let east : FitsSigned w64 c.in-Some.b.east = search rules in
    let south : FitsSigned w64 c.in-Some.b.south = search rules in
    let north : FitsSigned w64 c.in-Some.b.north = search rules in
    let x : FitsSigned w64 c.args.p.0 = search rules in
    let y : FitsSigned w64 c.args.p.1 = search rules in
    let f1 : FitsSigned w64 c.min.result = search rules in
    let f2 : FitsSigned w64 c.max.result = search rules in
    let f3 : FitsSigned w64 c.min-in-Some.result = search rules in
    let f4 : FitsSigned w64 c.max-in-Some.result = search rules in
    let e1 = simp to_z-of_z at c.min.ensures.value in
    let e2 = simp to_z-of_z at c.max.ensures.value in
    let e3 = simp to_z-of_z at c.min-in-Some.ensures.value in
    let e4 = simp to_z-of_z at c.max-in-Some.ensures.value in
    simp to_z-of_z (rw (c.in-Some.is, e1, e2, e3, e4) refl)
