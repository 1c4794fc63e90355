use Rattle.std.proofs.Common.{FitsSigned, w64, arith}
use Rattle.std.proofs.lemmas.Int.{to_z-of_z}
use Rattle.meeus_terms.specs.Suns.{grid_sun_of}
use Rattle.sun_verdict.proofs.Digits.{fits_within}
use Rattle.sun_verdict.proofs.VerdictLemmas.{altitude_is, asked_within}
use Rattle.sun_verdict.proofs.verdict.value.Goals as goal

pub returns-in-Altitude : goal.returns-in-Altitude
returns-in-Altitude c =
    let angle = c.in-Altitude.angle in
    let angle_fits : FitsSigned w64 c.in-Altitude.angle =
    fits_within 30_000_000 angle (omega arith) (asked_within c.args.question angle c.in-Altitude.is c.requires) in
    let is_angle = simp to_z-of_z at c.one_angle.ensures.value in
    altitude_is (grid_sun_of c.args.sun) c.args.question angle _ _ _ _ _ c.in-Altitude.is c.altitude_value.ensures c.chosen_sun-sun.ensures is_angle
