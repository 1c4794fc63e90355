use Rattle.std.proofs.Common.{FitsSigned, w64, ◌∙◌, arith}
use Rattle.std.proofs.lemmas.Int.{to_z-of_z}
use Rattle.sun_verdict.proofs.Digits.{fits_within}
use Rattle.sun_verdict.proofs.VerdictLemmas.{verdict_is}
use Rattle.sun_verdict.proofs.verdict.verdict_on.Goals as goal

pub returns : goal.returns
returns c =
    let r = c.args.request.now in
    let minute_fits : FitsSigned w64 c.args.request.now.minute = fits_within 53_200_000 r.minute (omega arith) c.requires.minute in
    let lon_fits : FitsSigned w64 c.args.request.now.lon = fits_within 360_000_000 r.lon (omega arith) c.requires.lon in
    let lat_fits : FitsSigned w64 c.args.request.now.lat = fits_within 65_000_000 r.lat (omega arith) c.requires.lat in
    let minute = simp to_z-of_z at c.one_minute-minutes.ensures in
    let place = simp to_z-of_z at c.one_place-place.ensures in
    c.side.ensures ∙ verdict_is r _ _ _ c.value.ensures minute place
