use Rattle.std.proofs.Common.{◌≡◌, ◌*ℤ◌, arith, to_z, of_z, w32, w64}
use Rattle.std.proofs.lemmas.Int.{ints}
use Rattle.night_portion.proofs.BoundLemmas.{share_is}
use Rattle.night_portion.proofs.bound.share.Goals as goal

pub returns-clause-share : goal.returns-clause-share
returns-clause-share c =
    let is = share_is c.args.times c.args.minute c.requires.not_negative c.requires.minute in
    let times : to_z w64 (of_z w64 c.args.times) ≡ c.args.times = omega (arith, ints) in
    let minute : to_z w64 (of_z w64 (to_z w32 (of_z w32 c.args.minute))) ≡ c.args.minute = omega (arith, ints) in
    let product : to_z w64 (of_z w64 (c.args.minute *ℤ c.args.times)) ≡ c.args.minute *ℤ c.args.times = omega (arith, ints, is.not_low, is.not_high) in
    rw (times, minute, product) is
