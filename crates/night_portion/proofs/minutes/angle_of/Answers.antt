use Rattle.std.proofs.Common.{arith}
use Rattle.std.proofs.lemmas.Int.{ints}
use Rattle.night_portion.proofs.minutes.angle_of.Goals as goal

pub returns-in-Above-clause-not_negative : goal.returns-in-Above-clause-not_negative
returns-in-Above-clause-not_negative c =
    let range = c.requires.above _ _ c.in-Above.is in omega (arith, ints, range.not_negative, range.ordered, range.small)

pub returns-in-Above-clause-small : goal.returns-in-Above-clause-small
returns-in-Above-clause-small c =
    let range = c.requires.above _ _ c.in-Above.is in omega (arith, ints, range.not_negative, range.ordered, range.small)

pub returns-in-Below-clause-not_negative : goal.returns-in-Below-clause-not_negative
returns-in-Below-clause-not_negative c =
    let range = c.requires.below _ _ c.in-Below.is in omega (arith, ints, range.not_negative, range.ordered, range.small)

pub returns-in-Below-clause-small : goal.returns-in-Below-clause-small
returns-in-Below-clause-small c =
    let range = c.requires.below _ _ c.in-Below.is in omega (arith, ints, range.not_negative, range.ordered, range.small)
