use Rattle.std.proofs.Common.{arith}
use Rattle.night_portion.proofs.DayLemmas.{repeated_are, repeated_in_limits}
use Rattle.night_portion.proofs.sun.repeated.Goals as goal

pub returns-clause-rows : goal.returns-clause-rows
returns-clause-rows c =
    repeated_are c.args.sun.now c.index-sun-0.result c.index-sun-1.result c.told-sun

pub returns-clause-limits : goal.returns-clause-limits
returns-clause-limits c =
    repeated_in_limits _ _ (c.requires 0 c.index-sun-0.result (omega (arith, c.told-sun))) (c.requires 1 c.index-sun-1.result (omega (arith, c.told-sun)))
