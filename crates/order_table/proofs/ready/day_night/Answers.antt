use Rattle.std.proofs.Common.{FitsSigned, rules, w32}
use Rattle.std.proofs.lemmas.Int.{to_z-of_z}
use Rattle.order_rule.specs.Asked.{asked_of}
use Rattle.order_table.proofs.DayLemmas.{night_made, no_night}
use Rattle.order_table.proofs.ready.day_night.Goals as goal

pub returns-in-Some : goal.returns-in-Some
returns-in-Some c =
    let noon : FitsSigned w32 c.noon_on.result = search rules in
    let day : FitsSigned w32 c.args.day = c.ranges.day in
    let offset : FitsSigned w32 c.args.offset = c.ranges.offset in
    night_made (asked_of c.args.order.now) c.args.day c.args.offset c.noon_on.result c.in-Some.rule _
    (simp to_z-of_z at c.night_problems.ensures.rows) (simp to_z-of_z at c.noon_on.ensures.value) c.in-Some.is

pub returns-in-None : goal.returns-in-None
returns-in-None c = no_night (asked_of c.args.order.now) c.args.day c.args.offset c.in-None.is
