use Rattle.std.proofs.Common.{FitsSigned, rules, w32}
use Rattle.std.proofs.lemmas.Int.{to_z-of_z}
use Rattle.order_rule.specs.Asked.{asked_of}
use Rattle.order_table.proofs.DayLemmas.{day_limits, interval_known, rows_are}
use Rattle.order_table.proofs.ready.day_problems.Goals as goal

pub problems-requires-clause-interval_known : goal.problems-requires-clause-interval_known
problems-requires-clause-interval_known c = interval_known _ c.interval.result c.interval.ensures

pub returns-clause-rows : goal.returns-clause-rows
returns-clause-rows c =
    let noon : FitsSigned w32 c.noon_on.result = search rules in
    let interval : FitsSigned w32 c.interval.result = search rules in
    let day : FitsSigned w32 c.args.day = c.ranges.day in
    let offset : FitsSigned w32 c.args.offset = c.ranges.offset in
    rows_are (asked_of c.args.order.now) c.args.day c.args.offset c.noon_on.result c.interval.result _
    (simp to_z-of_z at c.problems.ensures) (simp to_z-of_z at c.noon_on.ensures.value) (simp to_z-of_z at c.interval.ensures)

pub returns-clause-limits : goal.returns-clause-limits
returns-clause-limits c =
    day_limits (asked_of c.args.order.now) c.args.day c.args.offset c.problems.result c.requires.early c.requires.late c.requires.offset c.args.order.now.low
    (returns-clause-rows c)
