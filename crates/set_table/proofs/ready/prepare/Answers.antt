use Rattle.std.proofs.Common.{arith}
use Rattle.order_rule.specs.Asked.{asked_of}
use Rattle.order_table.proofs.DayLemmas.{days_made}
use Rattle.set_table.proofs.ready.prepare.Goals as goal

pub index-requires : goal.index-requires
index-requires c =
    let whole = c.args.set.whole in
    let many = days_made (asked_of whole) c.in_ok-days.days.items c.in_ok-days.ensures whole.one_each in
    let some = whole.some_days in
    omega (arith, many, some)
