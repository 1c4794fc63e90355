use Rattle.std.proofs.Common.{arith}
use Rattle.order_rule.specs.Asked.{asked_of}
use Rattle.order_table.proofs.DayLemmas.{days_made}
use Rattle.order_table.proofs.ready.prepare.Goals as goal

pub sky_over-requires : goal.sky_over-requires
sky_over-requires c =
    let many = days_made (asked_of c.args.order) c.in_ok-days.days.items c.in_ok-days.ensures c.args.order.one_each in
    let some = c.args.order.some_days in
    record { some = omega (arith, c.deref.ensures.len, many, some) }
