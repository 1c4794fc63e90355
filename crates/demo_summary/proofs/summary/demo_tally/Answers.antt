use Rattle.std.proofs.Common.{◌∙◌, ap, arith, length}
use Rattle.order_rule.specs.Asked.{Asked, asked_of}
use Rattle.order_table.proofs.DayLemmas.{days_made}
use Rattle.order_table.proofs.TableLemmas.{ready_is}
use Rattle.order_table.specs.Trees.{table_of_trees}
use Rattle.demo_summary.specs.Summary.{tally_of}
use Rattle.demo_summary.proofs.summary.demo_tally.Goals as goal

pub search_days-requires-clause-short : goal.search_days-requires-clause-short
search_days-requires-clause-short g c = λ κs lives.
    let order = c.in_ok-order.order in
    let made = days_made (asked_of order) c.in_ok-ready.ready.days.items c.in_ok-ready.ensures.days order.one_each in
    let few = order.few_days in
    omega (arith, ap length c.deref.ensures.value, made, few)

pub tally_of-requires-clause-few : goal.tally_of-requires-clause-few
tally_of-requires-clause-few g c =
    let order = c.in_ok-order.order in
    let made = days_made (asked_of order) c.in_ok-ready.ready.days.items c.in_ok-ready.ensures.days order.one_each in
    let few = order.few_days in
    omega (arith, made, few)

pub returns : goal.returns
returns g c =
    c.tally_of.ensures ∙ ap tally_of (ready_is (asked_of c.in_ok-order.order) c.in_ok-ready.ready c.in_ok-ready.ensures)
    ∙ ap (λ (o : Asked). tally_of (table_of_trees o)) c.in_ok-order.ensures
