use Rattle.order_rule.specs.Asked.{asked_of}
use Rattle.order_table.proofs.RightLemmas.{tables_are_right}
use Rattle.order_table.proofs.WholeTable.{days_stopped, few_days, head_stopped, table_counted, table_written}
use Rattle.worker_table.proofs.table.write_table.Goals as goal

pub returns-in-Err-clause-writes : goal.returns-in-Err-clause-writes
returns-in-Err-clause-writes g c = head_stopped (asked_of c.args.order) c.in-Err.stop c.in-Err.ensures.writes

pub returns-in-Err-clause-right : goal.returns-in-Err-clause-right
returns-in-Err-clause-right g c = tables_are_right (asked_of c.args.order) c.keeps_the_rule.ensures

pub write_together-requires-clause-few : goal.write_together-requires-clause-few
write_together-requires-clause-few g c κs within = few_days c.args.order c.in-Ok.ready c.in-Ok.ensures.ready c.deref.result.now c.deref.ensures.value

pub returns-in-Err-write_together-clause-writes : goal.returns-in-Err-write_together-clause-writes
returns-in-Err-write_together-clause-writes g c =
    days_stopped (asked_of c.args.order) c.in-Ok.ready c.in-Ok.ensures.ready c.deref.result.now c.deref.ensures.value c.in-Ok.ensures.writes
    c.in-Err-write_together.stop c.in-Err-write_together.ensures.writes

pub returns-in-Err-write_together-clause-right : goal.returns-in-Err-write_together-clause-right
returns-in-Err-write_together-clause-right g c = tables_are_right (asked_of c.args.order) c.keeps_the_rule.ensures

pub returns-clause-writes : goal.returns-clause-writes
returns-clause-writes g c =
    table_written (asked_of c.args.order) c.in-Ok.ready c.in-Ok.ensures.ready c.deref.result.now c.deref.ensures.value c.in-Ok.ensures.writes
    c.in-Ok-write_together.undecided c.in-Ok-write_together.ensures.count c.in-Ok-write_together.ensures.writes c.write_end.result c.write_end.ensures.writes

pub returns-clause-count : goal.returns-clause-count
returns-clause-count g c =
    table_counted (asked_of c.args.order) c.in-Ok.ready c.in-Ok.ensures.ready c.deref.result.now c.deref.ensures.value
    c.in-Ok-write_together.undecided c.in-Ok-write_together.ensures.count c.write_end.result c.write_end.ensures.count

pub returns-clause-right : goal.returns-clause-right
returns-clause-right g c = tables_are_right (asked_of c.args.order) c.keeps_the_rule.ensures
