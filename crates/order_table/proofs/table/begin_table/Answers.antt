use Rattle.std.proofs.Common.{◌∙◌, refl}
use Rattle.order_rule.specs.Asked.{asked_of}
use Rattle.order_table.specs.Table.{head_of}
use Rattle.outcome.proofs.Streams.{cut, written}
use Rattle.order_table.proofs.table.begin_table.Goals as goal

pub returns-in-Ok-write_all-clause-writes : goal.returns-in-Ok-write_all-clause-writes
returns-in-Ok-write_all-clause-writes g c =
    written (head_of (asked_of c.args.order)) c.deref.result.now c.in-Ok.ready _ _ _ _ (c.deref.ensures.value ∙ c.in-Ok.ensures.head)
    c.write_all.ensures.later c.in-Ok-write_all.ensures.ok

pub returns-in-Err-clause-writes : goal.returns-in-Err-clause-writes
returns-in-Err-clause-writes g c =
    cut (head_of (asked_of c.args.order)) c.deref.result.now _ _ _ _ _ (c.deref.ensures.value ∙ c.in-Ok.ensures.head) refl
    c.write_all.ensures.later c.in-Err.ensures.failed c.in-Err.ensures.part
