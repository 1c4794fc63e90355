use Rattle.std.proofs.Common.{refl}
use Rattle.order_table.specs.Table.{days_text}
use Rattle.outcome.proofs.Streams.{cut_first, then_writes}
use Rattle.shown_table.specs.declared.bad.Shown.{Shown}
use Rattle.shown_table.specs.Made.{days_in, front_in}
use Rattle.shown_table.proofs.table.show_front.Goals as goal

pub returns-in-Ok-clause-writes : goal.returns-in-Ok-clause-writes
returns-in-Ok-clause-writes g c =
    let ready = c.args.ready.now in
    let text = c.args.lines.now.text.now in
    then_writes {X = Shown} c.deref.result.now (days_text (days_in ready.sky.sun ready.sky.district ready.sky.root c.deref-in-Ok.result.now text).days) (front_in ready text)
    c.show_days.result _ _ _ _ _ _ (rw (c.deref.ensures.value, c.deref-in-Ok.ensures.value) refl) c.in-Ok.ensures.ok c.in-Ok.ensures.later
    c.show_days.ensures.writes

pub returns-in-Err-clause-writes : goal.returns-in-Err-clause-writes
returns-in-Err-clause-writes g c =
    let ready = c.args.ready.now in
    let text = c.args.lines.now.text.now in
    cut_first {X = Shown} c.deref.result.now (days_text (days_in ready.sky.sun ready.sky.district ready.sky.root ready.days.items text).days) (front_in ready text)
    c.deref.result.now _ _ _ _ _ (rw c.deref.ensures.value refl) refl refl c.in-Err.ensures.later c.in-Err.ensures.failed c.in-Err.ensures.part
