use Rattle.std.proofs.Common.{ℕ, map, refl}
use Rattle.outcome.proofs.Streams.{then_writes}
use Rattle.set_table.specs.Made.{searched}
use Rattle.set_table.specs.Ready.{front_of}
use Rattle.set_table.specs.Table.{set_days_text}
use Rattle.set_table.proofs.table.write_front.Goals as goal

pub returns-in-Ok-clause-writes : goal.returns-in-Ok-clause-writes
returns-in-Ok-clause-writes g c =
    let ready = c.args.ready.now in
    then_writes {X = ℕ} c.deref.result.now (set_days_text (map (searched c.deref-in-Ok.result.now) c.deref-in-Ok-2.result.now)) (front_of ready)
    c.write_all_days.result _ _ _ _ _ _ (rw (c.deref.ensures.value, c.deref-in-Ok.ensures.value, c.deref-in-Ok-2.ensures.value) refl)
    c.in-Ok.ensures.ok c.in-Ok.ensures.later c.write_all_days.ensures.writes
