use Rattle.std.proofs.Common.{◌∙◌, ◌++◌, ap, arith, refl, sym, ℕ}
use Rattle.std.specs.List.{flat_map}
use Rattle.order_rule.specs.Asked.{asked_of}
use Rattle.order_table.proofs.DayLemmas.{days_made}
use Rattle.order_covering.specs.Covering.{covering_of}
use Rattle.order_covering.specs.Made.{written}
use Rattle.order_covering.proofs.CoveringLemmas.{count_if, covering_is}
use Rattle.outcome.proofs.Streams.{cut_first, then_writes}
use Rattle.order_covering.proofs.days.write_covering.Goals as goal

pub write_days-requires-clause-short : goal.write_days-requires-clause-short
write_days-requires-clause-short g c =
    let made = days_made (asked_of c.args.order) c.in-Ok-prepare.ready.days.items c.in-Ok-prepare.ensures.days c.args.order.one_each in
    let few = c.args.order.few_days in
    omega (arith, made, few, c.deref-in-Ok-write_all.ensures.len)

pub returns-in-Ok-write_all-clause-writes : goal.returns-in-Ok-write_all-clause-writes
returns-in-Ok-write_all-clause-writes g c =
    let ready = c.in-Ok-prepare.ready in
    let f = written c.args.form ready.sky.sun ready.sky.district ready.sky.root in
    then_writes {X = ℕ} c.deref.result.now (flat_map f c.deref-in-Ok-write_all.result.now) (covering_of c.args.form (asked_of c.args.order))
    c.write_days.result _ _ _ _ _ _
    (covering_is c.args.form (asked_of c.args.order) ready c.deref.result.now c.in-Ok-prepare.ensures (c.deref.ensures.value ∙ c.in-Ok.ensures)
    ∙ ap (λ days. c.deref.result.now ++ flat_map f days) (sym c.deref-in-Ok-write_all.ensures.value))
    c.in-Ok-write_all.ensures.ok c.in-Ok-write_all.ensures.later c.write_days.ensures.writes

pub returns-in-Ok-write_all-clause-count : goal.returns-in-Ok-write_all-clause-count
returns-in-Ok-write_all-clause-count g c =
    count_if (asked_of c.args.order) c.in-Ok-prepare.ready c.deref-in-Ok-write_all.result.now c.write_days.result c.in-Ok-prepare.ensures
    c.deref-in-Ok-write_all.ensures.value c.write_days.ensures.count

pub returns-clause-writes : goal.returns-clause-writes
returns-clause-writes g c =
    let ready = c.in-Ok-prepare.ready in
    cut_first {X = ℕ} c.deref.result.now (flat_map (written c.args.form ready.sky.sun ready.sky.district ready.sky.root) ready.days.items)
    (covering_of c.args.form (asked_of c.args.order)) c.deref.result.now _ _ _ _ _
    (covering_is c.args.form (asked_of c.args.order) ready c.deref.result.now c.in-Ok-prepare.ensures (c.deref.ensures.value ∙ c.in-Ok.ensures))
    refl refl c.in-Err.ensures.later c.in-Err.ensures.failed c.in-Err.ensures.part
