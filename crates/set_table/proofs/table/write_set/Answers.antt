use Rattle.std.proofs.Common.{◌∙◌, ◌++◌, ℕ, [], ap, append-nil, arith, length, refl, sym}
use Rattle.source_sink.proofs.Transfers.{adds_more}
use Rattle.order_rule.specs.Asked as order
use Rattle.order_table.specs.Trees.{root_over}
use Rattle.order_table.proofs.DayLemmas.{days_made}
use Rattle.outcome.proofs.Streams.{adds_nothing, stopped, written}
use Rattle.set_reader.specs.Asked.{asked_of}
use Rattle.set_table.specs.Ready.{found_in, front_of}
use Rattle.set_table.specs.Table.{set_days_undecided, set_end_line}
use Rattle.set_table.specs.Trees.{table_of}
use Rattle.set_search.proofs.ScopeLemmas.{one_each, one_root}
use Rattle.set_table.proofs.MadeLemmas.{count_is, table_is}
use Rattle.set_table.proofs.RightLemmas.{set_is_right}
use Rattle.set_table.proofs.table.write_set.Goals as goal

pub returns-in_default-clause-right : goal.returns-in_default-clause-right
returns-in_default-clause-right g c = set_is_right c.args.set c.keeps_the_rule.ensures

pub write_front-requires-clause-some : goal.write_front-requires-clause-some
write_front-requires-clause-some g c κs within =
    let set = c.args.set in
    let many = one_each set.whole.sun (root_over set.whole.district) c.in-Ok.ready.skies.items set.parts c.in-Ok.ensures.skies in
    let some = set.are_parts.some in
    omega (arith, many, some)

pub write_front-requires-clause-few : goal.write_front-requires-clause-few
write_front-requires-clause-few g c κs within =
    let set = c.args.set in
    let many = one_each set.whole.sun (root_over set.whole.district) c.in-Ok.ready.skies.items set.parts c.in-Ok.ensures.skies in
    let few = set.are_parts.few in
    omega (arith, many, few)

pub write_front-requires-clause-one_root : goal.write_front-requires-clause-one_root
write_front-requires-clause-one_root g c κs within =
    let set = c.args.set in
    one_root set.whole.sun (root_over set.whole.district) c.in-Ok.ready.skies.items set.parts c.in-Ok.ensures.skies

pub write_front-requires-clause-few_days : goal.write_front-requires-clause-few_days
write_front-requires-clause-few_days g c κs within =
    let whole = c.args.set.whole in
    let made = days_made (order.asked_of whole) c.in-Ok.ready.days.items c.in-Ok.ensures.days whole.one_each in
    let few = whole.few_days in
    omega (arith, made, few)

pub returns-in-Err-clause-writes : goal.returns-in-Err-clause-writes
returns-in-Err-clause-writes g c =
    let s = asked_of c.args.set in
    let ready = c.in-Ok.ready in
    stopped {X = ℕ} {Y = ℕ} [] (front_of ready) (set_end_line s.whole.days (length s.parts) (set_days_undecided (found_in ready))) (table_of s) c.in-Err.stop _ _ _ _ _ _
    (table_is s ready _ _ c.in-Ok.ensures refl refl) (adds_nothing _) (omega arith) c.in-Err.ensures.writes

pub returns-in-Err-clause-right : goal.returns-in-Err-clause-right
returns-in-Err-clause-right g c = set_is_right c.args.set c.keeps_the_rule.ensures

pub returns-in-Ok-write_end-clause-writes : goal.returns-in-Ok-write_end-clause-writes
returns-in-Ok-write_end-clause-writes g c =
    let s = asked_of c.args.set in
    let ready = c.in-Ok.ready in
    let undecided = c.in-Ok-write_front.undecided in
    let front = c.in-Ok-write_front.ensures in
    let end = c.in-Ok-write_end.ensures in
    written (table_of s) (table_of s) undecided _ _ _ _ refl (omega (arith, front.writes.later, end.later))
    (adds_more _ _ _ (front_of ready) (set_end_line s.whole.days (length s.parts) undecided) (table_of s) front.writes.whole (rw (sym c.count-districts.ensures) end.whole)
    (table_is s ready undecided _ c.in-Ok.ensures front.count refl))

pub returns-in-Ok-write_end-clause-count : goal.returns-in-Ok-write_end-clause-count
returns-in-Ok-write_end-clause-count g c =
    count_is (asked_of c.args.set) c.in-Ok.ready c.in-Ok-write_front.undecided c.in-Ok.ensures c.in-Ok-write_front.ensures.count

pub returns-in-Ok-write_end-clause-right : goal.returns-in-Ok-write_end-clause-right
returns-in-Ok-write_end-clause-right g c = set_is_right c.args.set c.keeps_the_rule.ensures

pub returns-clause-writes : goal.returns-clause-writes
returns-clause-writes g c =
    let s = asked_of c.args.set in
    let ready = c.in-Ok.ready in
    let undecided = c.in-Ok-write_front.undecided in
    let front = c.in-Ok-write_front.ensures in
    stopped {X = Unit {0}} {Y = ℕ} (front_of ready) (set_end_line s.whole.days (length s.parts) undecided) [] (table_of s) c.in-Err-write_end.stop _ _ _ _ _ _
    (table_is s ready undecided _ c.in-Ok.ensures front.count refl ∙ ap (λ t. front_of ready ++ t) (sym (append-nil (set_end_line s.whole.days (length s.parts) undecided))))
    front.writes.whole front.writes.later (rw (sym c.count-districts.ensures) c.in-Err-write_end.ensures)

pub returns-clause-right : goal.returns-clause-right
returns-clause-right g c = set_is_right c.args.set c.keeps_the_rule.ensures
