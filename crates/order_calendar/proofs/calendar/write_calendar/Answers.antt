use Rattle.std.proofs.Common.{◌≡◌, ◌∙◌, ◌++◌, ℕ, [], IfOk, arith, refl, subst}
use Rattle.ical_text.specs.Calendar.{head_text}
use Rattle.order_rule.specs.Asked.{asked_of}
use Rattle.order_table.specs.Ready.{found_in}
use Rattle.order_table.proofs.DayLemmas.{days_made}
use Rattle.order_table.proofs.RightLemmas.{tables_are_right}
use Rattle.order_table.proofs.TableLemmas.{count_is}
use Rattle.outcome.proofs.Streams.{adds_nothing, stopped, then_writes}
use Rattle.order_calendar.specs.Calendar.{calendar_of}
use Rattle.order_calendar.specs.Pieces.{days_text, sheet_seen}
use Rattle.order_calendar.proofs.PieceLemmas.{calendar_is}
use Rattle.order_calendar.proofs.calendar.write_calendar.Goals as goal

pub returns-in_default-clause-right : goal.returns-in_default-clause-right
returns-in_default-clause-right g c = tables_are_right (asked_of c.args.order) c.keeps_the_rule.ensures

pub returns-in_default-prepare-clause-right : goal.returns-in_default-prepare-clause-right
returns-in_default-prepare-clause-right g c = tables_are_right (asked_of c.args.order) c.keeps_the_rule.ensures

pub write_front-requires-clause-few : goal.write_front-requires-clause-few
write_front-requires-clause-few g c =
    let made = days_made (asked_of c.args.order) c.in-Ok-prepare.ready.days.items c.in-Ok-prepare.ensures.days c.args.order.one_each in
    let few = c.args.order.few_days in
    omega (arith, made, few)

pub returns-in-Err-clause-writes : goal.returns-in-Err-clause-writes
returns-in-Err-clause-writes g c =
    let o = asked_of c.args.order in
    let s = sheet_seen c.in-Ok.sheet in
    let ready = c.in-Ok-prepare.ready in
    stopped {X = ℕ} {Y = ℕ} [] (head_text ++ days_text s (found_in ready)) _ (calendar_of o) c.in-Err.stop _ _ _ _ _ _
    (calendar_is o ready s _ c.in-Ok-prepare.ensures c.in-Ok.ensures refl) (adds_nothing _) (omega arith) c.in-Err.ensures.writes

pub returns-in-Err-clause-right : goal.returns-in-Err-clause-right
returns-in-Err-clause-right g c = tables_are_right (asked_of c.args.order) c.keeps_the_rule.ensures

pub returns-clause-writes : goal.returns-clause-writes
returns-clause-writes g c =
    let o = asked_of c.args.order in
    let s = sheet_seen c.in-Ok.sheet in
    let ready = c.in-Ok-prepare.ready in
    let front = c.in-Ok-write_front.ensures in
    then_writes {X = ℕ} (head_text ++ days_text s (found_in ready)) c.as_bytes.result.now (calendar_of o) c.write_text.result _ _ _ _ _ _
    (calendar_is o ready s _ c.in-Ok-prepare.ensures c.in-Ok.ensures (c.as_bytes.ensures.value ∙ c.calendar_end.ensures))
    front.writes.whole front.writes.later c.write_text.ensures.writes

pub returns-clause-count : goal.returns-clause-count
returns-clause-count g c =
    let o = asked_of c.args.order in
    subst (λ (n : ℕ). IfOk c.write_text.result (λ count. count ≡ n))
    (count_is o c.in-Ok-prepare.ready c.in-Ok-write_front.undecided c.in-Ok-prepare.ensures c.in-Ok-write_front.ensures.count) c.write_text.ensures.count

pub returns-clause-right : goal.returns-clause-right
returns-clause-right g c = tables_are_right (asked_of c.args.order) c.keeps_the_rule.ensures
