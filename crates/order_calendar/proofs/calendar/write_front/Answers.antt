use Rattle.std.proofs.Common.{◌++◌, ◌∙◌, ℕ, ap, map, refl, sym}
use Rattle.ical_text.specs.Calendar.{head_text}
use Rattle.order_table.specs.Made.{searched}
use Rattle.order_table.specs.Ready.{found_in}
use Rattle.outcome.proofs.Streams.{cut_first, then_writes}
use Rattle.order_calendar.specs.Pieces.{days_text, sheet_seen}
use Rattle.order_calendar.proofs.calendar.write_front.Goals as goal

pub returns-in-Ok-clause-writes : goal.returns-in-Ok-clause-writes
returns-in-Ok-clause-writes g c =
    let s = sheet_seen c.args.sheet.now in
    let ready = c.args.ready.now in
    let f = searched ready.sky.sun ready.sky.district ready.sky.root in
    then_writes {X = ℕ} c.as_bytes.result.now (days_text s (map f c.deref.result.now)) (head_text ++ days_text s (found_in ready))
    c.write_together.result _ _ _ _ _ _
    (ap (λ t. t ++ days_text s (found_in ready)) (sym (c.as_bytes.ensures.value ∙ c.calendar_head.ensures))
    ∙ ap (λ ds. c.as_bytes.result.now ++ days_text s (map f ds)) (sym c.deref.ensures.value))
    c.in-Ok.ensures.ok c.in-Ok.ensures.later c.write_together.ensures.writes

pub returns-in-Err-clause-writes : goal.returns-in-Err-clause-writes
returns-in-Err-clause-writes g c =
    let s = sheet_seen c.args.sheet.now in
    cut_first {X = ℕ} head_text (days_text s (found_in c.args.ready.now)) _ c.as_bytes.result.now _ _ _ _ _ refl
    (c.as_bytes.ensures.value ∙ c.calendar_head.ensures) refl c.write_all.ensures.later c.in-Err.ensures.failed c.in-Err.ensures.part
