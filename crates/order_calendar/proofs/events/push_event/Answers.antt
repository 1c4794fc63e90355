use Rattle.std.proofs.Common.{◌∙◌, ◌++◌, FitsSigned, ap, rules, w32, w64}
use Rattle.std.proofs.lemmas.Int.{to_z-of_z}
use Rattle.method_table.specs.Row.{row_of}
use Rattle.order_calendar.specs.Pieces.{sheet_seen}
use Rattle.order_calendar.proofs.PieceLemmas.{event_made, no_event}
use Rattle.order_calendar.proofs.events.push_event.Goals as goal

pub returns-in_ok-extend_from_slice : goal.returns-in_ok-extend_from_slice
returns-in_ok-extend_from_slice c =
    let sheet = c.args.sheet.now in
    let number : FitsSigned w32 c.args.day.now.number = search rules in
    let from : FitsSigned w32 c.args.sheet.now.from_day = search rules in
    let west : FitsSigned w64 c.args.sheet.now.west = search rules in
    let south : FitsSigned w64 c.args.sheet.now.south = search rules in
    c.in_ok-extend_from_slice.ensures.items
    ∙ ap (λ t. c.args.text.now.items ++ t)
    (event_made (sheet_seen sheet) c.args.day.now.number (row_of c.args.problem.now) c.in-Minute.rank c.args.entry.now c.deref.result.now _
    c.in-Minute.is c.deref.ensures (c.deref-in-Minute.ensures.value ∙ (simp to_z-of_z at c.in_ok-event.ensures)))

pub returns-in_default : goal.returns-in_default
returns-in_default c = no_event (sheet_seen c.args.sheet.now) c.args.day.now.number (row_of c.args.problem.now) c.args.entry.now _ c.in_default.not-Minute
