use Rattle.std.proofs.Common.{◌≡◌, ◌∙◌, ap, FitsSigned, rules, w32, w64}
use Rattle.std.proofs.lemmas.Int.{to_z-of_z}
use Rattle.method_table.specs.Row.{row_of}
use Rattle.ical_text.specs.Calendar.{description_text, event_of}
use Rattle.ical_text.specs.Moments.{moment_text, stamp_text}
use Rattle.ical_text.proofs.EventLemmas.{event_same}
use Rattle.ical_text.proofs.write.event_text.Goals as goal

pub returns : goal.returns
returns c =
    let day : FitsSigned w32 c.args.day = c.ranges.day in
    let west : FitsSigned w64 c.args.west = c.ranges.west in
    let south : FitsSigned w64 c.args.south = c.ranges.south in
    let from : FitsSigned w32 c.args.from_day = c.ranges.from_day in
    let minute : FitsSigned w64 c.start_of.result = search rules in
    let event = event_of c.args.west c.args.south c.args.day (row_of c.args.p.now) c.args.rank in
    let uid : c.as_slice.result.now ≡ event.uid = c.as_slice.ensures.value ∙ simp to_z-of_z at c.in_ok-uid.ensures in
    let stamp : c.as_bytes.result.now ≡ stamp_text c.args.from_day = c.as_bytes.ensures.value ∙ simp to_z-of_z at c.in_ok-stamp.ensures in
    let start : c.as_bytes-2.result.now ≡ moment_text event.start =
    c.as_bytes-2.ensures.value ∙ (c.in_ok-start.ensures ∙ ap moment_text (to_z-of_z w64 c.start_of.result minute ∙ c.start_of.ensures.value)) in
    let summary : c.as_bytes-3.result.now ≡ event.summary = c.as_bytes-3.ensures.value ∙ c.column_word-summary.ensures in
    let description : c.as_slice-2.result.now ≡ description_text c.args.method c.args.asr c.args.zone.now = c.as_slice-2.ensures.value ∙ c.in_ok-description.ensures in
    c.in_ok-text.ensures ∙ event_same _ _ _ _ _ _ _ _ _ _ uid stamp start summary description
