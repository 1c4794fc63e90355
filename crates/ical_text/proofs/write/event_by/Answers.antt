use Rattle.std.proofs.Common.{◌∙◌, ap, List, ℕ, ◌++◌}
use Rattle.std.specs.Prelude.{codes}
use Rattle.ical_text.specs.Calendar.{description_line, stamp_line, start_line, summary_line, uid_line}
use Rattle.ical_text.specs.Lines.{folded}
use Rattle.ical_text.proofs.EventLemmas.{seven}
use Rattle.ical_text.proofs.write.event_by.Goals as goal

pub returns : goal.returns
returns c =
    let first = folded (codes "BEGIN:VEVENT") in
    seven first (folded (uid_line c.args.uid.now)) (folded (stamp_line c.args.stamp.now)) (folded (start_line c.args.start.now))
    (folded (summary_line c.args.summary.now)) (folded (description_line c.args.description.now)) (folded (codes "END:VEVENT"))
    c.push_folded.new.text.items c.push_line.new.text.items c.push_line-2.new.text.items c.push_line-3.new.text.items
    c.push_line-4.new.text.items c.push_line-5.new.text.items c.push_folded-2.new.text.items
    (c.in_ok-push_folded.ensures ∙ ap (λ (x : List ℕ). x ++ first) c.new-text.ensures.items) c.in_ok-push_line.ensures c.in_ok-push_line-2.ensures
    c.in_ok-push_line-3.ensures c.in_ok-push_line-4.ensures c.in_ok-push_line-5.ensures c.in_ok-push_folded-2.ensures
