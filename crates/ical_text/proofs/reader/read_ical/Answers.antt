use Rattle.std.proofs.Common.{◌∙◌, ◌≡◌, ap, sym, []}
use Rattle.ical_text.specs.Held.{reading_of}
use Rattle.ical_text.specs.Lines.{joined_lines}
use Rattle.ical_text.specs.Reading.{reading}
use Rattle.ical_text.proofs.LineLemmas.{joined_none}
use Rattle.ical_text.proofs.ReadingLemmas.{empty_is, finished}
use Rattle.ical_text.proofs.YearLemmas.{in_years}
use Rattle.ical_text.proofs.reader.read_ical.Goals as goal
use Rattle.ical_text.proofs.reader.read_ical.Goals.{then-not-is_empty+in_ok-read_lines, else-not-is_empty}

pub returns-clause-reading : goal.returns-clause-reading
returns-clause-reading c =
    let bytes = c.args.bytes.now in
    let all : reading (joined_lines bytes) ≡ reading_of c.if-not-is_empty.reader [] =
    elim c.if-not-is_empty.branch [
      | then-not-is_empty+in_ok-read_lines w ↦
          sym (c.new-reader.ensures.reading (joined_lines bytes)) ∙ (w.in_ok-read_lines.ensures.ok ∙ ap (λ r. reading_of r []) (sym w.reader-is))
      | else-not-is_empty w ↦
          ap (λ xs. reading (joined_lines xs)) (empty_is bytes c.is_empty.result c.is_empty.ensures w.if-not-is_empty.false)
          ∙ (ap reading joined_none ∙ (sym (c.new-reader.ensures.reading []) ∙ ap (λ r. reading_of r []) (sym w.reader-is)))
    ] in
    finished c.finish.result _ _ all c.finish.ensures

pub returns-clause-moments : goal.returns-clause-moments
returns-clause-moments c = in_years c.args.bytes.now c.finish.result (returns-clause-reading c)
