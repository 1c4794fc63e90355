use Rattle.std.proofs.Common.{◌∙◌, ap, sym, Ok}
use Rattle.ical_text.proofs.ReadingLemmas.{ended, whole}
use Rattle.ical_text.proofs.reader.Reader.finish.Goals as goal

pub returns-in-Some : goal.returns-in-Some
returns-in-Some c = ended c.args.self _ (sym c.in-Some.is ∙ c.end_fault.ensures)

pub returns-in-None : goal.returns-in-None
returns-in-None c =
    ended c.args.self _ (sym c.in-None.is ∙ c.end_fault.ensures) ∙ (whole c.args.self.events.items ∙ ap (λ xs. Ok xs) (sym c.new.ensures))
