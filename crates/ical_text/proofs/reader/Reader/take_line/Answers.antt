use Rattle.std.proofs.Common.{◌∙◌, ◌+◌, ap, sym, refl, inr, Some, None, option_map}
use Rattle.ical_text.specs.Seen.{property_seen}
use Rattle.ical_text.proofs.ReadingLemmas.{refused, taken}
use Rattle.ical_text.proofs.reader.Reader.take_line.Goals as goal

pub returns-in-None-clause-err : goal.returns-in-None-clause-err
returns-in-None-clause-err c =
    inr (λ more. refused c.args.self.now c.args.line.now more None _ (sym c.property_of.ensures ∙ ap (option_map property_seen) c.in-None.is) refl)

pub returns-in-Some-fault_by-clause-err : goal.returns-in-Some-fault_by-clause-err
returns-in-Some-fault_by-clause-err c =
    inr (λ more. refused c.args.self.now c.args.line.now more (Some (property_seen c.in-Some.property)) c.in-Some-fault_by.fault
    (sym c.property_of.ensures ∙ ap (option_map property_seen) c.in-Some.is) (sym c.fault_by.ensures ∙ c.in-Some-fault_by.is))

pub returns-clause-ok : goal.returns-clause-ok
returns-clause-ok c =
    taken c.args.self.now (record { lines = c.go_on.new.self.lines + 1; names = c.go_on.new.self.names; own = c.go_on.new.self.own; events = c.go_on.new.self.events }) c.args.line.now (property_seen c.in-Some.property) (sym c.property_of.ensures ∙ ap (option_map property_seen) c.in-Some.is)
    (sym c.fault_by.ensures ∙ c.in-None-fault_by.is) c.in_ok-go_on.ensures.place c.in_ok-go_on.ensures.events (ap (λ n. n + 1) c.go_on.ensures.lines)
