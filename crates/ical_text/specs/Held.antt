-- What the reader holds of the lines that it has read.
use Rattle.std.specs.Prelude.{List, ℕ, Result, reverse}
use Rattle.ical_text.specs.declared.event.Event.{Event}
use Rattle.ical_text.specs.declared.fault.IcalFault.{IcalFault}
use Rattle.ical_text.specs.declared.reader.Reader.{Reader}
use Rattle.ical_text.specs.Reading.{Place, reading_from, with_events}

-- the reader keeps the innermost component last
abbrev pub place_of : Reader → Place
place_of r = record { names = reverse r.names.items; own = r.own }

-- its answer if these lines follow
abbrev pub reading_of : Reader → List (List ℕ) → Result (List Event) IcalFault
reading_of r lines = with_events r.events.items (reading_from r.lines (place_of r) lines)
