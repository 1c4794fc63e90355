-- What is true of the calendars of orders.
use Rattle.std.specs.Prelude.{Ok}
use Rattle.ical_text.specs.Laws.{Reads}
use Rattle.ical_text.specs.Lines.{joined_lines}
use Rattle.order_rule.specs.Asked.{Asked}
use Rattle.order_rule.specs.Rule.{IsOrder}
use Rattle.order_calendar.specs.Calendar.{calendar_of, events_of}

-- the calendar of every order is read as its events, in order
abbrev pub CalendarsAreReadAgain : Type 0
CalendarsAreReadAgain = (o : Asked) → IsOrder o → Reads (joined_lines (calendar_of o)) (Ok (events_of o))
