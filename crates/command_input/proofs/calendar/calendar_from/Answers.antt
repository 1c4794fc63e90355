use Rattle.std.proofs.Common.{ap, inl, inr, refl}
use Rattle.ical_text.specs.Lines.{joined_lines}
use Rattle.command_input.specs.Input.{a_calendar, calendar}
use Rattle.command_input.specs.Taken.{of_calendars}
use Rattle.command_input.proofs.InputLemmas.{read_as, read_long, read_not, read_refused, read_whole, some_calendar}
use Rattle.command_input.proofs.calendar.calendar_from.Goals as goal

pub returns-in-Err-Failed-clause-taken : goal.returns-in-Err-Failed-clause-taken
returns-in-Err-Failed-clause-taken g c =
    read_not a_calendar calendar of_calendars (λ events. events) some_calendar _ _ _ c.in-Err-Failed.ensures.some c.in-Err-Failed.ensures.later
    (inr (refl, c.in-Err-Failed.ensures.failed cc))

pub returns-in-Err-NoMemory-clause-taken : goal.returns-in-Err-NoMemory-clause-taken
returns-in-Err-NoMemory-clause-taken g c =
    read_not a_calendar calendar of_calendars (λ events. events) some_calendar _ _ _ c.in-Err-NoMemory.ensures.some c.in-Err-NoMemory.ensures.later (inl refl)

pub returns-in-Err-TooLong-clause-taken : goal.returns-in-Err-TooLong-clause-taken
returns-in-Err-TooLong-clause-taken g c =
    read_long a_calendar calendar of_calendars (λ events. events) some_calendar _ _ _ (λ bytes long. long) c.in-Err-TooLong.ensures.some c.in-Err-TooLong.ensures.later
    (c.in-Err-TooLong.ensures.long cc) c.too_long.ensures

pub returns-in-Ok-read_ical-clause-taken : goal.returns-in-Ok-read_ical-clause-taken
returns-in-Ok-read_ical-clause-taken g c =
    let read = ap (λ bytes. joined_lines bytes) c.deref.ensures.value in
    read_whole a_calendar calendar of_calendars (λ events. events) some_calendar _ _ c.in-Ok.bytes.items c.in-Ok-read_ical.events c.in-Ok.ensures.some
    c.in-Ok.ensures.later c.in-Ok.ensures.whole (c.in-Ok.ensures.within, read_as c.in-Ok.bytes.items c.deref.result.now _ c.deref.ensures.value c.in-Ok-read_ical.ensures.reading)

pub returns-clause-taken : goal.returns-clause-taken
returns-clause-taken g c =
    read_refused a_calendar calendar of_calendars (λ events. events) some_calendar _ _ c.in-Ok.bytes.items c.in-Err.fault c.refused.result c.in-Ok.ensures.some
    c.in-Ok.ensures.later c.in-Ok.ensures.whole
    (elim c.in-Err.ensures.reading [
      | inl memory ↦ inl memory
      | inr reads ↦ inr (c.in-Ok.ensures.within, read_as c.in-Ok.bytes.items c.deref.result.now _ c.deref.ensures.value reads)
    ])
    c.refused.ensures
