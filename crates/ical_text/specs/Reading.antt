-- What the lines of a calendar are: its events, or the first line with a fault. After RFC 5545, section 3.6; which components
-- are events, and the faults, are this project's own.
use Rattle.std.specs.Prelude.{ℕ, ◌+◌, ◌==◌, ◌&&◌, ◌||◌, not, if◌then◌else◌, Bool, true, false, List, [], ◌∷◌, ◌++◌, codes, length, drop, ℤ, Option, Some, None, Result, Ok, Err}
use Rattle.ical_text.specs.declared.event.Event.{Event}
use Rattle.ical_text.specs.declared.fault.IcalFault.{IcalFault}
use Rattle.ical_text.specs.declared.fault.IcalFault.TheVariants.{NotLine, Frame, Event as BadEvent}
use Rattle.ical_text.specs.declared.own.Own.{Own}
use Rattle.ical_text.specs.declared.own.Times.{Times}
use Rattle.ical_text.specs.declared.own.Times.TheVariants.{Never, Once, Again}
use Rattle.ical_text.specs.declared.property.Name.{Name}
use Rattle.ical_text.specs.declared.property.Name.TheVariants.{Begin, End, Uid, Start, Summary}
use Rattle.ical_text.specs.Moments.{moment_of}
use Rattle.ical_text.specs.Properties.{Property, is_word, property_of}

-- what is open after some lines: the names of the components as they stand, innermost first; and what was seen
-- directly in that of them which stands directly in the calendar
pub record Place : Type 0 where
  pub names : List (List ℕ)
  pub own : Own

abbrev pub nothing : Own
nothing = record { uid = Never; start = Never; summary = Never }

abbrev pub start : Place
start = record { names = []; own = nothing }

abbrev pub once_more : Times → List ℕ → Times
once_more Never value = Once value
once_more _ value = Again

abbrev pub added : Name → Own → List ℕ → Own
added Uid own value = record { uid = once_more own.uid value; start = own.start; summary = own.summary }
added Start own value = record { uid = own.uid; start = once_more own.start value; summary = own.summary }
added Summary own value = record { uid = own.uid; start = own.start; summary = once_more own.summary value }
added _ own value = own

abbrev pub after_name : Name → Place → List ℕ → Place
after_name Begin place value = record { names = value ∷ place.names; own = place.own }
after_name End place value = record { names = drop 1 place.names; own = if length place.names == 2 then nothing else place.own }
after_name name place value = record { names = place.names; own = if length place.names == 2 then added name place.own value else place.own }

-- Faults.

-- the innermost component has this name
abbrev pub is_innermost : List (List ℕ) → List ℕ → Bool
is_innermost [] value = false
is_innermost (name ∷ names) value = is_word name value

-- a component that opens inside eight others, or ends and is not the innermost
abbrev pub is_misplaced : Name → List (List ℕ) → List ℕ → Bool
is_misplaced Begin names value = length names == 8
is_misplaced End names value = not (is_innermost names value)
is_misplaced _ names value = false

abbrev pub opens_calendar : Name → List ℕ → Bool
opens_calendar Begin value = is_word (codes "VCALENDAR") value
opens_calendar _ value = false

-- line 1 that doesn't open the calendar, or a line behind its end
abbrev pub is_outside : ℕ → List (List ℕ) → Name → List ℕ → Bool
is_outside n names name value = if n == 0 then not (opens_calendar name value) else length names == 0

-- a VEVENT directly in the calendar is the innermost
abbrev pub is_event : List (List ℕ) → Bool
is_event (name ∷ outer ∷ []) = is_word (codes "VEVENT") name
is_event _ = false

abbrev pub ends_event : Name → List (List ℕ) → Bool
ends_event End names = is_event names
ends_event _ names = false

abbrev pub is_once : Times → Bool
is_once (Once value) = true
is_once _ = false

abbrev pub is_again : Times → Bool
is_again Again = true
is_again _ = false

-- an event has one UID, and at most one DTSTART and one SUMMARY
abbrev pub is_bad : Own → Bool
is_bad own = not (is_once own.uid) || (is_again own.start || is_again own.summary)

-- the fault of a property in line n + 1
abbrev pub fault_by : ℕ → Place → Property → Option IcalFault
fault_by n place p =
    if is_outside n place.names p.name p.value || is_misplaced p.name place.names p.value then Some (Frame (n + 1))
    else (if ends_event p.name place.names && is_bad place.own then Some (BadEvent (n + 1)) else None)

-- the event with what was seen in it; one with no real moment, or no SUMMARY, is passed over
abbrev pub event_by : Times → Option ℤ → Times → List Event
event_by (Once uid) (Some k) (Once summary) = record { uid = uid; start = k; summary = summary } ∷ []
event_by _ _ _ = []

abbrev pub moment_in : Times → Option ℤ
moment_in (Once value) = moment_of value
moment_in _ = None

abbrev pub events_in : Own → List Event
events_in own = event_by own.uid (moment_in own.start) own.summary

-- the event that a property ends
abbrev pub events_by : Place → Property → List Event
events_by place p = if ends_event p.name place.names then events_in place.own else []

abbrev pub fault_of : ℕ → Place → Option Property → Option IcalFault
fault_of n place None = Some (NotLine (n + 1))
fault_of n place (Some p) = fault_by n place p

abbrev pub events_of : Place → Option Property → List Event
events_of place None = []
events_of place (Some p) = events_by place p

abbrev pub after : Place → Option Property → Place
after place None = place
after place (Some p) = after_name p.name place p.value

-- the text ends after n lines, with an open component or with no line
abbrev pub end_fault : ℕ → Place → Option IcalFault
end_fault n place = if (n == 0) || not (length place.names == 0) then Some (Frame (n + 1)) else None

abbrev pub with_events : List Event → Result (List Event) IcalFault → Result (List Event) IcalFault
with_events events (Ok more) = Ok (events ++ more)
with_events events (Err fault) = Err fault

abbrev pub unless : Option IcalFault → Result (List Event) IcalFault → Result (List Event) IcalFault
unless (Some fault) result = Err fault
unless None result = result

-- the events of the lines that follow n others, or the first fault
unfoldable pub reading_from : ℕ → Place → List (List ℕ) → Result (List Event) IcalFault
reading_from n place [] = unless (end_fault n place) (Ok [])
reading_from n place (line ∷ lines) =
    unless (fault_of n place (property_of line))
    (with_events (events_of place (property_of line)) (reading_from (n + 1) (after place (property_of line)) lines))

-- the events of a calendar's lines, or their first fault
abbrev pub reading : List (List ℕ) → Result (List Event) IcalFault
reading lines = reading_from 0 start lines
