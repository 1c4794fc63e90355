-- What lines are as a calendar, place by place: apart from the reader, which goes over them once. All lines are one of a calendar
-- with its events and of one with a first fault, and the reader's answer is that.
use Rattle.std.specs.Prelude.{◌≡◌, ◌<◌, ◌≤◌, ℕ, zero, suc, true, pos, neg_ℤ, ◌≤ℤ◌, All, nat_lt, if◌then◌else◌, List, [], ◌∷◌, ◌++◌, length, take, slice_index_or, Option, Some, None, Result, Ok, Err}
use Rattle.ical_text.specs.declared.event.Event.{Event}
use Rattle.ical_text.specs.declared.fault.IcalFault.{IcalFault}
use Rattle.std.specs.List.{list_all}
use Rattle.ical_text.specs.Calendar.{calendar_text}
use Rattle.ical_text.specs.Lines.{joined_lines}
use Rattle.ical_text.specs.Properties.{Property, is_inner, property_of}
use Rattle.ical_text.specs.Reading.{Place, after, end_fault, events_of, fault_of, reading, start}

-- what is open after some lines
abbrev pub place_from : Place → List (List ℕ) → Place
place_from place [] = place
place_from place (line ∷ lines) = place_from (after place (property_of line)) lines

-- what is open before line n + 1, and the property in it
unfoldable pub place_before : List (List ℕ) → ℕ → Place
place_before lines n = place_from start (take n lines)

unfoldable pub property_in : List (List ℕ) → ℕ → Option Property
property_in lines n = property_of (slice_index_or lines n [])

-- the fault of line n + 1, or behind the last line that of the end
unfoldable pub fault_at : List (List ℕ) → ℕ → Option IcalFault
fault_at lines n =
    if nat_lt n (length lines) then fault_of n (place_before lines n) (property_in lines n) else end_fault n (place_before lines n)

-- the events that the first n lines end
unfoldable pub events_before : List (List ℕ) → ℕ → List Event
events_before lines zero = []
events_before lines (suc n) = events_before lines n ++ events_of (place_before lines n) (property_in lines n)

-- no line has a fault, nor has the end
pub record IsCalendar (lines : List (List ℕ)) (events : List Event) : Type 0 where
  pub faultless : (n : ℕ) → n ≤ length lines → fault_at lines n ≡ None
  pub events_are : events ≡ events_before lines (length lines)

-- the first line that has a fault, or the end
pub record IsFirstFault (lines : List (List ℕ)) (fault : IcalFault) : Type 0 where
  pub n : ℕ
  pub within : n ≤ length lines
  pub before : (k : ℕ) → k < n → fault_at lines k ≡ None
  pub here : fault_at lines n ≡ Some fault

abbrev pub Reads : List (List ℕ) → Result (List Event) IcalFault → Type 0
Reads lines (Ok events) = IsCalendar lines events
Reads lines (Err fault) = IsFirstFault lines fault

-- the answer of the reader is what the lines are
abbrev pub ReadingIsExact : Type 0
ReadingIsExact = (lines : List (List ℕ)) → Reads lines (reading lines)

-- which is one thing alone
abbrev pub ReadingsAgree : Type 0
ReadingsAgree = (lines : List (List ℕ)) (x y : Result (List Event) IcalFault) → Reads lines x → Reads lines y → x ≡ y

-- the uid and the summary have no CR and no LF in them, and the moment is one of the years from 1899 to 2101
pub record CanBeRead (e : Event) : Type 0 where
  pub uid : list_all is_inner e.uid ≡ true
  pub summary : list_all is_inner e.summary ≡ true
  pub not_early : neg_ℤ (pos 53120880) ≤ℤ e.start
  pub not_late : e.start ≤ℤ pos 53646479

-- the calendar of events that can be read is read as these events, in order
abbrev pub CalendarsAreReadAgain : Type 0
CalendarsAreReadAgain =
    (stamp description : List ℕ) (events : List Event) → list_all is_inner stamp ≡ true → list_all is_inner description ≡ true
    → All CanBeRead events → reading (joined_lines (calendar_text stamp description events)) ≡ Ok events

-- texts that join to the same lines have the same answer
abbrev pub LinesDecide : Type 0
LinesDecide =
    (a b : List ℕ) (x y : Result (List Event) IcalFault) → joined_lines a ≡ joined_lines b → Reads (joined_lines a) x → Reads (joined_lines b) y → x ≡ y
