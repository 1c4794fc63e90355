-- The calendar of a table: an event for each printed minute.
use Rattle.std.specs.Prelude.{ℕ, ◌==◌, ◌||◌, ◌++◌, if◌then◌else◌, ℤ, ◌+ℤ◌, List, [], ◌∷◌, codes, flat_map}
use Rattle.std.specs.Fmt.{signed_decimal}
use Rattle.cell_split.specs.declared.verdict.Entry.{Entry}
use Rattle.cell_split.specs.declared.verdict.Entry.TheVariants.{Minute}
use Rattle.method_table.specs.declared.method.Asr.{Asr}
use Rattle.method_table.specs.declared.method.Method.{Method}
use Rattle.method_table.specs.Method.{asr_word, method_word}
use Rattle.method_table.specs.Row.{Row, column_word, time_of}
use Rattle.year_table.specs.Dates as dates
use Rattle.ical_text.specs.declared.event.Event.{Event}
use Rattle.ical_text.specs.Lines.{folded_lines}
use Rattle.ical_text.specs.Moments.{moment_text}

-- a backslash before each comma and semicolon
abbrev pub escaped_byte : ℕ → List ℕ
escaped_byte b = if (b == 44) || (b == 59) then 92 ∷ b ∷ [] else b ∷ []

abbrev pub escaped : List ℕ → List ℕ
escaped text = flat_map escaped_byte text

abbrev pub description_by : List ℕ → List ℕ → List ℕ
description_by method asr =
    codes "Safe at every point of the district. Method " ++ method ++ codes "\\, asr " ++ asr ++ codes "\\, zone "

-- the zone is the offset in minutes, or the rule
abbrev pub description_text : Method → Asr → List ℕ → List ℕ
description_text method asr zone = description_by (method_word method) (asr_word asr) ++ escaped zone

abbrev pub corner_text : ℤ → ℤ → List ℕ
corner_text west south = signed_decimal west ++ codes "-" ++ signed_decimal south

abbrev pub uid_end : List ℕ → List ℕ → List ℕ
uid_end column corner = codes "-" ++ column ++ codes "-" ++ corner ++ codes "@timetable.invalid"

-- the date, the column, and the least longitude and latitude of the district in microdegrees
abbrev pub uid_text : ℤ → List ℕ → ℤ → ℤ → List ℕ
uid_text day column west south = dates.date_text day ++ uid_end column (corner_text west south)

-- a printed minute of a day: in Universal Time, with the word of its column
abbrev pub event_of : ℤ → ℤ → ℤ → Row → ℕ → Event
event_of west south day p rank =
    record { uid = uid_text day (column_word p.column) west south; start = time_of p rank +ℤ p.shift; summary = column_word p.column }

abbrev pub uid_line : List ℕ → List ℕ
uid_line uid = codes "UID:" ++ uid

abbrev pub stamp_line : List ℕ → List ℕ
stamp_line stamp = codes "DTSTAMP:" ++ stamp

abbrev pub start_line : List ℕ → List ℕ
start_line moment = codes "DTSTART:" ++ moment

abbrev pub summary_line : List ℕ → List ℕ
summary_line summary = codes "SUMMARY:" ++ summary

abbrev pub description_line : List ℕ → List ℕ
description_line description = codes "DESCRIPTION:" ++ description

abbrev pub lines_by : List ℕ → List ℕ → List ℕ → List ℕ → List ℕ → List (List ℕ)
lines_by uid stamp moment summary description =
    codes "BEGIN:VEVENT" ∷ uid_line uid ∷ stamp_line stamp ∷ start_line moment ∷ summary_line summary ∷ description_line description
    ∷ codes "END:VEVENT" ∷ []

-- the lines of an event
abbrev pub event_lines : List ℕ → List ℕ → Event → List (List ℕ)
event_lines stamp description e = lines_by e.uid stamp (moment_text e.start) e.summary description

abbrev pub event_text : List ℕ → List ℕ → Event → List ℕ
event_text stamp description e = folded_lines (event_lines stamp description e)

abbrev pub head_lines : List (List ℕ)
head_lines = codes "BEGIN:VCALENDAR" ∷ codes "VERSION:2.0" ∷ codes "PRODID:-//district timetables//ical 1//EN" ∷ []

abbrev pub head_text : List ℕ
head_text = codes "BEGIN:VCALENDAR\r\nVERSION:2.0\r\nPRODID:-//district timetables//ical 1//EN\r\n"

abbrev pub end_text : List ℕ
end_text = codes "END:VCALENDAR\r\n"

-- the text of a calendar with these events
abbrev pub calendar_text : List ℕ → List ℕ → List Event → List ℕ
calendar_text stamp description events = head_text ++ flat_map (event_text stamp description) events ++ end_text

-- the events of a day's entries: those with a minute, in order
abbrev pub entry_events : ℤ → ℤ → ℤ → Row × Entry → List Event
entry_events west south day (p, Minute rank) = event_of west south day p rank ∷ []
entry_events west south day (p, _) = []

abbrev pub day_events : ℤ → ℤ → ℤ → List (Row × Entry) → List Event
day_events west south day found = flat_map (entry_events west south day) found
