-- The text of a calendar in pieces, as they are written.
use Rattle.std.specs.Prelude.{ℕ, ℤ, List, flat_map, string_bytes}
use Rattle.cell_split.specs.declared.verdict.Entry.{Entry}
use Rattle.ical_text.specs.Calendar.{description_text, entry_events, event_text}
use Rattle.ical_text.specs.Moments.{stamp_text}
use Rattle.ical_text.specs.Tables as tables
use Rattle.ical_text.specs.declared.event.Event.{Event}
use Rattle.method_table.specs.Row.{Row}
use Rattle.order_table.specs.Table.{DayTable}
use Rattle.order_calendar.specs.declared.sheet.Sheet.{Sheet}

-- what the events have in common, as the code keeps it
abbrev pub sheet_seen : Sheet → tables.Sheet
sheet_seen s = record { west = s.west; south = s.south; from = s.from_day; method = s.method; asr = s.asr; zone = string_bytes s.zone }

abbrev pub event_in : tables.Sheet → Event → List ℕ
event_in s e = event_text (stamp_text s.from) (description_text s.method s.asr s.zone) e

-- the event of an entry, if it is a minute
unfoldable pub entry_text : tables.Sheet → ℤ → Row × Entry → List ℕ
entry_text s number x = flat_map (event_in s) (entry_events s.west s.south number x)

abbrev pub found_text : tables.Sheet → ℤ → List (Row × Entry) → List ℕ
found_text s number found = flat_map (entry_text s number) found

unfoldable pub day_text : tables.Sheet → DayTable → List ℕ
day_text s day = found_text s day.number day.found

abbrev pub days_text : tables.Sheet → List DayTable → List ℕ
days_text s days = flat_map (day_text s) days
