-- The calendar of a table, and that it is read again.
use Rattle.std.specs.Prelude.{◌≡◌, ℕ, true, nat_le, ◌&&◌, Bool, ℤ, pos, neg_ℤ, ◌+ℤ◌, ◌≤ℤ◌, unsigned_abs, ◌<◌, ◌^◌, All, List, flat_map, Ok}
use Rattle.std.specs.List.{list_all}
use Rattle.cell_split.specs.declared.verdict.Entry.{Entry}
use Rattle.method_table.specs.declared.method.Asr.{Asr}
use Rattle.method_table.specs.declared.method.Method.{Method}
use Rattle.method_table.specs.Row.{Row}
use Rattle.method_table.specs.Table.{base_of}
use Rattle.year_table.specs.Entries.{IsInFrame}
use Rattle.ical_text.specs.declared.event.Event.{Event}
use Rattle.ical_text.specs.Calendar.{calendar_text, day_events, description_text}
use Rattle.ical_text.specs.Lines.{joined_lines}
use Rattle.ical_text.specs.Moments.{stamp_text}
use Rattle.ical_text.specs.Reading.{reading}

-- a day since 1970-01-01, and its rows in the order of the columns, each with its entry
pub record Found : Type 0 where
  pub number : ℤ
  pub found : List (Row × Entry)

-- what the calendar of a table is made of: the corner of the district in microdegrees, the first day, and the words of the order
pub record Sheet : Type 0 where
  pub west : ℤ
  pub south : ℤ
  pub from : ℤ
  pub method : Method
  pub asr : Asr
  pub zone : List ℕ

abbrev pub table_events : Sheet → List Found → List Event
table_events s days = flat_map (λ d. day_events s.west s.south d.number d.found) days

abbrev pub table_calendar : Sheet → List Found → List ℕ
table_calendar s days = calendar_text (stamp_text s.from) (description_text s.method s.asr s.zone) (table_events s days)

-- a day from 1900 to 2100
pub record IsDay (day : ℤ) : Type 0 where
  pub not_early : neg_ℤ (pos 25567) ≤ℤ day
  pub not_late : day ≤ℤ pos 47846

-- a row of a day with some offset of the clock in minutes
pub record IsRowOf (day : ℤ) (p : Row) : Type 0 where
  pub offset : ℤ
  pub base : p.base ≡ base_of day offset
  pub offset_not_low : neg_ℤ (pos 720) ≤ℤ offset
  pub offset_not_high : offset ≤ℤ pos 840
  pub first_not_low : neg_ℤ (pos 720) ≤ℤ p.first
  pub first_not_high : p.first ≤ℤ pos 1439
  pub framed : p.last ≡ p.first +ℤ pos 720
  pub shift_not_negative : pos 0 ≤ℤ p.shift
  pub shift_not_high : p.shift ≤ℤ pos 120

-- a day whose entries can be printed
pub record IsPrintable (d : Found) : Type 0 where
  pub day : IsDay d.number
  pub rows : All (λ x. IsRowOf d.number x.0) d.found
  pub entries : All (λ x. IsInFrame x.1) d.found

-- from `!` to `~`
abbrev pub is_visible : ℕ → Bool
is_visible b = nat_le 33 b && nat_le b 126

pub record IsSheet (s : Sheet) : Type 0 where
  pub west : unsigned_abs s.west < 2 ^ 63
  pub south : unsigned_abs s.south < 2 ^ 63
  pub from : IsDay s.from
  pub zone : list_all is_visible s.zone ≡ true

-- the calendar of a table is read as its printed minutes, in order, each with its moment, its column's word and its UID
abbrev pub TablesAreReadAgain : Type 0
TablesAreReadAgain = (s : Sheet) (days : List Found) → IsSheet s → All IsPrintable days → reading (joined_lines (table_calendar s days)) ≡ Ok (table_events s days)
