-- A table as a value, whoever found its entries; its text, and how many of its entries are undecided.
use Rattle.std.specs.Prelude.{ℕ, ℤ, Bool, true, false, List, [], ◌++◌, Option, None, Some, codes, count_by, flat_map, length, map, sum_by, zip}
use Rattle.cell_split.specs.declared.verdict.Entry.{Entry}
use Rattle.cell_split.specs.declared.verdict.Entry.TheVariants.{Open}
use Rattle.method_table.specs.declared.method.Method.{Method}
use Rattle.method_table.specs.Row.{Row}
use Rattle.night_portion.specs.Minutes.{Night, fajr_minute, isha_minute, night_of}
use Rattle.night_rule.specs.declared.rule.NightRule.{NightRule}
use Rattle.order_rule.specs.Asked.{Asked}
use Rattle.ring_survey.specs.Extent.{positions_of}
use Rattle.year_table.specs.Dates.{date_text}
use Rattle.year_table.specs.Entries.{entry_text}
use Rattle.year_table.specs.Lines.{end_line, night_line, open_line, table_head}
use Rattle.order_table.specs.Days.{DayRows, NightRows}

-- the rows of sunrise and sunset, each with its entry
pub record NightTable : Type 0 where
  pub rule : NightRule
  pub method : Method
  pub found : List (Row × Entry)

-- a day since 1970-01-01, its rows in the order of the columns, each with its entry, and its night, where the order has a rule
pub record DayTable : Type 0 where
  pub number : ℤ
  pub found : List (Row × Entry)
  pub night : Option NightTable

-- the rows of a night with these entries
abbrev pub night_found : Option NightRows → Option (List Entry) → Option NightTable
night_found (Some night) (Some entries) = Some (record { rule = night.rule; method = night.method; found = zip night.rows entries })
night_found _ _ = None

-- the rows of a day and of its night with these entries
abbrev pub day_found : DayRows → List Entry → Option (List Entry) → DayTable
day_found day entries night_entries =
    record { number = day.number; found = zip day.rows entries; night = night_found day.night night_entries }

-- of the seven columns
abbrev pub entries_in : DayTable → List Entry
entries_in day = map (λ x. x.1) day.found

-- what a night's entries are for
abbrev pub night_rows_in : Option NightTable → Option NightRows
night_rows_in (Some night) = Some (record { rule = night.rule; method = night.method; rows = map (λ x. x.0) night.found })
night_rows_in None = None

-- what a day's entries are for
abbrev pub rows_in : DayTable → DayRows
rows_in day = record { number = day.number; rows = map (λ x. x.0) day.found; night = night_rows_in day.night }

-- ---- one day

-- the day's line
abbrev pub line_text : DayTable → List ℕ
line_text day = date_text day.number ++ flat_map (λ x. codes " " ++ entry_text x.0 x.1) day.found ++ codes "\n"

-- in the order of the columns a line for each entry that is open
abbrev pub opens_text : List (Row × Entry) → List ℕ
opens_text found = flat_map (λ x. open_line x.0 x.1) found

-- what the two minutes of a night are made of: of the day's entries, and of those of sunrise and sunset
abbrev pub night_in : List (Row × Entry) → NightTable → Night
night_in found night = night_of (map (λ x. x.0) found) (map (λ x. x.1) found) (map (λ x. x.0) night.found) (map (λ x. x.1) night.found)

-- the line of a day's night, where the order has a rule
abbrev pub night_text : List (Row × Entry) → Option NightTable → List ℕ
night_text found (Some night) =
    night_line (fajr_minute night.rule (night_in found night)) (isha_minute night.rule night.method (night_in found night))
night_text found None = []

unfoldable pub day_text : DayTable → List ℕ
day_text day = line_text day ++ (opens_text day.found ++ night_text day.found day.night)

abbrev pub is_undecided : Entry → Bool
is_undecided (Open safe from cell) = true
is_undecided entry = false

-- how many entries of a day's seven columns are undecided
unfoldable pub day_undecided : DayTable → ℕ
day_undecided day = count_by is_undecided (entries_in day)

-- ---- all days

abbrev pub days_text : List DayTable → List ℕ
days_text days = flat_map day_text days

abbrev pub days_undecided : List DayTable → ℕ
days_undecided days = sum_by day_undecided days

-- what an order asks for, above its table
abbrev pub head_of : Asked → List ℕ
head_of o = table_head o.from_day o.days o.method o.asr o.zone (length (positions_of o.district)) o.height o.sun

-- the head and so many days
abbrev pub front_text : Asked → List DayTable → List ℕ
front_text o days = head_of o ++ days_text days

abbrev pub table_text : Asked → List DayTable → List ℕ
table_text o days = front_text o days ++ end_line o.days (days_undecided days)
