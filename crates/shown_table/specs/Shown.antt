-- The table that the lines of a covering show, day by day, up to the first bad line; and what is answered of it.
use Rattle.std.specs.Prelude.{ℕ, ◌+◌, ℤ, List, [], ◌∷◌, ◌++◌, codes, decimal, Option, Some, None, Result, Ok, Err, sum_by}
use Rattle.cell_split.specs.declared.cell.Cell.{Cell}
use Rattle.cell_split.specs.declared.verdict.Entry.{Entry}
use Rattle.cell_judge.specs.Skies.{row_at, sky_content}
use Rattle.command_input.specs.Lines.{behind_line, first_line}
use Rattle.covering_check.specs.Checks.{shown_of}
use Rattle.covering_check.specs.declared.fault.CoverFault.{CoverFault}
use Rattle.covering_check.specs.declared.fault.CoverFault.TheVariants.{Column, Letter, Long, NoMemory, NotFailing, NotLine, NotShown, Short}
use Rattle.method_table.specs.Row.{Row, column_word}
use Rattle.order_covering.specs.Covering.{night_content, sun_word}
use Rattle.order_rule.specs.Asked.{Asked}
use Rattle.order_table.specs.Days.{DayRows, NightRows, days_of}
use Rattle.order_table.specs.Table.{DayTable, day_found, days_undecided, front_text, table_text}
use Rattle.order_table.specs.Trees.{columns, night_columns, root_over}
use Rattle.outcome.specs.Answer.{Answer, finished}
use Rattle.outcome.specs.declared.status.Status.TheVariants.{CoverRefused}
use Rattle.ring_survey.specs.Polygons.{Polygon}
use Rattle.year_table.specs.Dates.{date_text}
use Rattle.method_table.specs.declared.sun.SunChoice.{SunChoice}
use Rattle.shown_table.specs.declared.bad.BadLine.{BadLine}

-- ---- one day

-- what a line shows of a column of a day, over a district
unfoldable pub shown_at : SunChoice → List Polygon → Cell → DayRows → ℕ → List ℕ → Result Entry CoverFault
shown_at sun polygons root day k line =
    shown_of (sky_content sun polygons day.rows root) k (column_word (row_at day.rows k).column) (date_text day.number) line

-- entries and the text behind their lines, or the first bad line
abbrev pub Shows : Type 0
Shows = Result (List Entry × List ℕ) BadLine

-- these entries come first
abbrev pub with_entries : List Entry → Shows → Shows
with_entries entries (Ok x) = Ok (entries ++ x.0, x.1)
with_entries entries (Err bad) = Err bad

abbrev pub entry_then : Result Entry CoverFault → ℕ → Shows → Shows
entry_then (Ok entry) number rest = with_entries (entry ∷ []) rest
entry_then (Err fault) number rest = Err (record { number = number; fault = fault })

-- what the next lines, the first of which has this number, show of these columns
abbrev pub entries_shown : (ℕ → List ℕ → Result Entry CoverFault) → List ℕ → ℕ → List ℕ → Shows
entries_shown shows [] number text = Ok ([], text)
entries_shown shows (k ∷ ks) number text =
    entry_then (shows k (first_line text)) number (entries_shown shows ks (number + 1) (behind_line text))

-- what the next lines show of a day's columns
unfoldable pub columns_shown : SunChoice → List Polygon → Cell → DayRows → ℕ → List ℕ → Shows
columns_shown sun polygons root day number text = entries_shown (shown_at sun polygons root day) columns number text

-- ---- one night

-- what a line shows of sunrise (0) or sunset (1) of a day, over a district
unfoldable pub sun_shown_at : SunChoice → List Polygon → Cell → ℤ → List Row → ℕ → List ℕ → Result Entry CoverFault
sun_shown_at sun polygons root day rows k line = shown_of (night_content sun polygons root rows) k (sun_word k) (date_text day) line

-- the entries of a night, if there is one, and the text behind their lines, or the first bad line
abbrev pub ShowsNight : Type 0
ShowsNight = Result (Option (List Entry) × List ℕ) BadLine

abbrev pub some_night : Shows → ShowsNight
some_night (Ok x) = Ok (Some x.0, x.1)
some_night (Err bad) = Err bad

-- what the next lines show of a day's night: where the order has no rule, there are none
unfoldable pub night_shown : SunChoice → List Polygon → Cell → ℤ → Option NightRows → ℕ → List ℕ → ShowsNight
night_shown sun polygons root day (Some night) number text =
    some_night (entries_shown (sun_shown_at sun polygons root day night.rows) night_columns number text)
night_shown sun polygons root day None number text = Ok (None, text)

-- ---- one day

-- the entries of a day and of its night, and the text behind their lines, or the first bad line
abbrev pub ShowsDay : Type 0
ShowsDay = Result (List Entry × (Option (List Entry) × List ℕ)) BadLine

abbrev pub with_columns : List Entry → ShowsNight → ShowsDay
with_columns entries (Ok x) = Ok (entries, x)
with_columns entries (Err bad) = Err bad

abbrev pub columns_then : Shows → (List ℕ → ShowsNight) → ShowsDay
columns_then (Ok x) night = with_columns x.0 (night x.1)
columns_then (Err bad) night = Err bad

-- what the next lines show of a day: those of its columns, and behind them those of its night
unfoldable pub day_shown : SunChoice → List Polygon → Cell → DayRows → ℕ → List ℕ → ShowsDay
day_shown sun polygons root day number text =
    columns_then (columns_shown sun polygons root day number text) (night_shown sun polygons root day.number day.night (number + 7))

-- ---- all days

-- the days that are shown, and the text behind their lines, or the first bad line
pub record ShownDays : Type 0 where
  pub days : List DayTable
  pub end : Result (List ℕ) BadLine

-- these days come first
abbrev pub with_days : List DayTable → ShownDays → ShownDays
with_days days rest = record { days = days ++ rest.days; end = rest.end }

abbrev pub day_then : DayRows → ShowsDay → (List ℕ → ShownDays) → ShownDays
day_then day (Ok x) rest = with_days (day_found day x.0 x.1.0 ∷ []) (rest x.1.1)
day_then day (Err bad) rest = record { days = []; end = Err bad }

-- how many lines are those of a day: seven, and two more for its night
abbrev pub lines_by : Option NightRows → ℕ
lines_by None = 7
lines_by (Some night) = 9

abbrev pub lines_of : DayRows → ℕ
lines_of day = lines_by day.night

-- what the next lines show of these days
abbrev pub days_shown : SunChoice → List Polygon → Cell → List DayRows → ℕ → List ℕ → ShownDays
days_shown sun polygons root [] number text = record { days = []; end = Ok text }
days_shown sun polygons root (day ∷ days) number text =
    day_then day (day_shown sun polygons root day number text) (days_shown sun polygons root days (number + lines_of day))

-- ---- the whole

-- the first bad line: text behind the last line that is asked for makes the next one bad
abbrev pub bad_line : ℕ → Result (List ℕ) BadLine → Option BadLine
bad_line number (Err bad) = Some bad
bad_line number (Ok []) = None
bad_line number (Ok (byte ∷ bytes)) = Some (record { number = number; fault = NotLine })

pub record ShownTable : Type 0 where
  pub days : List DayTable
  pub bad : Option BadLine

-- the number of the line behind the last one of an order
abbrev pub last_number : Asked → ℕ
last_number o = sum_by lines_of (days_of o) + 2

abbrev pub shown_days : Asked → List ℕ → ShownDays
shown_days o lines = days_shown o.sun o.district (root_over o.district) (days_of o) 2 lines

-- what the lines behind a covering's first one show, of the order that the first one spells
unfoldable pub shown_table : Asked → List ℕ → ShownTable
shown_table o lines = record { days = (shown_days o lines).days; bad = bad_line (last_number o) (shown_days o lines).end }

-- ---- what is answered

-- the table; or, before a bad line, its head and the days that were shown whole
abbrev pub text_before : Asked → List DayTable → Option BadLine → List ℕ
text_before o days None = table_text o days
text_before o days (Some bad) = front_text o days

unfoldable pub shown_text : Asked → List ℕ → List ℕ
shown_text o lines = text_before o (shown_table o lines).days (shown_table o lines).bad

-- places are counted from 0, in bytes of the letters
unfoldable pub fault_text : CoverFault → List ℕ
fault_text NotLine = codes "1"
fault_text Column = codes "2"
fault_text (Letter place) = codes "3 at " ++ decimal place
fault_text Short = codes "4"
fault_text Long = codes "5"
fault_text (NotShown place) = codes "6 at " ++ decimal place
fault_text NotFailing = codes "7"
fault_text NoMemory = []

unfoldable pub line_by : ℕ → List ℕ → List ℕ
line_by number fault = codes "cover refused line " ++ (decimal number ++ (codes " fault " ++ (fault ++ codes "\n")))

abbrev pub bad_text : BadLine → List ℕ
bad_text bad = line_by bad.number (fault_text bad.fault)

abbrev pub answer_before : Asked → List DayTable → Option BadLine → Answer
answer_before o days None = finished (days_undecided days) (table_text o days)
answer_before o days (Some bad) = record { status = CoverRefused; text = front_text o days; line = bad_text bad }

-- the answer to a covering of this order, with this text behind its first line
unfoldable pub shown_answer : Asked → List ℕ → Answer
shown_answer o lines = answer_before o (shown_table o lines).days (shown_table o lines).bad
