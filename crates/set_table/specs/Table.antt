-- The table of a set of districts as a value, whoever found its entries; its text, and how many of its entries are undecided.
use Rattle.std.specs.Prelude.{ℕ, ◌+◌, List, [], ◌∷◌, ◌++◌, None, codes, decimal, flat_map, length, map, sum_by}
use Rattle.cell_split.specs.declared.verdict.Entry.{Entry}
use Rattle.order_rule.specs.Asked.{Asked}
use Rattle.order_table.specs.Days.{DayRows}
use Rattle.order_table.specs.Table.{DayTable, day_found, day_text, days_undecided}
use Rattle.ring_survey.specs.Extent.{positions_of}
use Rattle.set_reader.specs.Asked.{SetAsked}
use Rattle.set_search.specs.Joined.{joined_of}
use Rattle.year_table.specs.Dates.{date_text}
use Rattle.year_table.specs.Lines.{height_text, order_text, span_text, sun_text, words_text}

-- a day in each district, and in all of them together
pub record SetDay : Type 0 where
  pub parts : List DayTable
  pub whole : DayTable

-- a day's rows with these entries; a set has no nights
abbrev pub part_day : DayRows → List Entry → DayTable
part_day day entries = day_found day entries None

-- and with those of each district
abbrev pub set_day : DayRows → List (List Entry) → SetDay
set_day day found = record { parts = map (part_day day) found; whole = part_day day (joined_of found) }

-- ---- one day

abbrev pub district_line : ℕ → List ℕ
district_line i = codes "district " ++ decimal i ++ codes "\n"

-- the lines of the district of this number
abbrev pub part_text : ℕ → DayTable → List ℕ
part_text i part = district_line i ++ day_text part

-- of districts from this number on
abbrev pub parts_text : ℕ → List DayTable → List ℕ
parts_text i [] = []
parts_text i (part ∷ rest) = part_text i part ++ parts_text (i + 1) rest

-- those of all districts together
abbrev pub whole_text : DayTable → List ℕ
whole_text whole = codes "whole\n" ++ day_text whole

unfoldable pub set_day_text : SetDay → List ℕ
set_day_text day = parts_text 0 day.parts ++ whole_text day.whole

-- how many of the districts' entries are undecided
unfoldable pub set_day_undecided : SetDay → ℕ
set_day_undecided day = days_undecided day.parts

-- ---- all days

abbrev pub set_days_text : List SetDay → List ℕ
set_days_text days = flat_map set_day_text days

abbrev pub set_days_undecided : List SetDay → ℕ
set_days_undecided days = sum_by set_day_undecided days

-- what an order asked for, as in the table of one district
abbrev pub order_line : Asked → List ℕ
order_line o =
    order_text (span_text (date_text o.from_day) o.days) (words_text o.method o.asr o.zone) (length (positions_of o.district)) ++ height_text o.height ++ sun_text o.sun

-- the first four lines, of so many districts
abbrev pub set_head : List ℕ → ℕ → List ℕ
set_head order districts =
    codes "prayer set 1\n" ++ order ++ codes "\ndistricts " ++ decimal districts ++ codes "\ndate         fajr  f.end  dhuhr    asr   magh  m.end   isha\n"

abbrev pub head_of : SetAsked → List ℕ
head_of s = set_head (order_line s.whole) (length s.parts)

abbrev pub set_end_line : ℕ → ℕ → ℕ → List ℕ
set_end_line days districts undecided =
    codes "end days " ++ decimal days ++ codes " districts " ++ decimal districts ++ codes " open " ++ decimal undecided ++ codes "\n"

-- the head and so many days
abbrev pub front_text : SetAsked → List SetDay → List ℕ
front_text s days = head_of s ++ set_days_text days

abbrev pub set_text : SetAsked → List SetDay → List ℕ
set_text s days = front_text s days ++ set_end_line s.whole.days (length s.parts) (set_days_undecided days)
