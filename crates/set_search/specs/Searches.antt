-- The judges of a search for a set, and what it finds.
use Rattle.std.specs.Prelude.{List, [], ◌∷◌, flat_map, map}
use Rattle.cell_judge.specs.declared.sky.Sky.{Sky}
use Rattle.cell_split.specs.declared.verdict.Entry.{Entry}
use Rattle.cell_split.specs.Judges.{Content}
use Rattle.days_sky.specs.Days.{days_content, rows_of_day}
use Rattle.days_sky.specs.declared.sky.DaysSky.{DaysSky}
use Rattle.district_set.specs.Joins.{IsInFrame}
use Rattle.method_table.specs.Row.{Row}
use Rattle.order_table.specs.Made.{rows_of}
use Rattle.order_table.specs.Printing.{IsPrintable}
use Rattle.order_table.specs.Trees.{columns, entries_of, entry_at}
use Rattle.order_table.specs.declared.day.Day.{Day}

-- what the judge of several days stands for
abbrev pub judge_of : DaysSky → Content
judge_of j = days_content j.sky.now.sun j.sky.now.district (map rows_of_day j.days.now) j.sky.now.root

-- the judge of one day over a district
abbrev pub judge_over : List Row → Sky → Content
judge_over rows sky = days_content sky.sun sky.district (rows ∷ []) sky.root

-- of each district, day by day
abbrev pub judges_over : List Sky → List (List Row) → List Content
judges_over skies days = flat_map (λ rows. map (judge_over rows) skies) days

-- the entries of a judge's seven problems
abbrev pub entries_by : Content → List Entry
entries_by c = map (entry_at c) columns

-- an entry that can be joined and printed
abbrev pub IsFound : Entry → Type 0
IsFound e = IsInFrame e × IsPrintable e

-- ---- what is found

-- the entries of a day's rows over each district
abbrev pub entries_over : List Sky → List Row → List (List Entry)
entries_over skies rows = map (λ sky. entries_of sky.sun sky.district sky.root rows) skies

abbrev pub entries_on : List Sky → Day → List (List Entry)
entries_on skies day = entries_over skies (rows_of day)

-- of several days, day by day
abbrev pub entries_on_days : List Sky → List Day → List (List Entry)
entries_on_days skies days = flat_map (entries_on skies) days
