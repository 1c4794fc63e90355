-- Days and lines as the code keeps them.
use Rattle.std.specs.Prelude.{◌≡◌, ℕ, ◌<◌, ◌++◌, List, [], ◌∷◌, if◌then◌else◌, flat_map, length, map, option_map, slice_index_or}
use Rattle.cell_split.specs.declared.cell.Cell.{Cell}
use Rattle.cell_split.specs.declared.verdict.Entry.{Entry}
use Rattle.cell_judge.specs.Skies.{row_at, sky_content}
use Rattle.cell_split.specs.Judges.{Content}
use Rattle.covering.specs.Lines.{line_data}
use Rattle.covering.specs.Settles.{IsSettled}
use Rattle.covering.specs.declared.settled.Settled.{Settled}
use Rattle.method_table.specs.Row.{Row, column_word, row_of}
use Rattle.order_table.specs.Made.{day_of, night_of, rows_of}
use Rattle.order_table.specs.Table.{is_undecided}
use Rattle.order_table.specs.Trees.{columns, entry_at}
use Rattle.order_table.specs.declared.day.Day.{Day}
use Rattle.order_table.specs.declared.day.Night.{Night}
use Rattle.ring_survey.specs.Polygons.{Polygon}
use Rattle.serde_json.specs.Written.{compact_text}
use Rattle.year_table.specs.Dates.{date_text}
use Rattle.method_table.specs.declared.sun.SunChoice.{SunChoice}
use Rattle.order_covering.specs.Covering.{day_lines, letters_name, letters_text, line_of, night_content, night_lines, sun_word}
use Rattle.order_covering.specs.declared.form.Form.{Form}
use Rattle.order_covering.specs.declared.night.SettledNight.{SettledNight}

-- the line of what is settled, for a column and a date
unfoldable pub settled_line : Form → List ℕ → List ℕ → Settled → List ℕ
settled_line form column date s =
    compact_text (line_data column date s (letters_name form) (letters_text form s.letters)) ++ 10 ∷ []

-- how many entries an entry leaves undecided
abbrev pub undecided_in : Entry → ℕ
undecided_in e = if is_undecided e then 1 else 0

-- day i of these is this one
pub record IsDayIn (days : List (List Row)) (i : ℕ) (day : Day) : Type 0 where
  pub inside : i < length days
  pub same : slice_index_or days i (rows_of day) ≡ rows_of day

-- the line of column k of a day, over a district under a sun and with a root, dated so
abbrev pub written_at : Form → SunChoice → List Polygon → Cell → Day → List ℕ → ℕ → List ℕ
written_at form sun polygons root day date k =
    line_of form (column_word (row_at (rows_of day) k).column) date (sky_content sun polygons (rows_of day) root) k

-- how many entries it leaves undecided
abbrev pub counted_at : SunChoice → List Polygon → Cell → Day → ℕ → ℕ
counted_at sun polygons root day k = undecided_in (entry_at (sky_content sun polygons (rows_of day) root) k)

-- the lines of a day's columns
unfoldable pub columns_written : Form → SunChoice → List Polygon → Cell → Day → List ℕ
columns_written form sun polygons root day = flat_map (written_at form sun polygons root day (date_text day.number)) columns

-- the judge of a night
abbrev pub content_of_night : SunChoice → List Polygon → Cell → Night → Content
content_of_night sun polygons root night = night_content sun polygons root (map row_of night.problems)

-- sunrise and sunset are settled for this judge
pub record IsSettledNight (c : Content) (s : SettledNight) : Type 0 where
  pub rise : IsSettled c 0 s.rise
  pub set : IsSettled c 1 s.set

-- the lines of what is settled of a night
abbrev pub settled_night : Form → List ℕ → SettledNight → List ℕ
settled_night form date s = settled_line form (sun_word 0) date s.rise ++ settled_line form (sun_word 1) date s.set

-- the lines of a day's night
unfoldable pub night_written : Form → SunChoice → List Polygon → Cell → Day → List ℕ
night_written form sun polygons root day = night_lines form sun polygons root day.number (option_map night_of day.night)

-- the lines of a day
unfoldable pub written : Form → SunChoice → List Polygon → Cell → Day → List ℕ
written form sun polygons root day = day_lines form sun polygons root (day_of day)
