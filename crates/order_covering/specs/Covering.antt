-- The covering of an order, whoever finds its trees: its canonical line, and then a line for each day and column; where the order has
-- a rule for nights, two more for sunrise and sunset.
use Rattle.std.specs.Prelude.{ℕ, zero, suc, ℤ, List, ◌∷◌, [], ◌++◌, codes, flat_map, Option, None, Some}
use Rattle.cell_split.specs.declared.cell.Cell.{Cell}
use Rattle.cell_split.specs.Judges.{Content}
use Rattle.cell_split.specs.Tree.{root_task}
use Rattle.cell_judge.specs.Skies.{row_at, sky_content}
use Rattle.covering.specs.Letters.{letters_of}
use Rattle.covering.specs.Lines.{cell_data, members_data, point_data}
use Rattle.covering.specs.Refuted.{first_refuted, rank_of}
use Rattle.covering.specs.Runs.{runs_text}
use Rattle.covering.specs.Settles.{leaves_of, refuted_ordinal_of}
use Rattle.method_table.specs.Row.{Row, column_word}
use Rattle.night_portion.specs.Sun.{repeated}
use Rattle.order_rule.specs.Asked.{Asked}
use Rattle.order_text.specs.Line.{order_line}
use Rattle.order_table.specs.Days.{DayRows, NightRows, days_of}
use Rattle.order_table.specs.Trees.{columns, night_columns, root_over}
use Rattle.plane_edges.specs.declared.points.Point.{Point}
use Rattle.ring_survey.specs.Polygons.{Polygon}
use Rattle.serde_json.specs.Written.{compact_text}
use Rattle.year_table.specs.Dates.{date_text}
use Rattle.method_table.specs.declared.sun.SunChoice.{SunChoice}
use Rattle.order_covering.specs.declared.form.Form.{Form}
use Rattle.order_covering.specs.declared.form.Form.TheVariants.{Letters, Runs}

-- the member of a line that has its letters
abbrev pub letters_name : Form → List ℕ
letters_name Letters = codes "tree"
letters_name Runs = codes "runs"

-- the letters as that member spells them
abbrev pub letters_text : Form → List ℕ → List ℕ
letters_text Letters letters = letters
letters_text Runs letters = runs_text letters

-- the first refuted leaf of the greatest refuted rank, and the place that refutes it
abbrev pub refuted_of : Content → ℕ → Option (Cell × Point)
refuted_of c k = first_refuted (refuted_ordinal_of c k) (leaves_of c k)

-- the letters of a problem's tree, cut at the greatest refuted rank
abbrev pub tree_letters : Content → ℕ → List ℕ
tree_letters c k = letters_of c (refuted_ordinal_of c k) (root_task c k)

-- the line of a problem's tree, for a column and a date
unfoldable pub line_of : Form → List ℕ → List ℕ → Content → ℕ → List ℕ
line_of form column date c k =
    compact_text (members_data column date (point_data (refuted_of c k)) (rank_of (refuted_ordinal_of c k)) (cell_data (refuted_of c k))
    (letters_name form) (letters_text form (tree_letters c k))) ++ 10 ∷ []

-- the line of a column of a day, over a district
abbrev pub column_line : Form → SunChoice → List Polygon → Cell → DayRows → ℕ → List ℕ
column_line form sun polygons root day k =
    line_of form (column_word (row_at day.rows k).column) (date_text day.number) (sky_content sun polygons day.rows root) k

-- the words of sunrise and sunset
abbrev pub sun_word : ℕ → List ℕ
sun_word zero = codes "rise"
sun_word (suc k) = codes "set"

-- the judge of the rows of sunrise and sunset, its problems 0 and 1
abbrev pub night_content : SunChoice → List Polygon → Cell → List Row → Content
night_content sun polygons root rows = sky_content sun polygons (repeated rows) root

-- the line of sunrise (0) or sunset (1) of a day
abbrev pub sun_line : Form → SunChoice → List Polygon → Cell → ℤ → List Row → ℕ → List ℕ
sun_line form sun polygons root day rows k = line_of form (sun_word k) (date_text day) (night_content sun polygons root rows) k

-- both, where the order has a rule for nights
abbrev pub night_lines : Form → SunChoice → List Polygon → Cell → ℤ → Option NightRows → List ℕ
night_lines form sun polygons root day (Some night) = flat_map (sun_line form sun polygons root day night.rows) night_columns
night_lines form sun polygons root day None = []

-- the lines of a day: in the order of the columns, and then those of its night
unfoldable pub day_lines : Form → SunChoice → List Polygon → Cell → DayRows → List ℕ
day_lines form sun polygons root day =
    flat_map (column_line form sun polygons root day) columns ++ night_lines form sun polygons root day.number day.night

-- the covering's text
unfoldable pub covering_of : Form → Asked → List ℕ
covering_of form o = order_line o ++ flat_map (day_lines form o.sun o.district (root_over o.district)) (days_of o)
