-- The lines of an order's covering show the entries of its trees, day by day.
use Rattle.std.proofs.Common.{◌≡◌, ℕ, ◌+◌, ◌<◌, true, List, [], ◌∷◌, ◌++◌, append_assoc, length, map, ℤ, pos, Option, Some, None, Ok, IsUtf8, refl, sym, ap, ◌∙◌, subst, arith}
use Rattle.std.specs.Prelude.{◌+ℤ◌, ◌≤ℤ◌, codes, int_le, nat_lt}
use Rattle.std.specs.List.{flat_map, list_all}
use Rattle.std.proofs.lemmas.Bool.Decides.{nat_tests}
use Rattle.std.proofs.lemmas.Int.{ints}
use Rattle.json.proofs.Printed.Utf8.{IsUtf8-are_ascii, are_ascii}
use Rattle.night_portion.specs.Sun.{repeated}
use Rattle.method_table.specs.declared.problem.Column.{Column}
use Rattle.method_table.specs.declared.problem.Column.TheVariants.{Asr, Dhuhr, Fajr, FajrEnd, Isha, Maghrib, MaghribEnd}
use Rattle.method_table.specs.Row.{Row, column_word}
use Rattle.ring_survey.specs.Polygons.{Polygon}
use Rattle.plane_edges.proofs.Truth.{and_left, and_right, and_true, le_true}
use Rattle.cell_split.specs.declared.cell.Cell.{Cell}
use Rattle.cell_split.specs.Cells.{IsRoot}
use Rattle.cell_split.specs.Judges.{Content, IsLawful}
use Rattle.cell_split.proofs.Every.{Every}
use Rattle.cell_split.proofs.Renumbering.{renumbered_trees}
use Rattle.cell_judge.proofs.Lawful.{skies_are_lawful}
use Rattle.cell_judge.specs.Skies.{row_at, sky_content}
use Rattle.serde_json.specs.Written.{compact_text}
use Rattle.covering.specs.declared.settled.Settled.{Settled}
use Rattle.covering.specs.Lines.{line_data}
use Rattle.covering_check.specs.Checks.{shown_of}
use Rattle.covering_laws.specs.Acceptance.{AreAccepted}
use Rattle.covering_laws.proofs.Accepted.{written_accepted}
use Rattle.covering_laws.proofs.Documents.{line_no_feed}
use Rattle.covering_laws.proofs.Settling.{trees_settled}
use Rattle.order_rule.specs.Asked.{Asked}
use Rattle.order_rule.specs.Offsets.{first_day, last_day}
use Rattle.order_rule.specs.Rule.{IsOrder}
use Rattle.order_text.proofs.DateTexts.{day_text_plain}
use Rattle.order_table.specs.Days.{DayRows, NightRows, days_from, days_of, rows_on}
use Rattle.order_table.specs.Trees.{columns, entries_of, entry_at, night_columns, night_entries_of, root_over, table_of, table_of_trees, tree_day, tree_night, undecided}
use Rattle.order_table.proofs.DayLemmas.{root_is_root}
use Rattle.order_table.proofs.RightLemmas.{one_each}
use Rattle.year_table.specs.Dates.{date_text}
use Rattle.year_table.specs.Rules.{is_rule_byte}
use Rattle.method_table.specs.declared.sun.SunChoice.{SunChoice}
use Rattle.order_covering.specs.Covering.{column_line, day_lines, letters_name, letters_text, line_of, night_content, night_lines, sun_line}
use Rattle.order_covering.specs.Made.{settled_line}
use Rattle.order_covering.specs.declared.form.Form.{Form}
use Rattle.order_covering.specs.declared.form.Form.TheVariants.{Letters, Runs}
use Rattle.order_covering.proofs.CoveringLemmas.{line_is}
use Rattle.shown_table.specs.Shown.{ShownDays, ShownTable, answer_before, bad_line, columns_shown, columns_then, day_shown, day_then, days_shown, last_number, lines_of, night_shown, shown_answer, shown_at, shown_table, some_night, sun_shown_at, with_columns, with_days}
use Rattle.covered_tables.specs.Covered.{CoveringsAreShown, covering_lines}
use Rattle.covered_tables.proofs.Cutting.{IsLineOf, lines_shown}

-- ---- the line of a tree

accepted : (form : Form) (c : Content) (k : ℕ) (s : Settled) (column date : List ℕ) → AreAccepted c k s column date →
    shown_of c k column date (compact_text (line_data column date s (letters_name form) (letters_text form s.letters))) ≡ Ok s.entry
accepted Letters c k s column date h = h.tree
accepted Runs c k s column date h = h.runs

tree_line : (form : Form) (column date : List ℕ) → IsUtf8 column → IsUtf8 date → (c : Content) → IsLawful c → (k : ℕ) → k < c.problems →
    IsLineOf (shown_of c k column date) (line_of form column date c k) (entry_at c k)
unfolding settled_line
tree_line form column date column_is date_is c law k known =
    let settled = trees_settled c law k known in
    let s = settled.0 in
    let is = settled.1 in (
      compact_text (line_data column date s (letters_name form) (letters_text form s.letters)),
      sym (line_is form column date c k s is),
      line_no_feed c law k known s is column date (letters_name form) (letters_text form s.letters),
      accepted form c k s column date (written_accepted c law k known s is column date column_is date_is) ∙ ap (λ e. Ok e) is.entry,
    )

-- ---- one day

column_utf8 : (c : Column) → IsUtf8 (column_word c)
column_utf8 Fajr = IsUtf8-are_ascii (codes "fajr") refl
column_utf8 FajrEnd = IsUtf8-are_ascii (codes "fajr_end") refl
column_utf8 Dhuhr = IsUtf8-are_ascii (codes "dhuhr") refl
column_utf8 Asr = IsUtf8-are_ascii (codes "asr") refl
column_utf8 Maghrib = IsUtf8-are_ascii (codes "maghrib") refl
column_utf8 MaghribEnd = IsUtf8-are_ascii (codes "maghrib_end") refl
column_utf8 Isha = IsUtf8-are_ascii (codes "isha") refl

-- a day of seven rows, whose date is a text
record IsCovered (day : DayRows) : Type 0 where
  seven : length day.rows ≡ 7
  date : IsUtf8 (date_text day.number)

module _ (form : Form) (sun : SunChoice) (polygons : List Polygon) (root : Cell) (is_root : IsRoot root) where
  columns_are : (day : DayRows) → IsCovered day → (number : ℕ) (rest : List ℕ) →
      columns_shown sun polygons root day number (flat_map (column_line form sun polygons root day) columns ++ rest) ≡ Ok (entries_of sun polygons root day.rows, rest)
  unfolding columns_shown shown_at entries_of
  columns_are day is number rest =
      let c = sky_content sun polygons day.rows root in
      let seven = is.seven in
      let line : (k : ℕ) → k < 7 → IsLineOf (shown_at sun polygons root day k) (column_line form sun polygons root day k) (entry_at c k) = λ k known.
      tree_line form (column_word (row_at day.rows k).column) (date_text day.number) (column_utf8 (row_at day.rows k).column) is.date c
      (skies_are_lawful sun polygons day.rows root is_root) k (omega (arith, seven)) in
      lines_shown (shown_at sun polygons root day) (column_line form sun polygons root day) (entry_at c) columns
      (line 0 (omega arith), (line 1 (omega arith), (line 2 (omega arith), (line 3 (omega arith), (line 4 (omega arith), (line 5 (omega arith), (line 6 (omega arith), tt)))))))
      number rest

  -- sunrise and sunset have one tree, whether or not their rows are repeated
  rise_same : (rows : List Row) → entry_at (night_content sun polygons root rows) 0 ≡ entry_at (sky_content sun polygons rows root) 0
  rise_same rows =
      (renumbered_trees (night_content sun polygons root rows) (sky_content sun polygons rows root) (skies_are_lawful sun polygons rows root is_root) 0 0
      (record { same_root = refl; same_verdicts = λ cell is. refl })).same_entry

  set_same : (rows : List Row) → entry_at (night_content sun polygons root rows) 1 ≡ entry_at (sky_content sun polygons rows root) 1
  set_same rows =
      (renumbered_trees (night_content sun polygons root rows) (sky_content sun polygons rows root) (skies_are_lawful sun polygons rows root is_root) 1 1
      (record { same_root = refl; same_verdicts = λ cell is. refl })).same_entry

  night_is : (day : ℤ) → IsUtf8 (date_text day) → (night : Option NightRows) (number : ℕ) (rest : List ℕ) →
      night_shown sun polygons root day night number (night_lines form sun polygons root day night ++ rest) ≡ Ok (tree_night sun polygons root night, rest)
  unfolding night_shown sun_shown_at night_entries_of
  night_is day date None number rest = refl
  night_is day date (Some night) number rest =
      let c = night_content sun polygons root night.rows in
      let own = sky_content sun polygons night.rows root in
      let lawful = skies_are_lawful sun polygons (repeated night.rows) root is_root in
      let rise = tree_line form (codes "rise") (date_text day) (IsUtf8-are_ascii (codes "rise") refl) date c lawful 0 (omega arith) in
      let set = tree_line form (codes "set") (date_text day) (IsUtf8-are_ascii (codes "set") refl) date c lawful 1 (omega arith) in
      ap some_night (lines_shown (sun_shown_at sun polygons root day night.rows) (sun_line form sun polygons root day night.rows) (entry_at own) night_columns (
        subst (IsLineOf (sun_shown_at sun polygons root day night.rows 0) (sun_line form sun polygons root day night.rows 0)) (rise_same night.rows) rise,
        (subst (IsLineOf (sun_shown_at sun polygons root day night.rows 1) (sun_line form sun polygons root day night.rows 1)) (set_same night.rows) set, tt),
      )
      number rest)

  day_is : (day : DayRows) → IsCovered day → (number : ℕ) (rest : List ℕ) →
      day_shown sun polygons root day number (day_lines form sun polygons root day ++ rest) ≡ Ok (entries_of sun polygons root day.rows, (tree_night sun polygons root day.night, rest))
  unfolding day_shown day_lines
  day_is day is number rest =
      let own = flat_map (column_line form sun polygons root day) columns in
      let night = night_lines form sun polygons root day.number day.night in
      let behind = night_shown sun polygons root day.number day.night (number + 7) in
      ap (λ (t : List ℕ). columns_then (columns_shown sun polygons root day number t) behind) (append_assoc own night rest)
      ∙ (ap (λ s. columns_then s behind) (columns_are day is number (night ++ rest))
      ∙ ap (with_columns (entries_of sun polygons root day.rows)) (night_is day.number is.date day.night (number + 7) rest))

  days_are : (days : List DayRows) → Every IsCovered days → (number : ℕ) →
      days_shown sun polygons root days number (flat_map (day_lines form sun polygons root) days) ≡ record { days = map (tree_day sun polygons root) days; end = Ok [] }
  days_are [] each number = refl
  days_are (day ∷ days) each number =
      ap (λ s. day_then day s (days_shown sun polygons root days (number + lines_of day))) (day_is day each.0 number (flat_map (day_lines form sun polygons root) days))
      ∙ ap (with_days (tree_day sun polygons root day ∷ [])) (days_are days each.1 (number + lines_of day))

-- ---- the days of an order

rule_small : (b : ℕ) → is_rule_byte b ≡ true → nat_lt b 128 ≡ true
rule_small b e = grind (arith, nat_tests)

rule_ascii : (bs : List ℕ) → list_all is_rule_byte bs ≡ true → are_ascii bs ≡ true
rule_ascii [] h = refl
rule_ascii (b ∷ bs) h =
    and_true (nat_lt b 128) (are_ascii bs) (rule_small b (and_left (is_rule_byte b) (list_all is_rule_byte bs) h))
    (rule_ascii bs (and_right (is_rule_byte b) (list_all is_rule_byte bs) h))

date_utf8 : (day : ℤ) → first_day ≤ℤ day → day ≤ℤ last_day → IsUtf8 (date_text day)
date_utf8 day early late =
    IsUtf8-are_ascii (date_text day) (rule_ascii (date_text day) (day_text_plain day
    (and_true (int_le first_day day) (int_le day last_day) (le_true first_day day early) (le_true day last_day late))))

covered_days : (o : Asked) (day : ℤ) (offsets : List ℤ) → first_day ≤ℤ day → (day +ℤ pos (length offsets)) ≤ℤ (last_day +ℤ pos 1) →
    Every IsCovered (days_from o day offsets)
unfolding rows_on
covered_days o day [] early late = tt
covered_days o day (offset ∷ rest) early late = (
  record { seven = refl; date = date_utf8 day early (omega (arith, ints, late)) },
  covered_days o (day +ℤ pos 1) rest (omega (arith, ints, early)) (omega (arith, ints, late)),
)

all_covered : (o : Asked) → IsOrder o → Every IsCovered (days_of o)
all_covered o is = covered_days o o.from_day o.offsets is.not_early (rw (one_each o is) is.not_late)

-- ---- the whole

table_shown : (o : Asked) → IsOrder o → (form : Form) → shown_table o (covering_lines form o) ≡ record { days = table_of_trees o; bad = None }
unfolding shown_table table_of_trees
table_shown o is form =
    ap (λ (d : ShownDays). record { days = d.days; bad = bad_line (last_number o) d.end })
    (days_are form o.sun o.district (root_over o.district) (root_is_root o.district is.sound) (days_of o) (all_covered o is) 2)

pub coverings_are_shown : CoveringsAreShown
unfolding shown_answer table_of undecided
coverings_are_shown o is form = ap (λ (t : ShownTable). answer_before o t.days t.bad) (table_shown o is form)
