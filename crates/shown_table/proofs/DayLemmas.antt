-- Days and their lines as the code keeps them.
use Rattle.std.proofs.Common.{◌≡◌, ◌⊎◌, inl, inr, ℕ, ◌<◌, List, [], ◌∷◌, ◌++◌, length, map, get_or, Option, ℤ, Result, Ok, Err, sym, ap, ◌∙◌, subst, append-nil, arith}
use Rattle.std.specs.Prelude.{All, IfOk, None, Some, option_map, sum_by, zip}
use Rattle.std.proofs.lemmas.List.Elements.{All-from_recursion}
use Rattle.std.proofs.lemmas.List.{get_or-map, length-map}
use Rattle.cell_judge.specs.Skies.{row_at, sky_content}
use Rattle.cell_judge.specs.declared.sky.Sky.{Sky}
use Rattle.covering_check.specs.Checks.{shown_of}
use Rattle.method_table.specs.declared.problem.Problem.{Problem}
use Rattle.method_table.specs.Row.{column_word, row_of}
use Rattle.cell_split.specs.declared.cell.Cell.{Cell}
use Rattle.cell_split.specs.declared.verdict.Entry.{Entry}
use Rattle.cell_split.proofs.Every.{Every}
use Rattle.covering_check.specs.declared.fault.CoverFault.TheVariants.{NoMemory}
use Rattle.method_table.specs.Row.{Row}
use Rattle.outcome.specs.Writing.{Writes}
use Rattle.outcome.specs.declared.stop.Stop.{Stop}
use Rattle.outcome.proofs.Streams.{adds_nothing, dry, stopped, written}
use Rattle.ring_survey.specs.Faults.{first_fault}
use Rattle.ring_survey.specs.Polygons.{Polygon}
use Rattle.order_table.specs.Made.{day_of}
use Rattle.order_table.specs.Made.{night_of as rows_of_night}
use Rattle.order_table.specs.Printing.{IsPrintable}
use Rattle.order_table.specs.RightTable.{IsRightEntry, scene_of}
use Rattle.order_table.specs.Table.{DayTable, day_found, day_text, day_undecided, days_text, days_undecided}
use Rattle.order_table.specs.Trees.{night_columns}
use Rattle.night_portion.specs.Sun.{repeated}
use Rattle.order_covering.specs.Covering.{night_content, sun_word}
use Rattle.order_table.specs.declared.day.Day.{Day}
use Rattle.order_table.specs.declared.day.Night.{Night}
use Rattle.year_table.specs.Dates.{date_text}
use Rattle.method_table.specs.declared.sun.SunChoice.{SunChoice}
use Rattle.shown_table.specs.declared.bad.BadLine.{BadLine}
use Rattle.shown_table.specs.declared.bad.Shown.{Shown}
use Rattle.shown_table.specs.declared.bad.Shown.TheVariants.{Whole}
use Rattle.shown_table.specs.Came.{IsBad, ShowsDays, ShowsEntries}
use Rattle.shown_table.specs.Shown.{ShownDays, ShowsDay, ShowsNight, columns_shown, day_shown, days_shown, entries_shown, night_shown, shown_at, some_night, sun_shown_at}
use Rattle.shown_table.proofs.RightLemmas.{fit_columns, fit_night, right_is_printable}
use Rattle.shown_table.proofs.ShowingLemmas.{each_of_columns, each_of_sun, one_bad, one_shown, seven_shown, shown_count}

-- what a sky that is turned to a day makes of a line
pub shown_is : (sky : Sky) (day : Day) (k : ℕ) (column date line : List ℕ) (p : Problem) → k < 7 → sky.problems ≡ day.problems →
    column ≡ column_word (get_or day.problems k p).column → date ≡ date_text day.number →
    shown_of (sky_content sky.sun sky.district (map row_of sky.problems) sky.root) k column date line
    ≡ shown_at sky.sun sky.district sky.root (day_of day) k line
unfolding shown_at
shown_is sky day k column date line p known turned is_column is_date =
    let seven = day.seven in
    let rows = map row_of day.problems in
    let row = get_or-map row_of day.problems k p _ (omega (arith, known, seven)) in
    let word = column_word (row_at rows k).column in
    let judge = sky_content sky.sun sky.district rows sky.root in
    ap (λ (ps : List Problem). shown_of (sky_content sky.sun sky.district (map row_of ps) sky.root) k column date line) turned
    ∙ ap (λ (w : List ℕ). shown_of judge k w date line) (is_column ∙ ap (λ r. column_word r.column) (sym row))
    ∙ ap (λ (d : List ℕ). shown_of judge k word d line) is_date

-- and one that is turned to a night
pub sun_shown_is : (sky : Sky) (day : ℤ) (rows : List Row) (k : ℕ) (column date line : List ℕ) → map row_of sky.problems ≡ repeated rows →
    column ≡ sun_word k → date ≡ date_text day →
    shown_of (sky_content sky.sun sky.district (map row_of sky.problems) sky.root) k column date line
    ≡ sun_shown_at sky.sun sky.district sky.root day rows k line
unfolding sun_shown_at
sun_shown_is sky day rows k column date line turned is_column is_date =
    let judge = night_content sky.sun sky.district sky.root rows in
    ap (λ (rs : List Row). shown_of (sky_content sky.sun sky.district rs sky.root) k column date line) turned
    ∙ ap (λ (w : List ℕ). shown_of judge k w date line) is_column
    ∙ ap (λ (d : List ℕ). shown_of judge k (sun_word k) d line) is_date

-- ---- entries that can be printed

of_second : (P : Row → Entry → Type 0) (Q : Entry → Type 0) → ((r : Row) (e : Entry) → P r e → Q e) → (rows : List Row) (es : List Entry) →
    length rows ≡ length es → Every (λ (x : Row × Entry). P x.0 x.1) (zip rows es) → Every Q es
of_second P Q f [] [] same h = tt
of_second P Q f [] (e ∷ es) same h = absurd (omega (arith, same))
of_second P Q f (r ∷ rows) [] same h = tt
of_second P Q f (r ∷ rows) (e ∷ es) same h = (f r e h.0, of_second P Q f rows es (omega (arith, same)) h.1)

pub printable_if : (sky : Sky) (day : Day) → first_fault sky.district ≡ None → (number : ℕ) (text : List ℕ) (r : Result (List Entry) BadLine) (behind : List ℕ) →
    ShowsEntries (columns_shown sky.sun sky.district sky.root (day_of day) number text) r behind → IfOk r (All IsPrintable)
printable_if sky day faultless number text (Ok es) behind shown =
    let P = λ (row : Row) (e : Entry). IsRightEntry (scene_of sky.sun sky.district row) sky.root e in
    let seven = day.seven in
    let weekly : length (day_of day).rows ≡ 7 = length-map day.problems row_of ∙ seven in
    let many = seven_shown sky.sun sky.district sky.root (day_of day) number text es behind shown in
    All-from_recursion IsPrintable es
    (of_second P IsPrintable (λ row e right. right_is_printable (scene_of sky.sun sky.district row) sky.root e right.right) (day_of day).rows es
    (omega (arith, weekly, many))
    (each_of_columns P sky.sun sky.district sky.root (day_of day) weekly (fit_columns sky day faultless) number text es behind shown))
printable_if sky day faultless number text (Err bad) behind shown = tt

pub sun_printable_if : (sky : Sky) (day : ℤ) (night : Night) → first_fault sky.district ≡ None → (number : ℕ) (text : List ℕ) (r : Result (List Entry) BadLine)
    (behind : List ℕ) → ShowsEntries (entries_shown (sun_shown_at sky.sun sky.district sky.root day (map row_of night.problems)) night_columns number text) r behind →
    IfOk r (All IsPrintable)
sun_printable_if sky day night faultless number text (Ok es) behind shown =
    let P = λ (row : Row) (e : Entry). IsRightEntry (scene_of sky.sun sky.district row) sky.root e in
    let two = night.two in
    let rows = map row_of night.problems in
    let all : length rows ≡ 2 = length-map night.problems row_of ∙ two in
    let shows = sun_shown_at sky.sun sky.district sky.root day rows in
    let many = shown_count shows night_columns number text es behind shown in
    All-from_recursion IsPrintable es
    (of_second P IsPrintable (λ row e right. right_is_printable (scene_of sky.sun sky.district row) sky.root e right.right) rows es
    (all ∙ sym many) (each_of_sun P rows shows all (fit_night sky day night faultless) number text es behind shown))
sun_printable_if sky day night faultless number text (Err bad) behind shown = tt

-- ---- one night

module _ (sun : SunChoice) (polygons : List Polygon) (root : Cell) (day : Day) (number : ℕ) (text : List ℕ) where
  abbrev by_night : Option Night → ShowsNight
  by_night night = night_shown sun polygons root day.number (option_map rows_of_night night) number text

  -- a day without a night has no lines of it
  pub none_shown : day.night ≡ None → night_shown sun polygons root day.number (option_map rows_of_night day.night) number text ≡ Ok (None, text)
  unfolding night_shown
  none_shown has = ap by_night has

  -- and one with a night has two
  pub some_shown : (night : Night) → day.night ≡ Some night → (es : List Entry) (rest : List ℕ) →
      entries_shown (sun_shown_at sun polygons root day.number (map row_of night.problems)) night_columns number text ≡ Ok (es, rest) →
      night_shown sun polygons root day.number (option_map rows_of_night day.night) number text ≡ Ok (Some es, rest)
  unfolding night_shown
  some_shown night has es rest shown = ap by_night has ∙ ap some_night shown

  pub some_bad : (night : Night) → day.night ≡ Some night → (bad : BadLine) →
      entries_shown (sun_shown_at sun polygons root day.number (map row_of night.problems)) night_columns number text ≡ Err bad →
      night_shown sun polygons root day.number (option_map rows_of_night day.night) number text ≡ Err bad
  unfolding night_shown
  some_bad night has bad shown = ap by_night has ∙ ap some_night shown

-- ---- one day

single : (x : DayTable) → days_undecided (x ∷ []) ≡ day_undecided x
single x = let one : sum_by day_undecided (x ∷ []) ≡ day_undecided x = omega arith in one

module _ (sun : SunChoice) (polygons : List Polygon) (root : Cell) (day : Day) (number : ℕ) (text : List ℕ) where
  abbrev Entries : ShowsDay
  Entries = day_shown sun polygons root (day_of day) number text

  abbrev Days : ShownDays
  Days = days_shown sun polygons root (day_of day ∷ []) number text

  -- the day with these entries of its columns and of its night
  abbrev Found : List Entry → Option (List Entry) → DayTable
  Found es ns = day_found (day_of day) es ns

  pub day_shows : (es : List Entry) (ns : Option (List Entry)) (behind : List ℕ) (count : ℕ) → Entries ≡ Ok (es, (ns, behind)) →
      count ≡ day_undecided (Found es ns) → ShowsDays Days (Ok (Whole count)) behind
  day_shows es ns behind count is counted =
      let shown = one_shown sun polygons root (day_of day) number text es ns behind is in (
        ap (λ (s : ShownDays). s.end) shown,
        counted ∙ sym (single (Found es ns)) ∙ ap (λ (s : ShownDays). days_undecided s.days) (sym shown),
      )

  text_of : (es : List Entry) (ns : Option (List Entry)) (behind : List ℕ) → Entries ≡ Ok (es, (ns, behind)) → days_text Days.days ≡ day_text (Found es ns) ++ []
  text_of es ns behind is = ap (λ (s : ShownDays). days_text s.days) (one_shown sun polygons root (day_of day) number text es ns behind is)

  pub day_writes : (es : List Entry) (ns : Option (List Entry)) (behind : List ℕ) (count : ℕ) (o o' : ℕ) (old new : Option (List ℕ)) → Entries ≡ Ok (es, (ns, behind)) →
      Writes {X = ℕ} (day_text (Found es ns)) (Ok count) o o' old new → Writes {X = Shown} (days_text Days.days) (Ok (Whole count)) o o' old new
  day_writes es ns behind count o o' old new is w =
      written (days_text Days.days) (day_text (Found es ns)) (Whole count) o o' old new
      (sym (append-nil (day_text (Found es ns))) ∙ sym (text_of es ns behind is)) w.later w.whole

  pub day_stopped : (es : List Entry) (ns : Option (List Entry)) (behind : List ℕ) (stop : Stop) (o o' : ℕ) (old new : Option (List ℕ)) → Entries ≡ Ok (es, (ns, behind)) →
      Writes {X = ℕ} (day_text (Found es ns)) (Err stop) o o' old new → Writes {X = Shown} (days_text Days.days) (Err stop) o o' old new
  day_stopped es ns behind stop o o' old new is w =
      stopped {X = ℕ} {Y = Shown} [] (day_text (Found es ns)) [] (days_text Days.days) stop o o o' old old new
      (text_of es ns behind is) (adds_nothing old) (omega arith) w

  pub bad_shows : (bad : BadLine) (r : Result Shown Stop) (behind : List ℕ) → IsBad bad r → (bad.fault ≡ NoMemory) ⊎ (Entries ≡ Err bad) →
      ShowsDays Days r behind
  bad_shows bad (Ok shown) behind (is, other) (inl memory) = absurd (other memory)
  bad_shows bad (Ok shown) behind (is, other) (inr here) =
      subst (λ (x : Shown). ShowsDays Days (Ok x) behind) (sym is)
      (ap (λ (s : ShownDays). s.end) (one_bad sun polygons root (day_of day) number text bad here))
  bad_shows bad (Err stop) behind is cause = tt

  pub bad_writes : (bad : BadLine) (r : Result Shown Stop) (o : ℕ) (held : Option (List ℕ)) → IsBad bad r → (bad.fault ≡ NoMemory) ⊎ (Entries ≡ Err bad) →
      Writes {X = Shown} (days_text Days.days) r o o held held
  bad_writes bad (Ok shown) o held (is, other) (inl memory) = absurd (other memory)
  bad_writes bad (Ok shown) o held (is, other) (inr here) =
      written (days_text Days.days) [] shown o o held held
      (sym (ap (λ (s : ShownDays). days_text s.days) (one_bad sun polygons root (day_of day) number text bad here))) (omega arith) (adds_nothing held)
  bad_writes bad (Err stop) o held is cause = dry (days_text Days.days) stop o held is

-- the same under the same sun, over the same district and root
pub over : (P : SunChoice → List Polygon → Cell → Type 0) (a b : SunChoice) (p q : List Polygon) (r s : Cell) → a ≡ b → p ≡ q → r ≡ s → P a p r → P b q s
over P a b p q r s same_sun same same_root x =
    subst (λ (t : SunChoice). P t q s) same_sun (subst (λ (t : List Polygon). P a t s) same (subst (λ (t : Cell). P a p t) same_root x))
