-- What lines show, one after another.
use Rattle.std.proofs.Common.{◌≡◌, ℕ, suc, ◌+◌, ◌<◌, ◌≤◌, List, [], ◌∷◌, ◌++◌, length, map, take, drop, set, Option, None, Some, ℤ, Result, Ok, Err, refl, sym, ap, ◌∙◌, subst, append_assoc, append-nil, arith}
use Rattle.std.specs.Prelude.{IfSome, sum_by, zip}
use Rattle.std.proofs.lemmas.List.{drop_more, take_all, take_more_set}
use Rattle.std.proofs.lemmas.List.Sums.{sum_by-cons}
use Rattle.cell_split.specs.declared.cell.Cell.{Cell}
use Rattle.cell_split.specs.declared.verdict.Entry.{Entry}
use Rattle.cell_split.proofs.Every.{Every}
use Rattle.cell_judge.specs.Skies.{row_at}
use Rattle.command_input.specs.Lines.{behind_line, first_line}
use Rattle.covering_check.specs.declared.fault.CoverFault.{CoverFault}
use Rattle.method_table.specs.Row.{Row}
use Rattle.order_covering.proofs.CoveringLemmas.{column_at}
use Rattle.order_table.specs.Days.{DayRows, NightRows}
use Rattle.order_table.specs.Table.{DayTable, day_found, night_found, night_rows_in, rows_in}
use Rattle.order_table.specs.Trees.{columns, night_columns}
use Rattle.order_table.proofs.TextLemmas.{rows_of_zip}
use Rattle.ring_survey.specs.Polygons.{Polygon}
use Rattle.method_table.specs.declared.sun.SunChoice.{SunChoice}
use Rattle.shown_table.specs.declared.bad.BadLine.{BadLine}
use Rattle.shown_table.specs.Shown.{Shows, ShowsDay, ShowsNight, columns_shown, columns_then, day_shown, day_then, days_shown, entries_shown, entry_then, lines_by, lines_of, night_shown, shown_at, some_night, sun_shown_at, with_columns, with_days, with_entries}

-- ---- answers

ok_same : {A : Type 0} (x y : Result A BadLine) (a b : A) → x ≡ y → x ≡ Ok a → y ≡ Ok b → a ≡ b
ok_same x y a b same is other = cc

ok_no_err : {A : Type 0} (x y : Result A BadLine) (a : A) (bad : BadLine) → x ≡ y → x ≡ Ok a → y ≡ Err bad → ⊥
ok_no_err x y a bad same is other = cc

-- ---- entries

-- the first entry, and those behind it
pub record IsFirst (first : Result Entry CoverFault) (rest : Shows) (es : List Entry) (text : List ℕ) : Type 0 where
  pub entry : Entry
  pub others : List Entry
  pub all : es ≡ entry ∷ others
  pub here : first ≡ Ok entry
  pub behind : rest ≡ Ok (others, text)

is_first_with : (entry : Entry) (rest : Shows) (es : List Entry) (text : List ℕ) → with_entries (entry ∷ []) rest ≡ Ok (es, text) →
    (others : List Entry) × (es ≡ entry ∷ others) × (rest ≡ Ok (others, text))
is_first_with entry (Ok x) es text h =
    let same = ok_same _ _ (entry ∷ x.0, x.1) (es, text) h refl refl in
    let here : entry ∷ x.0 ≡ es = ap (λ (p : List Entry × List ℕ). p.0) same in
    let behind : x.1 ≡ text = ap (λ (p : List Entry × List ℕ). p.1) same in
    (x.0, sym here, ap (λ (t : List ℕ). Ok (x.0, t)) behind)
is_first_with entry (Err bad) es text h = absurd (ok_no_err _ _ (es, text) bad (sym h) refl refl)

pub is_first : (first : Result Entry CoverFault) (number : ℕ) (rest : Shows) (es : List Entry) (text : List ℕ) →
    entry_then first number rest ≡ Ok (es, text) → IsFirst first rest es text
is_first (Ok entry) number rest es text h =
    let is = is_first_with entry rest es text h in
    record { entry = entry; others = is.0; all = is.1; here = refl; behind = is.2 }
is_first (Err fault) number rest es text h = absurd (ok_no_err _ _ (es, text) (record { number = number; fault = fault }) (sym h) refl refl)

-- what every shown entry keeps
pub each_shown : (P : Row → Entry → Type 0) (rows : List Row) (shows : ℕ → List ℕ → Result Entry CoverFault) →
    (n : ℕ) → ((k : ℕ) → k < n → (line : List ℕ) (e : Entry) → shows k line ≡ Ok e → P (row_at rows k) e) →
    (ks : List ℕ) → Every (λ k. k < n) ks → (number : ℕ) (text : List ℕ) (es : List Entry) (rest : List ℕ) →
    entries_shown shows ks number text ≡ Ok (es, rest) → Every (λ (x : Row × Entry). P x.0 x.1) (zip (map (row_at rows) ks) es)
each_shown P rows shows n f [] few number text es rest h = none es
  where
    none : (fs : List Entry) → Every (λ (x : Row × Entry). P x.0 x.1) (zip [] fs)
    none fs = tt
each_shown P rows shows n f (k ∷ ks) few number text es rest h =
    let is = is_first (shows k (first_line text)) number (entries_shown shows ks (number + 1) (behind_line text)) es rest h in
    subst (λ fs. Every (λ (x : Row × Entry). P x.0 x.1) (zip (map (row_at rows) (k ∷ ks)) fs)) (sym is.all)
    (f k few.0 (first_line text) is.entry is.here, each_shown P rows shows n f ks few.1 (number + 1) (behind_line text) is.others rest is.behind)

-- there is one for each column
pub shown_count : (shows : ℕ → List ℕ → Result Entry CoverFault) (ks : List ℕ) (number : ℕ) (text : List ℕ) (es : List Entry) (rest : List ℕ) →
    entries_shown shows ks number text ≡ Ok (es, rest) → length es ≡ length ks
shown_count shows [] number text es rest h =
    let same : [] ≡ es = ap (λ (p : List Entry × List ℕ). p.0) (ok_same _ _ ([], text) (es, rest) h refl refl) in
    ap length (sym same)
shown_count shows (k ∷ ks) number text es rest h =
    let is = is_first (shows k (first_line text)) number (entries_shown shows ks (number + 1) (behind_line text)) es rest h in
    ap length is.all ∙ ap suc (shown_count shows ks (number + 1) (behind_line text) is.others rest is.behind)

-- ---- days

-- a day of seven rows, and of two for its night
pub record IsWeekly (day : DayRows) : Type 0 where
  pub seven : length day.rows ≡ 7
  pub two : IfSome day.night (λ night. length night.rows ≡ 2)

seven_rows : (rows : List Row) → length rows ≡ 7 → map (row_at rows) columns ≡ rows
seven_rows [] h = absurd (omega (arith, h))
seven_rows (a ∷ []) h = absurd (omega (arith, h))
seven_rows (a ∷ b ∷ []) h = absurd (omega (arith, h))
seven_rows (a ∷ b ∷ c ∷ []) h = absurd (omega (arith, h))
seven_rows (a ∷ b ∷ c ∷ d ∷ []) h = absurd (omega (arith, h))
seven_rows (a ∷ b ∷ c ∷ d ∷ e ∷ []) h = absurd (omega (arith, h))
seven_rows (a ∷ b ∷ c ∷ d ∷ e ∷ f ∷ []) h = absurd (omega (arith, h))
seven_rows (a ∷ b ∷ c ∷ d ∷ e ∷ f ∷ g ∷ []) h = refl
seven_rows (a ∷ b ∷ c ∷ d ∷ e ∷ f ∷ g ∷ i ∷ rest) h = absurd (omega (arith, h))

below_seven : Every (λ k. k < 7) columns
below_seven = (omega arith, (omega arith, (omega arith, (omega arith, (omega arith, (omega arith, (omega arith, tt)))))))

-- what every entry of the columns that are shown keeps
pub each_of_columns : (P : Row → Entry → Type 0) (sun : SunChoice) (polygons : List Polygon) (root : Cell) (day : DayRows) → length day.rows ≡ 7 →
    ((k : ℕ) → k < 7 → (line : List ℕ) (e : Entry) → shown_at sun polygons root day k line ≡ Ok e → P (row_at day.rows k) e) →
    (number : ℕ) (text : List ℕ) (es : List Entry) (rest : List ℕ) → columns_shown sun polygons root day number text ≡ Ok (es, rest) →
    Every (λ (x : Row × Entry). P x.0 x.1) (zip day.rows es)
unfolding columns_shown
each_of_columns P sun polygons root day seven f number text es rest h =
    subst (λ rows. Every (λ (x : Row × Entry). P x.0 x.1) (zip rows es)) (seven_rows day.rows seven)
    (each_shown P day.rows (shown_at sun polygons root day) 7 f columns below_seven number text es rest h)

-- there are seven
pub seven_shown : (sun : SunChoice) (polygons : List Polygon) (root : Cell) (day : DayRows) (number : ℕ) (text : List ℕ) (es : List Entry) (rest : List ℕ) →
    columns_shown sun polygons root day number text ≡ Ok (es, rest) → length es ≡ 7
unfolding columns_shown
seven_shown sun polygons root day number text es rest h = shown_count (shown_at sun polygons root day) columns number text es rest h

-- ---- nights

two_rows : (rows : List Row) → length rows ≡ 2 → map (row_at rows) night_columns ≡ rows
two_rows [] h = absurd (omega (arith, h))
two_rows (a ∷ []) h = absurd (omega (arith, h))
two_rows (a ∷ b ∷ []) h = refl
two_rows (a ∷ b ∷ c ∷ rest) h = absurd (omega (arith, h))

-- what the entries of sunrise and sunset that are shown keep
pub each_of_sun : (P : Row → Entry → Type 0) (rows : List Row) (shows : ℕ → List ℕ → Result Entry CoverFault) → length rows ≡ 2 →
    ((k : ℕ) → k < 2 → (line : List ℕ) (e : Entry) → shows k line ≡ Ok e → P (row_at rows k) e) →
    (number : ℕ) (text : List ℕ) (es : List Entry) (rest : List ℕ) → entries_shown shows night_columns number text ≡ Ok (es, rest) →
    Every (λ (x : Row × Entry). P x.0 x.1) (zip rows es)
each_of_sun P rows shows two f number text es rest h =
    subst (λ rows. Every (λ (x : Row × Entry). P x.0 x.1) (zip rows es)) (two_rows rows two)
    (each_shown P rows shows 2 f night_columns (omega arith, (omega arith, tt)) number text es rest h)

-- the entries of a night, if it is there
pub record IsSomeNight (shown : Shows) (ns : Option (List Entry)) (rest : List ℕ) : Type 0 where
  pub entries : List Entry
  pub some : ns ≡ Some entries
  pub shows : shown ≡ Ok (entries, rest)

pub is_some_night : (shown : Shows) (ns : Option (List Entry)) (rest : List ℕ) → some_night shown ≡ Ok (ns, rest) → IsSomeNight shown ns rest
is_some_night (Ok x) ns rest h =
    let same = ok_same _ _ (Some x.0, x.1) (ns, rest) h refl refl in
    record {
      entries = x.0;
      some = sym (ap (λ (p : Option (List Entry) × List ℕ). p.0) same);
      shows = ap (λ (t : List ℕ). Ok (x.0, t)) (ap (λ (p : Option (List Entry) × List ℕ). p.1) same);
    }
is_some_night (Err bad) ns rest h = absurd (ok_no_err _ _ (ns, rest) bad (sym h) refl refl)

-- a night that is shown is for its rows
night_rows_shown : (sun : SunChoice) (polygons : List Polygon) (root : Cell) (day : ℤ) (night : Option NightRows) → IfSome night (λ n. length n.rows ≡ 2) →
    (number : ℕ) (text : List ℕ) (ns : Option (List Entry)) (rest : List ℕ) → night_shown sun polygons root day night number text ≡ Ok (ns, rest) →
    night_rows_in (night_found night ns) ≡ night
unfolding night_shown
night_rows_shown sun polygons root day None two number text ns rest h = refl
night_rows_shown sun polygons root day (Some night) two number text ns rest h =
    let shows = sun_shown_at sun polygons root day night.rows in
    let is = is_some_night (entries_shown shows night_columns number text) ns rest h in
    let many = shown_count shows night_columns number text is.entries rest is.shows in
    let rows = rows_of_zip night.rows is.entries (two ∙ sym many) in
    ap (λ (o : Option (List Entry)). night_rows_in (night_found (Some night) o)) is.some
    ∙ (λ i. Some (record { rule = night.rule; method = night.method; rows = rows i }))

-- ---- a day, its columns and its night

pub record IsDayShown (sun : SunChoice) (polygons : List Polygon) (root : Cell) (day : DayRows) (number : ℕ) (text : List ℕ)
    (es : List Entry) (ns : Option (List Entry)) (rest : List ℕ) : Type 0 where
  pub between : List ℕ
  pub columns : columns_shown sun polygons root day number text ≡ Ok (es, between)
  pub night : night_shown sun polygons root day.number day.night (number + 7) between ≡ Ok (ns, rest)

with_columns_is : (entries : List Entry) (night : ShowsNight) (es : List Entry) (x : Option (List Entry) × List ℕ) →
    with_columns entries night ≡ Ok (es, x) → (entries ≡ es) × (night ≡ Ok x)
with_columns_is entries (Ok y) es x h =
    let same = ok_same _ _ (entries, y) (es, x) h refl refl in
    (ap (λ (p : List Entry × (Option (List Entry) × List ℕ)). p.0) same, ap Ok (ap (λ (p : List Entry × (Option (List Entry) × List ℕ)). p.1) same))
with_columns_is entries (Err bad) es x h = absurd (ok_no_err _ _ (es, x) bad (sym h) refl refl)

pub is_day_shown : (sun : SunChoice) (polygons : List Polygon) (root : Cell) (day : DayRows) (number : ℕ) (text : List ℕ) (es : List Entry)
    (ns : Option (List Entry)) (rest : List ℕ) → day_shown sun polygons root day number text ≡ Ok (es, (ns, rest)) →
    IsDayShown sun polygons root day number text es ns rest
unfolding day_shown
is_day_shown sun polygons root day number text es ns rest h =
    by (columns_shown sun polygons root day number text) refl h
  where
    by : (s : Shows) → columns_shown sun polygons root day number text ≡ s →
        columns_then s (night_shown sun polygons root day.number day.night (number + 7)) ≡ Ok (es, (ns, rest)) →
        IsDayShown sun polygons root day number text es ns rest
    by (Ok x) is h =
        let both = with_columns_is x.0 (night_shown sun polygons root day.number day.night (number + 7) x.1) es (ns, rest) h in
        record { between = x.1; columns = is ∙ ap (λ (e : List Entry). Ok (e, x.1)) both.0; night = both.1 }
    by (Err bad) is h = absurd (ok_no_err _ _ (es, (ns, rest)) bad (sym h) refl refl)

-- a day's columns and its night were shown
pub day_is_whole : (sun : SunChoice) (polygons : List Polygon) (root : Cell) (day : DayRows) (number next : ℕ) (text between : List ℕ) (es : List Entry)
    (ns : Option (List Entry)) (rest : List ℕ) → columns_shown sun polygons root day number text ≡ Ok (es, between) → next ≡ number + 7 →
    night_shown sun polygons root day.number day.night next between ≡ Ok (ns, rest) → day_shown sun polygons root day number text ≡ Ok (es, (ns, rest))
unfolding day_shown
day_is_whole sun polygons root day number next text between es ns rest is is_next night =
    let N = night_shown sun polygons root day.number day.night in
    ap (λ (s : Shows). columns_then s (N (number + 7))) is
    ∙ ap (λ (m : ℕ). with_columns es (N m between)) (sym is_next) ∙ ap (with_columns es) night

-- one of its columns' lines is bad
pub day_is_bad : (sun : SunChoice) (polygons : List Polygon) (root : Cell) (day : DayRows) (number : ℕ) (text : List ℕ) (bad : BadLine) →
    columns_shown sun polygons root day number text ≡ Err bad → day_shown sun polygons root day number text ≡ Err bad
unfolding day_shown
day_is_bad sun polygons root day number text bad is =
    ap (λ (s : Shows). columns_then s (night_shown sun polygons root day.number day.night (number + 7))) is

-- or one of its night's
pub night_is_bad : (sun : SunChoice) (polygons : List Polygon) (root : Cell) (day : DayRows) (number next : ℕ) (text between : List ℕ) (es : List Entry)
    (bad : BadLine) → columns_shown sun polygons root day number text ≡ Ok (es, between) → next ≡ number + 7 →
    night_shown sun polygons root day.number day.night next between ≡ Err bad → day_shown sun polygons root day number text ≡ Err bad
unfolding day_shown
night_is_bad sun polygons root day number next text between es bad is is_next night =
    let N = night_shown sun polygons root day.number day.night in
    ap (λ (s : Shows). columns_then s (N (number + 7))) is
    ∙ ap (λ (m : ℕ). with_columns es (N m between)) (sym is_next) ∙ ap (with_columns es) night

-- a day that is shown is for its rows
pub rows_shown : (sun : SunChoice) (polygons : List Polygon) (root : Cell) (day : DayRows) → IsWeekly day → (number : ℕ) (text : List ℕ) (es : List Entry)
    (ns : Option (List Entry)) (rest : List ℕ) → day_shown sun polygons root day number text ≡ Ok (es, (ns, rest)) → rows_in (day_found day es ns) ≡ day
rows_shown sun polygons root day weekly number text es ns rest h =
    let is = is_day_shown sun polygons root day number text es ns rest h in
    let seven = weekly.seven in
    let many = seven_shown sun polygons root day number text es is.between is.columns in
    let rows = rows_of_zip day.rows es (omega (arith, seven, many)) in
    let night = night_rows_shown sun polygons root day.number day.night weekly.two (number + 7) is.between ns rest is.night in
    λ i. record { number = day.number; rows = rows i; night = night i }

module _ (sun : SunChoice) (polygons : List Polygon) (root : Cell) where
  -- what every shown day keeps
  pub each_day : (P : DayTable → Type 0) (days : List DayRows) →
      Every (λ day. (number : ℕ) (text : List ℕ) (es : List Entry) (ns : Option (List Entry)) (rest : List ℕ) →
      day_shown sun polygons root day number text ≡ Ok (es, (ns, rest)) → P (day_found day es ns)) days →
      (number : ℕ) (text : List ℕ) → Every P (days_shown sun polygons root days number text).days
  each_day P [] f number text = tt
  each_day P (day ∷ days) f number text = by (day_shown sun polygons root day number text) refl (λ rest. each_day P days f.1 (number + lines_of day) rest)
    where
      by : (s : ShowsDay) → day_shown sun polygons root day number text ≡ s →
          ((rest : List ℕ) → Every P (days_shown sun polygons root days (number + lines_of day) rest).days) →
          Every P (day_then day s (days_shown sun polygons root days (number + lines_of day))).days
      by (Ok x) is others = (f.0 number text x.0 x.1.0 x.1.1 is, others x.1.1)
      by (Err bad) is others = tt

  -- the days that are shown are the first ones
  pub first_days : (days : List DayRows) → Every IsWeekly days → (number : ℕ) (text : List ℕ) →
      map rows_in (days_shown sun polygons root days number text).days ≡ take (length (days_shown sun polygons root days number text).days) days
  first_days [] each number text = refl
  first_days (day ∷ days) each number text = by (day_shown sun polygons root day number text) refl (λ rest. first_days days each.1 (number + lines_of day) rest)
    where
      by : (s : ShowsDay) → day_shown sun polygons root day number text ≡ s →
          ((rest : List ℕ) → map rows_in (days_shown sun polygons root days (number + lines_of day) rest).days
          ≡ take (length (days_shown sun polygons root days (number + lines_of day) rest).days) days) →
          map rows_in (day_then day s (days_shown sun polygons root days (number + lines_of day))).days
          ≡ take (length (day_then day s (days_shown sun polygons root days (number + lines_of day))).days) (day ∷ days)
      by (Ok x) is others =
          ap (λ d. d ∷ map rows_in (days_shown sun polygons root days (number + lines_of day) x.1.1).days)
          (rows_shown sun polygons root day each.0 number text x.0 x.1.0 x.1.1 is) ∙ ap (λ ds. day ∷ ds) (others x.1.1)
      by (Err bad) is others = refl

  -- and all where no line is bad
  pub all_days : (days : List DayRows) → Every IsWeekly days → (number : ℕ) (text rest : List ℕ) →
      (days_shown sun polygons root days number text).end ≡ Ok rest → map rows_in (days_shown sun polygons root days number text).days ≡ days
  all_days [] each number text rest h = refl
  all_days (day ∷ days) each number text rest h =
      by (day_shown sun polygons root day number text) refl (λ behind is. all_days days each.1 (number + lines_of day) behind rest is) h
    where
      by : (s : ShowsDay) → day_shown sun polygons root day number text ≡ s →
          ((behind : List ℕ) → (days_shown sun polygons root days (number + lines_of day) behind).end ≡ Ok rest →
          map rows_in (days_shown sun polygons root days (number + lines_of day) behind).days ≡ days) →
          (day_then day s (days_shown sun polygons root days (number + lines_of day))).end ≡ Ok rest →
          map rows_in (day_then day s (days_shown sun polygons root days (number + lines_of day))).days ≡ day ∷ days
      by (Ok x) is others end =
          ap (λ d. d ∷ map rows_in (days_shown sun polygons root days (number + lines_of day) x.1.1).days)
          (rows_shown sun polygons root day each.0 number text x.0 x.1.0 x.1.1 is) ∙ ap (λ ds. day ∷ ds) (others x.1.1 end)
      by (Err bad) is others end = absurd (ok_no_err _ _ rest bad (sym end) refl refl)

-- ---- entries so far

with_twice : (xs ys : List Entry) (r : Shows) → with_entries xs (with_entries ys r) ≡ with_entries (xs ++ ys) r
with_twice xs ys (Ok x) = ap (λ es. Ok (es, x.1)) (sym (append_assoc xs ys x.0))
with_twice xs ys (Err bad) = refl

-- the entries of the columns before k are these, and the others are still to be shown
unfoldable pub AreSoFar : (ℕ → List ℕ → Result Entry CoverFault) → ℕ → List ℕ → List Entry → ℕ → ℕ → List ℕ → Type 0
AreSoFar shows first start es k number text =
    entries_shown shows columns first start ≡ with_entries (take k es) (entries_shown shows (drop k columns) number text)

with_none : (r : Shows) → r ≡ with_entries [] r
with_none (Ok x) = refl
with_none (Err bad) = refl

pub so_far_none : (shows : ℕ → List ℕ → Result Entry CoverFault) (first : ℕ) (start : List ℕ) (es : List Entry) → AreSoFar shows first start es 0 first start
unfolding AreSoFar
so_far_none shows first start es = with_none (entries_shown shows columns first start)

module _ (shows : ℕ → List ℕ → Result Entry CoverFault) (first : ℕ) (start : List ℕ) (es : List Entry) (k number : ℕ) (text : List ℕ) where
  next_column : k < 7 → entries_shown shows (drop k columns) number text
      ≡ entry_then (shows k (first_line text)) number (entries_shown shows (drop (k + 1) columns) (number + 1) (behind_line text))
  next_column known =
      ap (λ ks. entries_shown shows ks number text) (drop_more columns k k known ∙ ap (λ (c : ℕ). c ∷ drop (k + 1) columns) (column_at k k known))

  pub so_far_more : (e : Entry) → k < 7 → k < length es → AreSoFar shows first start es k number text → shows k (first_line text) ≡ Ok e →
      AreSoFar shows first start (set es k e) (k + 1) (number + 1) (behind_line text)
  unfolding AreSoFar
  so_far_more e known inside so_far here =
      let rest = entries_shown shows (drop (k + 1) columns) (number + 1) (behind_line text) in
      so_far ∙ ap (with_entries (take k es)) (next_column known ∙ ap (λ r. entry_then r number rest) here)
      ∙ with_twice (take k es) (e ∷ []) rest ∙ ap (λ xs. with_entries xs rest) (sym (take_more_set es k e inside))

  pub so_far_all : k ≡ 7 → length es ≡ 7 → AreSoFar shows first start es k number text → entries_shown shows columns first start ≡ Ok (es, text)
  unfolding AreSoFar
  so_far_all end seven so_far =
      so_far ∙ ap (λ (m : ℕ). with_entries (take k es) (entries_shown shows (drop m columns) number text)) end
      ∙ ap (λ xs. Ok (xs, text)) (append-nil (take k es) ∙ take_all k es (omega (arith, end, seven)))

  pub so_far_bad : (bad : BadLine) → k < 7 → AreSoFar shows first start es k number text → bad.number ≡ number → shows k (first_line text) ≡ Err bad.fault →
      entries_shown shows columns first start ≡ Err bad
  unfolding AreSoFar
  so_far_bad bad known so_far is_number here =
      let rest = entries_shown shows (drop (k + 1) columns) (number + 1) (behind_line text) in
      so_far ∙ ap (with_entries (take k es)) (next_column known ∙ ap (λ r. entry_then r number rest) here)
      ∙ ap (λ (m : ℕ). Err (record { number = m; fault = bad.fault })) (sym is_number)

-- ---- a day's entries so far

unfoldable pub IsDaySoFar : SunChoice → List Polygon → Cell → DayRows → ℕ → List ℕ → List Entry → ℕ → ℕ → List ℕ → Type 0
IsDaySoFar sun polygons root day first start es k number text = AreSoFar (shown_at sun polygons root day) first start es k number text

module _ (sun : SunChoice) (polygons : List Polygon) (root : Cell) (day : DayRows) (first : ℕ) (start : List ℕ) (es : List Entry) where
  pub day_begins : IsDaySoFar sun polygons root day first start es 0 first start
  unfolding IsDaySoFar
  day_begins = so_far_none (shown_at sun polygons root day) first start es

  pub day_goes_on : (k number : ℕ) (text : List ℕ) (e : Entry) → k < 7 → k < length es → IsDaySoFar sun polygons root day first start es k number text →
      shown_at sun polygons root day k (first_line text) ≡ Ok e → IsDaySoFar sun polygons root day first start (set es k e) (k + 1) (number + 1) (behind_line text)
  unfolding IsDaySoFar
  day_goes_on k number text e known inside so_far here =
      so_far_more (shown_at sun polygons root day) first start es k number text e known inside so_far here

  pub columns_are_whole : (k number : ℕ) (text : List ℕ) → k ≡ 7 → length es ≡ 7 → IsDaySoFar sun polygons root day first start es k number text →
      columns_shown sun polygons root day first start ≡ Ok (es, text)
  unfolding IsDaySoFar columns_shown
  columns_are_whole k number text end seven so_far = so_far_all (shown_at sun polygons root day) first start es k number text end seven so_far

  pub columns_are_bad : (k number : ℕ) (text : List ℕ) (bad : BadLine) → k < 7 → IsDaySoFar sun polygons root day first start es k number text → bad.number ≡ number →
      shown_at sun polygons root day k (first_line text) ≡ Err bad.fault → columns_shown sun polygons root day first start ≡ Err bad
  unfolding IsDaySoFar columns_shown
  columns_are_bad k number text bad known so_far is_number here =
      so_far_bad (shown_at sun polygons root day) first start es k number text bad known so_far is_number here

-- ---- sunrise and sunset

module _ (shows : ℕ → List ℕ → Result Entry CoverFault) (number : ℕ) (text : List ℕ) where
  pub both_shown : (rise set : Entry) → shows 0 (first_line text) ≡ Ok rise → shows 1 (first_line (behind_line text)) ≡ Ok set →
      entries_shown shows night_columns number text ≡ Ok (rise ∷ set ∷ [], behind_line (behind_line text))
  both_shown rise set is_rise is_set = rw (is_rise, is_set) refl

  pub rise_is_bad : (bad : BadLine) → bad.number ≡ number → shows 0 (first_line text) ≡ Err bad.fault → entries_shown shows night_columns number text ≡ Err bad
  rise_is_bad bad is_number is_bad = rw is_bad (ap (λ (m : ℕ). Err (record { number = m; fault = bad.fault })) (sym is_number))

  pub set_is_bad : (rise : Entry) (bad : BadLine) → shows 0 (first_line text) ≡ Ok rise → bad.number ≡ number + 1 →
      shows 1 (first_line (behind_line text)) ≡ Err bad.fault → entries_shown shows night_columns number text ≡ Err bad
  set_is_bad rise bad is_rise is_number is_bad = rw (is_rise, is_bad) (ap (λ (m : ℕ). Err (record { number = m; fault = bad.fault })) (sym is_number))

-- ---- days so far

-- one day alone
pub one_shown : (sun : SunChoice) (polygons : List Polygon) (root : Cell) (day : DayRows) (number : ℕ) (text : List ℕ) (es : List Entry)
    (ns : Option (List Entry)) (rest : List ℕ) → day_shown sun polygons root day number text ≡ Ok (es, (ns, rest)) →
    days_shown sun polygons root (day ∷ []) number text ≡ record { days = day_found day es ns ∷ []; end = Ok rest }
one_shown sun polygons root day number text es ns rest h = ap (λ s. day_then day s (days_shown sun polygons root [] (number + lines_of day))) h

pub one_bad : (sun : SunChoice) (polygons : List Polygon) (root : Cell) (day : DayRows) (number : ℕ) (text : List ℕ) (bad : BadLine) →
    day_shown sun polygons root day number text ≡ Err bad →
    days_shown sun polygons root (day ∷ []) number text ≡ record { days = []; end = Err bad }
one_bad sun polygons root day number text bad h = ap (λ s. day_then day s (days_shown sun polygons root [] (number + lines_of day))) h

-- a day has seven lines or nine
pub few_lines : (night : Option NightRows) → lines_by night ≤ 9
few_lines None = omega arith
few_lines (Some night) = omega arith

module _ (sun : SunChoice) (polygons : List Polygon) (root : Cell) where
  -- days behind those that were shown
  pub shown_more : (before after : List DayRows) (number : ℕ) (text behind : List ℕ) → (days_shown sun polygons root before number text).end ≡ Ok behind →
      days_shown sun polygons root (before ++ after) number text
      ≡ with_days (days_shown sun polygons root before number text).days (days_shown sun polygons root after (number + sum_by lines_of before) behind)
  shown_more [] after number text behind h =
      let same : number ≡ number + sum_by lines_of [] = omega arith in
      let here = ok_same _ _ text behind h refl refl in
      ap (λ (m : ℕ). days_shown sun polygons root after m text) same ∙ ap (days_shown sun polygons root after (number + sum_by lines_of [])) here
  shown_more (day ∷ before) after number text behind h =
      by (day_shown sun polygons root day number text) (λ rest is. shown_more before after (number + lines_of day) rest behind is) h
    where
      by : (s : ShowsDay) → ((rest : List ℕ) → (days_shown sun polygons root before (number + lines_of day) rest).end ≡ Ok behind →
          days_shown sun polygons root (before ++ after) (number + lines_of day) rest
          ≡ with_days (days_shown sun polygons root before (number + lines_of day) rest).days
          (days_shown sun polygons root after ((number + lines_of day) + sum_by lines_of before) behind)) →
          (day_then day s (days_shown sun polygons root before (number + lines_of day))).end ≡ Ok behind →
          day_then day s (days_shown sun polygons root (before ++ after) (number + lines_of day))
          ≡ with_days (day_then day s (days_shown sun polygons root before (number + lines_of day))).days
          (days_shown sun polygons root after (number + sum_by lines_of (day ∷ before)) behind)
      by (Ok x) others end =
          let more : sum_by lines_of (day ∷ before) ≡ lines_of day + sum_by lines_of before = sum_by-cons lines_of day before in
          let same : (number + lines_of day) + sum_by lines_of before ≡ number + sum_by lines_of (day ∷ before) = omega (arith, more) in
          ap (with_days (day_found day x.0 x.1.0 ∷ [])) (others x.1.1 end
          ∙ ap (λ (m : ℕ). with_days (days_shown sun polygons root before (number + lines_of day) x.1.1).days (days_shown sun polygons root after m behind)) same)
      by (Err bad) others end = absurd (ok_no_err _ _ behind bad (sym end) refl refl)

  -- a day with a bad line is the last one
  pub ends_at : (day : DayRows) (after : List DayRows) (number : ℕ) (text : List ℕ) (bad : BadLine) →
      (days_shown sun polygons root (day ∷ []) number text).end ≡ Err bad →
      days_shown sun polygons root (day ∷ after) number text ≡ days_shown sun polygons root (day ∷ []) number text
  ends_at day after number text bad = by (day_shown sun polygons root day number text)
    where
      by : (s : ShowsDay) → (day_then day s (days_shown sun polygons root [] (number + lines_of day))).end ≡ Err bad →
          day_then day s (days_shown sun polygons root after (number + lines_of day)) ≡ day_then day s (days_shown sun polygons root [] (number + lines_of day))
      by (Ok x) end = absurd (ok_no_err _ _ x.1.1 bad end refl refl)
      by (Err other) end = refl

  -- what is shown of a day comes before what is shown of those behind it
  pub day_first : (day : DayRows) (after : List DayRows) (number : ℕ) (text : List ℕ) →
      (more : List DayTable) × ((days_shown sun polygons root (day ∷ after) number text).days ≡ (days_shown sun polygons root (day ∷ []) number text).days ++ more)
  day_first day after number text = by (day_shown sun polygons root day number text)
    where
      by : (s : ShowsDay) → (more : List DayTable) × ((day_then day s (days_shown sun polygons root after (number + lines_of day))).days
          ≡ (day_then day s (days_shown sun polygons root [] (number + lines_of day))).days ++ more)
      by (Ok x) = ((days_shown sun polygons root after (number + lines_of day) x.1.1).days, refl)
      by (Err bad) = ([], refl)
