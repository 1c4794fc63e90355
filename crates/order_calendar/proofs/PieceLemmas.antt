-- A calendar in pieces.
use Rattle.std.proofs.Common.{◌≡◌, ℕ, ◌+◌, ◌<◌, ◌≤◌, List, [], ◌∷◌, ◌++◌, length, take, drop, get_or, map, refl, sym, ap, ◌∙◌, append_assoc, append-nil, arith}
use Rattle.std.specs.Prelude.{ℤ, count_by, flat_map, zip}
use Rattle.std.proofs.lemmas.List.{drop_more, get_or-map, length-map, map-append, map_more, take_all, take-append-drop, take_more}
use Rattle.std.proofs.lemmas.List.Concat.{flat_map-append}
use Rattle.std.proofs.lemmas.Slice.Zip.{get_or-zip, length-zip}
use Rattle.cell_split.specs.declared.cell.Cell.{Cell}
use Rattle.cell_split.specs.declared.verdict.Entry.{Entry}
use Rattle.cell_split.specs.declared.verdict.Entry.TheVariants.{Minute, Never, Open, Whole}
use Rattle.ical_text.specs.Calendar.{day_events, description_text, end_text, entry_events, event_of, event_text, head_text}
use Rattle.ical_text.specs.Moments.{stamp_text}
use Rattle.ical_text.specs.Tables.{Sheet, table_events}
use Rattle.method_table.specs.declared.problem.Problem.{Problem}
use Rattle.method_table.specs.Row.{Row, row_of}
use Rattle.order_rule.specs.Asked.{Asked}
use Rattle.order_table.specs.Made.{searched}
use Rattle.order_table.specs.Ready.{IsReady, found_in}
use Rattle.order_table.specs.Table.{DayTable, day_undecided, is_undecided}
use Rattle.order_table.specs.Trees.{entries_of, table_of_trees}
use Rattle.order_table.specs.declared.day.Day.{Day}
use Rattle.order_table.specs.declared.ready.Ready.{Ready}
use Rattle.order_table.proofs.TableLemmas.{ready_is}
use Rattle.order_table.proofs.TextLemmas.{entries_of_zip}
use Rattle.ring_survey.specs.Polygons.{Polygon}
use Rattle.method_table.specs.declared.sun.SunChoice.{SunChoice}
use Rattle.worker_table.specs.Entries.{entries_on}
use Rattle.order_calendar.specs.Calendar.{calendar_of, found_on, sheet_of}
use Rattle.order_calendar.specs.Pieces.{day_text, days_text, entry_text, event_in, found_text}

-- ---- the events of a day, entry by entry

-- an entry that is no minute has none
pub no_event : (s : Sheet) (number : ℤ) (p : Row) (e : Entry) (text : List ℕ) → ((rank : ℕ) → e ≡ Minute rank → ⊥) → text ≡ text ++ entry_text s number (p, e)
unfolding entry_text
no_event s number p (Minute rank) text never = absurd (never rank refl)
no_event s number p Whole text never = sym (append-nil text)
no_event s number p Never text never = sym (append-nil text)
no_event s number p (Open safe from cell) text never = sym (append-nil text)

-- the event of a minute
pub event_made : (s : Sheet) (number : ℤ) (p : Row) (rank : ℕ) (e : Entry) (zone event : List ℕ) → e ≡ Minute rank → zone ≡ s.zone →
    event ≡ event_text (stamp_text s.from) (description_text s.method s.asr zone) (event_of s.west s.south number p rank) →
    event ≡ entry_text s number (p, e)
unfolding entry_text
event_made s number p rank e zone event is is_zone made =
    let here = event_of s.west s.south number p rank in
    made ∙ ap (λ z. event_text (stamp_text s.from) (description_text s.method s.asr z) here) is_zone ∙ sym (append-nil (event_in s here))
    ∙ ap (λ x. flat_map (event_in s) (entry_events s.west s.south number (p, x))) (sym is)

module _ (s : Sheet) (number : ℤ) where
  found_append : (xs : List (Row × Entry)) (x : Row × Entry) → found_text s number (xs ++ x ∷ []) ≡ found_text s number xs ++ entry_text s number x
  found_append xs x =
      flat_map-append (entry_text s number) xs (x ∷ []) ∙ ap (λ t. found_text s number xs ++ t) (append-nil (entry_text s number x))

  -- those of one entry more
  pub found_step : (ps : List Problem) (es : List Entry) (i : ℕ) (p : Problem) (e : Entry) → i < length ps → i < length es →
      p ≡ get_or ps i p → (a l m : List ℕ) → l ≡ a ++ found_text s number (take i (zip (map row_of ps) es)) →
      m ≡ l ++ entry_text s number (row_of p, get_or es i e) → m ≡ a ++ found_text s number (take (i + 1) (zip (map row_of ps) es))
  found_step ps es i p e in_ps in_es is_p a l m so_far more =
      let xs = zip (map row_of ps) es in
      let found = get_or es i e in
      let within : i < length xs = omega (arith, in_ps, in_es, length-zip (map row_of ps) es, length-map ps row_of) in
      let row : get_or (map row_of ps) i (row_of p) ≡ row_of p = get_or-map row_of ps i p (row_of p) in_ps ∙ ap row_of (sym is_p) in
      let pair : get_or xs i (row_of p, e) ≡ (row_of p, found) =
      get_or-zip (map row_of ps) es i (row_of p, e) (omega (arith, in_ps, length-map ps row_of)) in_es ∙ ap (λ r. (r, found)) row in
      let next : take (i + 1) xs ≡ take i xs ++ (row_of p, found) ∷ [] = take_more xs i (row_of p, e) within ∙ ap (λ x. take i xs ++ x ∷ []) pair in
      more ∙ ap (λ t. t ++ entry_text s number (row_of p, found)) so_far
      ∙ append_assoc a (found_text s number (take i xs)) (entry_text s number (row_of p, found))
      ∙ ap (λ t. a ++ t) (sym (ap (found_text s number) next ∙ found_append (take i xs) (row_of p, found)))

  -- all of them
  pub found_all : (ps : List Problem) (es : List Entry) (i : ℕ) (a l : List ℕ) → length ps ≤ i →
      l ≡ a ++ found_text s number (take i (zip (map row_of ps) es)) → l ≡ a ++ found_text s number (zip (map row_of ps) es)
  found_all ps es i a l end so_far =
      let all : length (zip (map row_of ps) es) ≤ i = omega (arith, end, length-zip (map row_of ps) es, length-map ps row_of) in
      so_far ∙ ap (λ xs. a ++ found_text s number xs) (take_all i (zip (map row_of ps) es) all)

-- a day with its own entries
module _ (sun : SunChoice) (polygons : List Polygon) (root : Cell) (day : Day) (entries : List Entry) (own : entries ≡ entries_on sun polygons root day) where
  pub text_found : (s : Sheet) → found_text s day.number (zip (map row_of day.problems) entries) ≡ day_text s (searched sun polygons root day)
  unfolding day_text searched
  text_found s = ap (λ es. found_text s day.number (zip (map row_of day.problems) es)) own

  pub count_found : length day.problems ≡ 7 → count_by is_undecided entries ≡ day_undecided (searched sun polygons root day)
  unfolding day_undecided searched entries_of
  count_found seven =
      let rows = map row_of day.problems in
      let same : length rows ≡ 7 = length-map day.problems row_of ∙ seven in
      ap (count_by is_undecided) (own ∙ sym (entries_of_zip rows (entries_on sun polygons root day) same))

-- ---- days that follow each other

module _ (s : Sheet) (f : Day → DayTable) where
  more : (days : List Day) (i : ℕ) (day : Day) → i < length days → day ≡ get_or days i day →
      map f (take (i + 1) days) ≡ map f (take i days) ++ f day ∷ []
  more days i day within is = map_more f days i day within ∙ ap (λ d. map f (take i days) ++ f d ∷ []) (sym is)

  -- the events of one day more
  pub text_step : (days : List Day) (i : ℕ) (day : Day) → i < length days → day ≡ get_or days i day →
      days_text s (map f (take (i + 1) days)) ≡ days_text s (map f (take i days)) ++ day_text s (f day)
  text_step days i day within is =
      ap (days_text s) (more days i day within is) ∙ flat_map-append (day_text s) (map f (take i days)) (f day ∷ [])
      ∙ ap (λ t. days_text s (map f (take i days)) ++ t) (append-nil (day_text s (f day)))

  -- those of a day and of the days after it
  pub text_rest : (days : List Day) (i : ℕ) (day : Day) → i < length days → day ≡ get_or days i day →
      days_text s (map f days) ≡ days_text s (map f (take i days)) ++ (day_text s (f day) ++ days_text s (map f (drop (i + 1) days)))
  text_rest days i day within is =
      let whole : days ≡ take i days ++ drop i days = sym (take-append-drop i days) in
      let rest : drop i days ≡ day ∷ drop (i + 1) days = drop_more days i day within ∙ ap (λ d. d ∷ drop (i + 1) days) (sym is) in
      ap (λ ds. days_text s (map f ds)) (whole ∙ ap (λ ds. take i days ++ ds) rest)
      ∙ ap (days_text s) (map-append f (take i days) (day ∷ drop (i + 1) days))
      ∙ flat_map-append (day_text s) (map f (take i days)) (f day ∷ map f (drop (i + 1) days))

-- ---- the whole calendar

nested : (s : Sheet) (number : ℤ) (found : List (Row × Entry)) →
    flat_map (event_in s) (day_events s.west s.south number found) ≡ found_text s number found
unfolding entry_text
nested s number [] = refl
nested s number (x ∷ found) =
    flat_map-append (event_in s) (entry_events s.west s.south number x) (day_events s.west s.south number found)
    ∙ ap (λ t. flat_map (event_in s) (entry_events s.west s.south number x) ++ t) (nested s number found)

all_events : (s : Sheet) (days : List DayTable) → flat_map (event_in s) (table_events s (map found_on days)) ≡ days_text s days
unfolding day_text
all_events s [] = refl
all_events s (day ∷ days) =
    flat_map-append (event_in s) (day_events s.west s.south day.number day.found) (table_events s (map found_on days))
    ∙ ap (λ t. t ++ flat_map (event_in s) (table_events s (map found_on days))) (nested s day.number day.found)
    ∙ ap (λ t. found_text s day.number day.found ++ t) (all_events s days)

-- the head with the days' events, and the end
pub calendar_is : (o : Asked) (r : Ready) (s : Sheet) (end : List ℕ) → IsReady o r → s ≡ sheet_of o → end ≡ end_text →
    calendar_of o ≡ (head_text ++ days_text s (found_in r)) ++ end
unfolding calendar_of
calendar_is o r s end is is_sheet is_end =
    let days = table_of_trees o in
    ap (λ t. head_text ++ (t ++ end_text)) (all_events (sheet_of o) days)
    ∙ ap (λ e. head_text ++ (days_text (sheet_of o) days ++ e)) (sym is_end)
    ∙ ap (λ x. head_text ++ (days_text x days ++ end)) (sym is_sheet)
    ∙ ap (λ ds. head_text ++ (days_text s ds ++ end)) (sym (ready_is o r is))
    ∙ sym (append_assoc head_text (days_text s (found_in r)) end)
