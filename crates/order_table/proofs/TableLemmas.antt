-- A table in pieces.
use Rattle.std.proofs.Common.{◌≡◌, ℕ, ◌+◌, ◌<◌, List, [], ◌∷◌, ◌++◌, length, take, drop, get_or, map, refl, sym, ap, ◌∙◌, append-nil, arith}
use Rattle.std.specs.Prelude.{sum_by}
use Rattle.std.proofs.lemmas.List.{map_more, map-append, drop_more, take-append-drop}
use Rattle.std.proofs.lemmas.List.Concat.{flat_map-append}
use Rattle.std.proofs.lemmas.List.Sums.{sum_by-append}
use Rattle.cell_split.specs.declared.cell.Cell.{Cell}
use Rattle.cell_split.specs.declared.verdict.Entry.{Entry}
use Rattle.cell_judge.specs.Skies.{sky_content}
use Rattle.method_table.specs.Row.{Row}
use Rattle.order_rule.specs.Asked.{Asked}
use Rattle.ring_survey.specs.Polygons.{Polygon}
use Rattle.method_table.specs.declared.sun.SunChoice.{SunChoice}
use Rattle.order_table.specs.Days.{days_of}
use Rattle.order_table.specs.Made.{day_of, searched}
use Rattle.order_table.specs.Ready.{IsReady, found_in}
use Rattle.order_table.specs.Table.{day_text, day_undecided, days_text, days_undecided}
use Rattle.order_table.specs.Trees.{columns, entries_of, entry_at, root_over, table_of_trees, tree_day, undecided}
use Rattle.order_table.specs.declared.day.Day.{Day}
use Rattle.order_table.specs.declared.ready.Ready.{Ready}

-- the seven entries
pub entries_are : (sun sun' : SunChoice) (polygons polygons' : List Polygon) (root root' : Cell) (rows : List Row) (a b c d e f g : Entry) →
    sun' ≡ sun → polygons' ≡ polygons → root' ≡ root → a ≡ entry_at (sky_content sun' polygons' rows root') 0 → b ≡ entry_at (sky_content sun' polygons' rows root') 1 →
    c ≡ entry_at (sky_content sun' polygons' rows root') 2 → d ≡ entry_at (sky_content sun' polygons' rows root') 3 →
    e ≡ entry_at (sky_content sun' polygons' rows root') 4 → f ≡ entry_at (sky_content sun' polygons' rows root') 5 →
    g ≡ entry_at (sky_content sun' polygons' rows root') 6 → (a ∷ b ∷ c ∷ d ∷ e ∷ f ∷ g ∷ []) ≡ entries_of sun polygons root rows
unfolding entries_of
entries_are sun sun' polygons polygons' root root' rows a b c d e f g same_sun same same_root ia ib ic id ie if' ig =
    rw (ia, ib, ic, id, ie, if', ig) (ap (λ (s : SunChoice). map (entry_at (sky_content s polygons' rows root')) columns) same_sun
    ∙ ap (λ (p : List Polygon). map (entry_at (sky_content sun p rows root')) columns) same
    ∙ ap (λ (r : Cell). map (entry_at (sky_content sun polygons rows r)) columns) same_root)

-- ---- all days, as they are searched

-- by skies under one sun over one district
pub searched_alike : (sun sun' : SunChoice) (polygons polygons' : List Polygon) (root root' : Cell) → sun' ≡ sun → polygons' ≡ polygons → root' ≡ root →
    searched sun' polygons' root' ≡ searched sun polygons root
searched_alike sun sun' polygons polygons' root root' same_sun same same_root = rw (same_sun, same, same_root) refl

module _ (sun : SunChoice) (polygons : List Polygon) (root : Cell) where
  found_more : (days : List Day) (i : ℕ) (day : Day) → i < length days → day ≡ get_or days i day →
      map (searched sun polygons root) (take (i + 1) days) ≡ map (searched sun polygons root) (take i days) ++ searched sun polygons root day ∷ []
  found_more days i day within is_day = map_more (searched sun polygons root) days i day within ∙ ap (λ d. map (searched sun polygons root) (take i days) ++ searched sun polygons root d ∷ []) (sym is_day)

  -- the lines of one day more
  pub days_step : (days : List Day) (i : ℕ) (day : Day) → i < length days → day ≡ get_or days i day →
      days_text (map (searched sun polygons root) (take (i + 1) days)) ≡ days_text (map (searched sun polygons root) (take i days)) ++ day_text (searched sun polygons root day)
  days_step days i day within is_day =
      ap days_text (found_more days i day within is_day) ∙ flat_map-append day_text (map (searched sun polygons root) (take i days)) (searched sun polygons root day ∷ [])
      ∙ ap (λ t. days_text (map (searched sun polygons root) (take i days)) ++ t) (append-nil (day_text (searched sun polygons root day)))

  pub undecided_step : (days : List Day) (i : ℕ) (day : Day) → i < length days → day ≡ get_or days i day →
      days_undecided (map (searched sun polygons root) (take (i + 1) days)) ≡ days_undecided (map (searched sun polygons root) (take i days)) + day_undecided (searched sun polygons root day)
  undecided_step days i day within is_day =
      let one : sum_by day_undecided (searched sun polygons root day ∷ []) ≡ day_undecided (searched sun polygons root day) = omega arith in
      ap days_undecided (found_more days i day within is_day) ∙ sum_by-append day_undecided (map (searched sun polygons root) (take i days)) (searched sun polygons root day ∷ [])
      ∙ ap (λ n. days_undecided (map (searched sun polygons root) (take i days)) + n) one

  -- a day and those after it
  pub days_rest : (days : List Day) (i : ℕ) (day : Day) → i < length days → day ≡ get_or days i day →
      days_text (map (searched sun polygons root) days) ≡ days_text (map (searched sun polygons root) (take i days)) ++ (day_text (searched sun polygons root day) ++ days_text (map (searched sun polygons root) (drop (i + 1) days)))
  days_rest days i day within is_day =
      let whole : days ≡ take i days ++ drop i days = sym (take-append-drop i days) in
      let rest : drop i days ≡ day ∷ drop (i + 1) days = drop_more days i day within ∙ ap (λ d. d ∷ drop (i + 1) days) (sym is_day) in
      ap (λ ds. days_text (map (searched sun polygons root) ds)) (whole ∙ ap (λ ds. take i days ++ ds) rest)
      ∙ ap days_text (map-append (searched sun polygons root) (take i days) (day ∷ drop (i + 1) days))
      ∙ flat_map-append day_text (map (searched sun polygons root) (take i days)) (searched sun polygons root day ∷ map (searched sun polygons root) (drop (i + 1) days))

-- ---- the whole table

-- the days of an order as they are searched
searched_all : (sun : SunChoice) (polygons : List Polygon) (root : Cell) (days : List Day) →
    map (searched sun polygons root) days ≡ map (tree_day sun polygons root) (map day_of days)
unfolding searched
searched_all sun polygons root [] = refl
searched_all sun polygons root (day ∷ rest) = ap (λ ds. searched sun polygons root day ∷ ds) (searched_all sun polygons root rest)

table_found : (o : Asked) (sun : SunChoice) (polygons : List Polygon) (root : Cell) (days : List Day) → sun ≡ o.sun → polygons ≡ o.district →
    root ≡ root_over o.district → map day_of days ≡ days_of o → map (searched sun polygons root) days ≡ table_of_trees o
unfolding table_of_trees
table_found o sun polygons root days is_sun is_district is_root are_days =
    searched_all sun polygons root days ∙ rw (is_sun, is_district, is_root, are_days) refl

pub ready_is : (o : Asked) (r : Ready) → IsReady o r → found_in r ≡ table_of_trees o
ready_is o r is = table_found o r.sky.sun r.sky.district r.sky.root r.days.items is.sun is.district is.root is.days

pub count_is : (o : Asked) (r : Ready) (count : ℕ) → IsReady o r → count ≡ days_undecided (found_in r) → count ≡ undecided o
unfolding undecided
count_is o r count is is_count = is_count ∙ ap days_undecided (ready_is o r is)
