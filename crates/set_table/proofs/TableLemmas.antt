-- A table of a set that is written some days at a time.
use Rattle.std.proofs.Common.{◌≡◌, ℕ, ◌+◌, ◌-◌, ◌<◌, ◌≤◌, List, [], ◌∷◌, ◌++◌, length, map, take, drop, get_or, refl, sym, ap, ◌∙◌, append-nil, append_assoc, arith}
use Rattle.std.specs.Prelude.{sum_by}
use Rattle.std.proofs.lemmas.List.{drop-take, drop_more, length-map, map-append, map_more, take-append-drop, take-take}
use Rattle.std.proofs.lemmas.List.Concat.{flat_map-append}
use Rattle.std.proofs.lemmas.List.Sums.{sum_by-append}
use Rattle.cell_judge.specs.declared.sky.Sky.{Sky}
use Rattle.cell_split.specs.declared.verdict.Entry.{Entry}
use Rattle.order_table.specs.Made.{day_of}
use Rattle.order_table.specs.declared.day.Day.{Day}
use Rattle.set_search.specs.Searches.{entries_on, entries_on_days}
use Rattle.set_table.specs.Made.{searched}
use Rattle.set_table.specs.Table.{set_day, set_day_text, set_day_undecided, set_days_text, set_days_undecided}

-- ---- days that follow each other

-- the days up to a number, by those up to a lesser one
pub days_between : (days : List Day) (begun end : ℕ) → begun ≤ end → take end days ≡ take begun days ++ take (end - begun) (drop begun days)
days_between days begun end before =
    let sum : begun + (end - begun) ≡ end = omega (arith, before) in
    ap (λ n. take n days) (sym sum) ∙ sym (take-append-drop begun (take (begun + (end - begun)) days))
    ∙ ap (λ (ds : List Day). ds ++ drop begun (take (begun + (end - begun)) days)) (take-take begun (begun + (end - begun)) days (omega arith))
    ∙ ap (λ (ds : List Day). take begun days ++ ds) (drop-take begun (end - begun) days)

-- and all of them
pub days_around : (days : List Day) (begun end : ℕ) → begun ≤ end → days ≡ take begun days ++ (take (end - begun) (drop begun days) ++ drop end days)
days_around days begun end before =
    sym (take-append-drop end days) ∙ ap (λ (ds : List Day). ds ++ drop end days) (days_between days begun end before)
    ∙ append_assoc (take begun days) (take (end - begun) (drop begun days)) (drop end days)

-- ---- the entries of a day, in front of those of the days after it

-- the days from one on begin with it
pub days_left : (days : List Day) (i : ℕ) (day : Day) → i < length days → day ≡ get_or days i day → drop i days ≡ day ∷ drop (i + 1) days
days_left days i day within is_day = drop_more days i day within ∙ ap (λ d. d ∷ drop (i + 1) days) (sym is_day)

take_front : (xs ys : List (List Entry)) (n : ℕ) → n ≡ length xs → take n (xs ++ ys) ≡ xs
take_front [] ys n same = rw same refl
take_front (x ∷ xs) ys n same = rw same (ap (λ zs. x ∷ zs) (take_front xs ys (length xs) refl))

drop_front : (xs ys : List (List Entry)) (n : ℕ) → n ≡ length xs → drop n (xs ++ ys) ≡ ys
drop_front [] ys n same = rw same refl
drop_front (x ∷ xs) ys n same = rw same (drop_front xs ys (length xs) refl)

module _ (skies : List Sky) where
  -- what is found of a day and of those after it
  pub found_here : (left : List (List Entry)) (days : List Day) (day : Day) (n : ℕ) → left ≡ entries_on_days skies (day ∷ days) → n ≡ length skies →
      take n left ≡ entries_on skies day
  found_here left days day n are same =
      ap (λ (es : List (List Entry)). take n es) are
      ∙ take_front (entries_on skies day) (entries_on_days skies days) n (same ∙ sym (length-map skies _))

  pub found_after : (left : List (List Entry)) (days : List Day) (day : Day) (n : ℕ) → left ≡ entries_on_days skies (day ∷ days) → n ≡ length skies →
      drop n left ≡ entries_on_days skies days
  found_after left days day n are same =
      ap (λ (es : List (List Entry)). drop n es) are
      ∙ drop_front (entries_on skies day) (entries_on_days skies days) n (same ∙ sym (length-map skies _))

  -- ---- what is written of days that follow each other

  pub text_of_both : (x y : List Day) →
      set_days_text (map (searched skies) (x ++ y)) ≡ set_days_text (map (searched skies) x) ++ set_days_text (map (searched skies) y)
  text_of_both x y = ap set_days_text (map-append (searched skies) x y) ∙ flat_map-append set_day_text (map (searched skies) x) (map (searched skies) y)

  pub undecided_of_both : (x y : List Day) →
      set_days_undecided (map (searched skies) (x ++ y)) ≡ set_days_undecided (map (searched skies) x) + set_days_undecided (map (searched skies) y)
  undecided_of_both x y = ap set_days_undecided (map-append (searched skies) x y) ∙ sum_by-append set_day_undecided (map (searched skies) x) (map (searched skies) y)

  -- the day with what was found of it
  pub searched_with : (day : Day) (here : List (List Entry)) → here ≡ entries_on skies day → set_day (day_of day) here ≡ searched skies day
  unfolding searched
  searched_with day here are = ap (set_day (day_of day)) are

  -- ---- one day more

  found_more : (days : List Day) (i : ℕ) (day : Day) → i < length days → day ≡ get_or days i day →
      map (searched skies) (take (i + 1) days) ≡ map (searched skies) (take i days) ++ searched skies day ∷ []
  found_more days i day within is_day = map_more (searched skies) days i day within ∙ ap (λ d. map (searched skies) (take i days) ++ searched skies d ∷ []) (sym is_day)

  pub days_step : (days : List Day) (i : ℕ) (day : Day) → i < length days → day ≡ get_or days i day →
      set_days_text (map (searched skies) (take (i + 1) days)) ≡ set_days_text (map (searched skies) (take i days)) ++ set_day_text (searched skies day)
  days_step days i day within is_day =
      ap set_days_text (found_more days i day within is_day) ∙ flat_map-append set_day_text (map (searched skies) (take i days)) (searched skies day ∷ [])
      ∙ ap (λ t. set_days_text (map (searched skies) (take i days)) ++ t) (append-nil (set_day_text (searched skies day)))

  pub undecided_step : (days : List Day) (i : ℕ) (day : Day) → i < length days → day ≡ get_or days i day →
      set_days_undecided (map (searched skies) (take (i + 1) days)) ≡ set_days_undecided (map (searched skies) (take i days)) + set_day_undecided (searched skies day)
  undecided_step days i day within is_day =
      let one : sum_by set_day_undecided (searched skies day ∷ []) ≡ set_day_undecided (searched skies day) = omega arith in
      ap set_days_undecided (found_more days i day within is_day) ∙ sum_by-append set_day_undecided (map (searched skies) (take i days)) (searched skies day ∷ [])
      ∙ ap (λ n. set_days_undecided (map (searched skies) (take i days)) + n) one

  -- a day and those after it
  pub days_rest : (days : List Day) (i : ℕ) (day : Day) → i < length days → day ≡ get_or days i day →
      set_days_text (map (searched skies) days) ≡ set_days_text (map (searched skies) (take i days)) ++ (set_day_text (searched skies day) ++ set_days_text (map (searched skies) (drop (i + 1) days)))
  days_rest days i day within is_day =
      ap (λ ds. set_days_text (map (searched skies) ds)) (sym (take-append-drop i days) ∙ ap (λ ds. take i days ++ ds) (days_left days i day within is_day))
      ∙ text_of_both (take i days) (day ∷ drop (i + 1) days)
