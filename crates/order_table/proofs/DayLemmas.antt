-- The days of an order.
use Rattle.std.proofs.Common.{◌≡◌, ℕ, suc, ◌+◌, ◌<◌, ◌≤◌, List, [], ◌∷◌, ◌++◌, length, map, drop, get_or, refl, sym, ap, ◌∙◌, append_assoc, arith, to_z, of_z, w32, Bool, true, false, inl, inr}
use Rattle.std.specs.Prelude.{Option, Some, slice_get, ℤ, pos, negsuc, neg_ℤ, ◌+ℤ◌, ◌≤ℤ◌, ◌⊎◌, if◌then◌else◌, None, fold}
use Rattle.std.specs.Int.{int_max, int_rem_euclid}
use Rattle.std.proofs.lemmas.Int.{ints, clamps}
use Rattle.std.proofs.lemmas.List.{drop_more, length-map, map-append}
use Rattle.std.proofs.lemmas.Option.{get_or_from_slice_get}
use Rattle.method_table.specs.Row.{Row, row_of}
use Rattle.method_table.specs.Table.{noon_of, rows}
use Rattle.ring_survey.specs.Polygons.{Polygon}
use Rattle.ring_survey.specs.Extent.{longitudes, least, greatest, positions_of}
use Rattle.ring_survey.specs.Faults.{first_fault}
use Rattle.ring_survey.proofs.Reach.{AllIn}
use Rattle.ring_survey.proofs.Sound.{sound}
use Rattle.cell_split.specs.Cells.{IsRoot}
use Rattle.cell_judge.specs.DayLaws.{IsDay}
use Rattle.cell_judge.proofs.DayLaws.{days_are_in_limits}
use Rattle.cell_judge.specs.Limits.{AreInLimits}
use Rattle.night_portion.specs.Sun.{night_rows}
use Rattle.night_rule.specs.declared.rule.NightRule.{NightRule}
use Rattle.method_table.specs.declared.problem.Problem.{Problem}
use Rattle.cell_judge.proofs.ExtentLemmas.{IsBetween, west_near, south_near, xs_near}
use Rattle.order_rule.specs.Asked.{Asked}
use Rattle.order_rule.specs.Late.{interval_on}
use Rattle.order_rule.specs.Offsets.{IsOffset, first_day, last_day}
use Rattle.order_table.specs.Days.{NightRows, days_from, days_of, night_on, noon_on, rows_on}
use Rattle.order_table.specs.Made.{IsDayAt, day_of}
use Rattle.order_table.specs.declared.day.Day.{Day}
use Rattle.order_table.specs.Trees.{root_over}

-- ---- the limits of a district

fold_max : (low high a : ℤ) (zs : List ℤ) → a ≤ℤ high → AllIn low high zs → (a ≤ℤ fold int_max a zs) × (fold int_max a zs ≤ℤ high)
fold_max low high a [] h all = (omega (arith, ints), h)
fold_max low high a (z ∷ zs) h all =
    let rest = fold_max low high (int_max a z) zs (omega (arith, ints, clamps, h, all.1)) all.2 in
    (omega (arith, ints, clamps, rest.0), rest.1)

greatest_between : (low high : ℤ) (zs : List ℤ) → low ≤ℤ pos 0 → pos 0 ≤ℤ high → AllIn low high zs → IsBetween low high (greatest zs)
greatest_between low high [] g h all = record { not_low = g; not_high = h }
greatest_between low high (z ∷ zs) g h all =
    let f = fold_max low high z zs all.1 all.2 in
    record { not_low = omega (arith, ints, f.0, all.0); not_high = f.1 }

pub east_near : (polygons : List Polygon) → first_fault polygons ≡ None →
    IsBetween (neg_ℤ (pos 360_000_000)) (pos 360_000_000) (greatest (longitudes polygons))
east_near polygons h =
    greatest_between _ _ (longitudes polygons) (omega (arith, ints)) (omega (arith, ints)) (xs_near (positions_of polygons) (sound polygons h).near)

pub root_is_root : (polygons : List Polygon) → first_fault polygons ≡ None → IsRoot (root_over polygons)
root_is_root polygons h =
    let west = west_near polygons h in
    let south = south_near polygons h in
    record {
      size = refl;
      first = refl;
      last = refl;
      west = omega (arith, ints, west.not_low);
      east = omega (arith, ints, west.not_high);
      south = omega (arith, ints, south.not_low);
      north = omega (arith, ints, south.not_high);
    }

-- ---- one day

noon_between : (z : ℤ) → (pos 0 ≤ℤ int_rem_euclid z (pos 1440)) × (int_rem_euclid z (pos 1440) ≤ℤ pos 1439)
noon_between (pos a) = (omega (arith, ints), omega (arith, ints))
noon_between (negsuc a) = (omega (arith, ints), omega (arith, ints))

pub is_day : (o : Asked) (day offset : ℤ) → first_day ≤ℤ day → day ≤ℤ last_day → IsOffset offset → o.height ≤ 9000 →
    IsDay day offset (noon_on o offset) o.height
is_day o day offset early late range low =
    let noon = noon_between _ in
    record {
      not_early = early;
      not_late = late;
      offset_not_low = range.low;
      offset_not_high = range.high;
      noon_not_negative = noon.0;
      noon_below_a_day = noon.1;
      not_high = low;
    }

-- the reference noon, from what it was made of
pub noon_is : (o : Asked) (offset noon west east : ℤ) → noon ≡ noon_of west east offset → west ≡ least (longitudes o.district) →
    east ≡ greatest (longitudes o.district) → noon ≡ noon_on o offset
noon_is o offset noon west east is_noon is_west is_east = is_noon ∙ rw (is_west, is_east) refl

-- the rows of a day, from what its problems were made of
pub rows_are : (o : Asked) (day offset noon interval : ℤ) (found : List Row) → found ≡ rows o.method o.asr day offset noon o.height interval →
    noon ≡ noon_on o offset →
    interval ≡ interval_on o.late day → found ≡ rows_on o day offset
unfolding rows_on
rows_are o day offset noon interval found is_found is_noon is_interval = is_found ∙ rw (is_noon, is_interval) refl

-- the interval has one of two values
pub interval_known : (late : Bool) (interval : ℤ) → interval ≡ (if late then pos 120 else pos 90) →
    (to_z w32 (of_z w32 interval) ≡ pos 90) ⊎ (to_z w32 (of_z w32 interval) ≡ pos 120)
interval_known true interval is = inr (rw is refl)
interval_known false interval is = inl (rw is refl)

-- the night of a day, from what its problems were made of
pub night_made : (o : Asked) (day offset noon : ℤ) (rule : NightRule) (found : List Row) → found ≡ night_rows day offset noon o.height → noon ≡ noon_on o offset →
    o.night ≡ Some rule → Some (record { rule = rule; method = o.method; rows = found }) ≡ night_on o day offset
unfolding night_on
night_made o day offset noon rule found is_found is_noon is_rule = rw (is_rule, is_found, is_noon) refl

pub no_night : (o : Asked) (day offset : ℤ) → o.night ≡ None → None ≡ night_on o day offset
unfolding night_on
no_night o day offset is = rw is refl

pub day_limits : (o : Asked) (day offset : ℤ) (problems : List Problem) → first_day ≤ℤ day → day ≤ℤ last_day → IsOffset offset → o.height ≤ 9000 →
    map row_of problems ≡ rows_on o day offset → AreInLimits problems
unfolding rows_on
day_limits o day offset problems early late range low same =
    days_are_in_limits o.method o.asr day offset (noon_on o offset) o.height
    (interval_on o.late day) (is_day o day offset early late range low) problems same

-- ---- the days as they are made

pub days_more : (o : Asked) (found : List Day) (i : ℕ) (day : Day) → i < length o.offsets → IsDayAt o i (day_of day) →
    map day_of found ++ days_from o (o.from_day +ℤ pos i) (drop i o.offsets) ≡ days_of o →
    map day_of (found ++ day ∷ []) ++ days_from o (o.from_day +ℤ pos (i + 1)) (drop (i + 1) o.offsets) ≡ days_of o
days_more o found i day within is so_far =
    let rest : drop i o.offsets ≡ get_or o.offsets i (pos 0) ∷ drop (i + 1) o.offsets = drop_more o.offsets i (pos 0) within in
    let next : (o.from_day +ℤ pos i) +ℤ pos 1 ≡ o.from_day +ℤ pos (i + 1) = omega (arith, ints) in
    let tail = days_from o (o.from_day +ℤ pos (i + 1)) (drop (i + 1) o.offsets) in
    let here : days_from o (o.from_day +ℤ pos i) (drop i o.offsets) ≡ day_of day ∷ tail =
    ap (days_from o (o.from_day +ℤ pos i)) rest ∙ ap (λ d. d ∷ days_from o ((o.from_day +ℤ pos i) +ℤ pos 1) (drop (i + 1) o.offsets)) (sym is)
    ∙ ap (λ z. day_of day ∷ days_from o z (drop (i + 1) o.offsets)) next in
    ap (λ ds. ds ++ tail) (map-append day_of found (day ∷ [])) ∙ append_assoc (map day_of found) (day_of day ∷ []) tail
    ∙ ap (λ ds. map day_of found ++ ds) (sym here) ∙ so_far

pub day_is_at : (o : Asked) (i : ℕ) (number offset : ℤ) (found : List Row) (night : Option NightRows) → number ≡ o.from_day +ℤ pos i →
    slice_get o.offsets i ≡ Some offset → found ≡ rows_on o number offset → night ≡ night_on o number offset →
    IsDayAt o i (record { number = number; rows = found; night = night })
day_is_at o i number offset found night is_number is_offset is_found is_night =
    let same : get_or o.offsets i (pos 0) ≡ offset = get_or_from_slice_get o.offsets i offset (pos 0) is_offset in
    rw (is_found, is_night, is_number, same) refl

days_count : (o : Asked) (day : ℤ) (offsets : List ℤ) → length (days_from o day offsets) ≡ length offsets
days_count o day [] = refl
days_count o day (offset ∷ rest) = ap suc (days_count o (day +ℤ pos 1) rest)

-- there are as many days as are asked for
pub days_made : (o : Asked) (found : List Day) → map day_of found ≡ days_of o → length o.offsets ≡ o.days → length found ≡ o.days
days_made o found made one_each =
    sym (length-map found day_of) ∙ ap length made ∙ days_count o o.from_day o.offsets ∙ one_each
