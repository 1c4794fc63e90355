-- Each entry of an order's table is right.
use Rattle.std.proofs.Common.{◌≡◌, ℕ, ◌<◌, ◌≤◌, List, [], ◌∷◌, length, map, refl, ap, ◌∙◌, arith}
use Rattle.std.specs.Prelude.{ℤ, pos, ◌+ℤ◌, ◌≤ℤ◌, All, IfSome, None, Option, Some, zip}
use Rattle.std.specs.List.{AllByRecursion as Every}
use Rattle.std.proofs.lemmas.Int.{ints}
use Rattle.std.proofs.lemmas.List.Elements.{All-from_recursion, recursion_from_All}
use Rattle.method_table.specs.Row.{Row}
use Rattle.method_table.specs.declared.method.Method.{Method}
use Rattle.night_portion.specs.Sun.{night_rows}
use Rattle.night_portion.proofs.DayLemmas.{days_have_nights, sun_has_rows}
use Rattle.night_rule.specs.declared.rule.NightRule.{NightRule}
use Rattle.ring_survey.specs.Polygons.{Polygon}
use Rattle.ring_survey.specs.Faults.{first_fault}
use Rattle.cell_split.specs.declared.cell.Cell.{Cell}
use Rattle.cell_split.specs.declared.verdict.Entry.{Entry}
use Rattle.cell_split.specs.Cells.{IsRoot}
use Rattle.cell_judge.specs.EntryLaws.{LiesInRoot}
use Rattle.cell_judge.proofs.Lawful.{skies_are_lawful}
use Rattle.cell_judge.specs.SkyLaws.{IsRow}
use Rattle.cell_judge.specs.Skies.{row_at, sky_content}
use Rattle.cell_judge.proofs.DayLaws.{days_have_rows}
use Rattle.cell_judge.proofs.EntryLaws.{lies_in_root, one_decided_entry_is_right, true_verdicts_make_right_entries}
use Rattle.cell_judge.proofs.SkyLaws.{skies_tell_the_truth}
use Rattle.ring_survey.proofs.EachLemmas.{each_length}
use Rattle.order_rule.proofs.OffsetLemmas.{days_length, offsets_in_range}
use Rattle.order_rule.specs.Asked.{Asked}
use Rattle.order_rule.specs.Late.{interval_on}
use Rattle.order_rule.specs.Offsets.{IsOffset, first_day, last_day, offsets_of, days_from as order_days}
use Rattle.order_rule.specs.Rule.{IsOrder}
use Rattle.year_table.specs.Zones.{day_offset}
use Rattle.meeus_terms.proofs.SunLaws.{suns_are_sound}
use Rattle.method_table.specs.declared.sun.SunChoice.{SunChoice}
use Rattle.order_table.specs.Days.{NightRows, day_with, days_from, night_by, night_on, noon_on, rows_on}
use Rattle.order_table.specs.Laws.{TablesAreRight}
use Rattle.order_table.specs.RightTable.{AreRightEntries, IsRightDay, IsRightEntry, IsRightNight, scene_of}
use Rattle.order_table.specs.Table.{night_found, night_rows_in, rows_in}
use Rattle.order_table.specs.Trees.{entries_of, entry_at, night_entries_of, root_over, table_of_trees, tree_day, tree_night}
use Rattle.order_table.proofs.DayLemmas.{is_day, root_is_root}
use Rattle.order_table.proofs.NightLemmas.{right_night}

-- the entry of a row's tree
pub right_entry : (sun : SunChoice) (polygons : List Polygon) (root : Cell) (rows : List Row) (k : ℕ) → first_fault polygons ≡ None →
    IsRoot root → LiesInRoot (scene_of sun polygons (row_at rows k)) root → k < length rows → IsRow (row_at rows k) →
    IsRightEntry (scene_of sun polygons (row_at rows k)) root (entry_at (sky_content sun polygons rows root) k)
right_entry sun polygons root rows k faultless is_root lies known row =
    let scene = scene_of sun polygons (row_at rows k) in
    let c = sky_content sun polygons rows root in
    let right = true_verdicts_make_right_entries c (skies_are_lawful sun polygons rows root is_root) k known scene lies
    (skies_tell_the_truth sun polygons rows root faultless is_root k known row) in
    record {
      right = right;
      alone = λ decided e decided' right'.
          one_decided_entry_is_right scene (suns_are_sound sun).source row.kind root e (entry_at c k) decided' decided right' right;
    }

-- the two of a night, by whatever rule
right_night_by : (o : Asked) (day offset : ℤ) → first_fault o.district ≡ None → o.height ≤ 9000 → first_day ≤ℤ day → day ≤ℤ last_day → IsOffset offset →
    AreRightEntries o.sun o.district (root_over o.district) (tree_day o.sun o.district (root_over o.district) (day_with o day offset)).found →
    (rule : Option NightRule) → let night = night_by o.method (night_rows day offset (noon_on o offset) o.height) rule in
    IfSome (night_found night (tree_night o.sun o.district (root_over o.district) night))
    (IsRightNight o.sun o.district (root_over o.district) (tree_day o.sun o.district (root_over o.district) (day_with o day offset)).found)
unfolding rows_on entries_of night_entries_of
right_night_by o day offset faultless low early late range right None = tt
right_night_by o day offset faultless low early late range right (Some rule) =
    let noon = noon_on o offset in
    let root = root_over o.district in
    let is = is_day o day offset early late range low in
    let rows = night_rows day offset noon o.height in
    let at : (k : ℕ) → k < 2 → IsRightEntry (scene_of o.sun o.district (row_at rows k)) root (entry_at (sky_content o.sun o.district rows root) k) =
    λ k known.
    right_entry o.sun o.district root rows k faultless (root_is_root o.district faultless)
    (lies_in_root (scene_of o.sun o.district (row_at rows k)) faultless) known (sun_has_rows day offset noon o.height is k known) in
    right_night o.sun o.district root rule o.method (rows_on o day offset) (entries_of o.sun o.district root (rows_on o day offset)) rows
    (night_entries_of o.sun o.district root rows) refl refl refl refl
    (days_have_nights o.method o.asr day offset noon o.height (interval_on o.late day) is
    (entries_of o.sun o.district root (rows_on o day offset)) (night_entries_of o.sun o.district root rows)) right
    (All-from_recursion (λ (x : Row × Entry). IsRightEntry (scene_of o.sun o.district x.0) root x.1) (zip rows (night_entries_of o.sun o.district root rows))
    (at 0 (omega arith), (at 1 (omega arith), tt)))

-- the seven of a day
right_day : (o : Asked) (day offset : ℤ) → first_fault o.district ≡ None → o.height ≤ 9000 → first_day ≤ℤ day → day ≤ℤ last_day → IsOffset offset →
    IsRightDay o.sun o.district (root_over o.district) (tree_day o.sun o.district (root_over o.district) (day_with o day offset))
unfolding rows_on entries_of night_on
right_day o day offset faultless low early late range =
    let noon = noon_on o offset in
    let rows = rows_on o day offset in
    let root = root_over o.district in
    let is_row : (k : ℕ) → k < 7 → IsRow (row_at rows k) =
    days_have_rows o.method o.asr day offset noon o.height (interval_on o.late day) (is_day o day offset early late range low) in
    let at : (k : ℕ) → k < 7 → IsRightEntry (scene_of o.sun o.district (row_at rows k)) root (entry_at (sky_content o.sun o.district rows root) k) =
    λ k known.
    right_entry o.sun o.district root rows k faultless (root_is_root o.district faultless)
    (lies_in_root (scene_of o.sun o.district (row_at rows k)) faultless) known (is_row k known) in
    let entries : AreRightEntries o.sun o.district root (tree_day o.sun o.district root (day_with o day offset)).found =
    All-from_recursion (λ (x : Row × Entry). IsRightEntry (scene_of o.sun o.district x.0) root x.1)
    (tree_day o.sun o.district root (day_with o day offset)).found
    (at 0 (omega arith), (at 1 (omega arith), (at 2 (omega arith), (at 3 (omega arith), (at 4 (omega arith), (at 5 (omega arith), (at 6 (omega arith), tt))))))) in
    record {
      entries = entries;
      night = right_night_by o day offset faultless low early late range entries o.night;
    }

-- ---- all days

right_days : (o : Asked) → first_fault o.district ≡ None → o.height ≤ 9000 → (day : ℤ) (offsets : List ℤ) → Every IsOffset offsets →
    first_day ≤ℤ day → (day +ℤ pos (length offsets)) ≤ℤ (last_day +ℤ pos 1) →
    Every (IsRightDay o.sun o.district (root_over o.district)) (map (tree_day o.sun o.district (root_over o.district)) (days_from o day offsets))
right_days o faultless low day [] each early late = tt
right_days o faultless low day (offset ∷ rest) each early late = (
  right_day o day offset faultless low early (omega (arith, ints, late)) each.0,
  right_days o faultless low (day +ℤ pos 1) rest each.1 (omega (arith, ints, early)) (omega (arith, ints, late)),
)

-- the rows of a night are those of the day
night_is_own : (sun : SunChoice) (polygons : List Polygon) (root : Cell) (method : Method) (rise set : Row) (rule : Option NightRule) →
    let night = night_by method (rise ∷ set ∷ []) rule in night_rows_in (night_found night (tree_night sun polygons root night)) ≡ night
unfolding night_entries_of
night_is_own sun polygons root method rise set None = refl
night_is_own sun polygons root method rise set (Some rule) = refl

-- the rows are those of the days
whole_days : (o : Asked) (polygons : List Polygon) (root : Cell) (day : ℤ) (offsets : List ℤ) →
    map rows_in (map (tree_day o.sun polygons root) (days_from o day offsets)) ≡ days_from o day offsets
unfolding rows_on entries_of night_on
whole_days o polygons root day [] = refl
whole_days o polygons root day (offset ∷ rest) =
    ap (λ (night : Option NightRows). record { number = day; rows = rows_on o day offset; night = night } ∷ map rows_in (map (tree_day o.sun polygons root) (days_from o (day +ℤ pos 1) rest)))
    (night_is_own o.sun polygons root o.method _ _ o.night)
    ∙ ap (λ days. day_with o day offset ∷ days) (whole_days o polygons root (day +ℤ pos 1) rest)

-- ---- the table

pub one_each : (o : Asked) → IsOrder o → length o.offsets ≡ o.days
unfolding offsets_of
one_each o is = each_length (day_offset o.zone) (order_days o.from_day o.days) o.offsets is.offset_each ∙ days_length o.from_day o.days

pub in_range : (o : Asked) → IsOrder o → All IsOffset o.offsets
unfolding offsets_of
in_range o is = offsets_in_range o.zone (order_days o.from_day o.days) o.offsets is.offset_each

pub tables_are_right : TablesAreRight
unfolding table_of_trees
tables_are_right o is = record {
  whole = whole_days o o.district (root_over o.district) o.from_day o.offsets;
  right = All-from_recursion (IsRightDay o.sun o.district (root_over o.district)) (table_of_trees o)
      (right_days o is.sound is.low o.from_day o.offsets (recursion_from_All IsOffset o.offsets (in_range o is)) is.not_early
      (rw (one_each o is) is.not_late));
}
