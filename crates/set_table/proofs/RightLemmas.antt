-- Each entry of a set's table is right.
use Rattle.std.proofs.Common.{◌≡◌, ℕ, ◌<◌, ◌≤◌, List, [], ◌∷◌, ◌++◌, length, map, refl, sym, ap, ap₂, ◌∙◌, subst, arith}
use Rattle.std.specs.Prelude.{ℤ, pos, ◌+ℤ◌, ◌≤ℤ◌, None, Option, Some, slice_index_or, zip}
use Rattle.std.specs.List.{AllByRecursion as Every}
use Rattle.std.proofs.lemmas.Int.{ints}
use Rattle.std.proofs.lemmas.List.Elements.{All-from_recursion, recursion_from_All}
use Rattle.meeus_terms.specs.Suns.{exact_sun_of}
use Rattle.meeus_terms.proofs.SunLaws.{suns_are_sound}
use Rattle.method_table.specs.Row.{Row}
use Rattle.ring_survey.specs.Faults.{first_fault}
use Rattle.ring_survey.specs.Polygons.{Polygon}
use Rattle.cell_split.specs.declared.cell.Cell.{Cell}
use Rattle.cell_split.specs.declared.verdict.Entry.{Entry}
use Rattle.cell_split.specs.declared.verdict.Entry.TheVariants.{Whole}
use Rattle.cell_judge.specs.Limits.{IsOver}
use Rattle.cell_judge.specs.RightEntries.{IsRight}
use Rattle.cell_judge.specs.SkyLaws.{IsRow}
use Rattle.cell_judge.specs.Skies.{row_at, sky_content}
use Rattle.cell_judge.proofs.DayLaws.{days_have_rows}
use Rattle.cell_judge.proofs.EntryLaws.{one_decided_entry_is_right}
use Rattle.cell_judge.proofs.ExtentLemmas.{districts_lie_in_roots_over_them}
use Rattle.district_set.specs.Joins.{join_entries}
use Rattle.district_set.specs.JoinLaws as join
use Rattle.district_set.proofs.JoinLemmas.{joins_are_right}
use Rattle.order_rule.specs.Asked.{Asked}
use Rattle.order_rule.specs.Late.{interval_on}
use Rattle.order_rule.specs.Offsets.{IsOffset, first_day, last_day}
use Rattle.order_rule.specs.Rule.{IsOrder}
use Rattle.order_table.specs.Days.{DayRows, NightRows, day_with, days_from, night_on, noon_on, rows_on}
use Rattle.order_table.specs.RightTable.{IsRightEntry, scene_of}
use Rattle.order_table.specs.Table.{DayTable, night_found, night_rows_in, rows_in}
use Rattle.order_table.specs.Trees.{entries_of, entry_at, root_over}
use Rattle.order_table.proofs.DayLemmas.{is_day, no_night, root_is_root}
use Rattle.order_table.proofs.RightLemmas.{in_range, one_each, right_entry}
use Rattle.set_reader.specs.Asked.{SetAsked, asked_of}
use Rattle.set_reader.specs.Features.{polygons_of}
use Rattle.set_reader.specs.Rule.{IsSet}
use Rattle.set_reader.specs.declared.set.SetOrder.{SetOrder}
use Rattle.method_table.specs.declared.sun.SunChoice.{SunChoice}
use Rattle.set_table.specs.Laws.{SetsAreRight}
use Rattle.set_table.specs.RightSet.{IsRightPart, IsRightSet, IsRightSetDay}
use Rattle.set_search.specs.Joined.{column_of, joined_of}
use Rattle.set_table.specs.Table.{SetDay, part_day}
use Rattle.set_table.specs.Trees.{entries_in, set_of_trees, tree_set_day}
use Rattle.set_search.proofs.ExtentLemmas.{IsFaultless, each_faultless, root_over_each}

-- ---- one row in each district, and in all of them

module _ (sun : SunChoice) (root : Cell) (rows : List Row) (k : ℕ) where
  abbrev found : List Polygon → Entry
  found polygons = entry_at (sky_content sun polygons rows root) k

  abbrev IsRightFound : List Polygon → Type 0
  IsRightFound polygons = IsRightEntry (scene_of sun polygons (row_at rows k)) root (found polygons)

  -- a district with its entry
  abbrev paired : List (List Polygon) → List (List Polygon × Entry)
  paired parts = map (λ polygons. (polygons, found polygons)) parts

  polygons_paired : (parts : List (List Polygon)) → join.polygons_of (paired parts) ≡ polygons_of parts
  polygons_paired [] = refl
  polygons_paired (part ∷ rest) = ap (λ (ps : List Polygon). part ++ ps) (polygons_paired rest)

  entries_paired : (parts : List (List Polygon)) → join.entries_of (paired parts) ≡ map found parts
  entries_paired [] = refl
  entries_paired (part ∷ rest) = ap (λ (es : List Entry). found part ∷ es) (entries_paired rest)

  each_right : (parts : List (List Polygon)) → Every IsRightFound parts →
      Every (λ (x : List Polygon × Entry). IsRight (join.scene_over (exact_sun_of sun) (row_at rows k) x.0) root x.1) (paired parts)
  each_right [] right = tt
  each_right (part ∷ rest) right = (right.0.right, each_right rest right.1)

  -- the join of the districts' entries is right for all polygons
  right_join : (whole : List Polygon) (parts : List (List Polygon)) (entries : List Entry) → whole ≡ polygons_of parts → IsRow (row_at rows k) →
      Every IsRightFound parts → entries ≡ map found parts → IsRightEntry (scene_of sun whole (row_at rows k)) root (join_entries entries)
  right_join whole parts entries together row right are =
      let scene = scene_of sun whole (row_at rows k) in
      let all : IsRight (join.scene_over (exact_sun_of sun) (row_at rows k) (join.polygons_of (paired parts))) root (join_entries (join.entries_of (paired parts))) =
      joins_are_right (exact_sun_of sun) (row_at rows k) root (paired parts)
      (All-from_recursion (λ (x : List Polygon × Entry). IsRight (join.scene_over (exact_sun_of sun) (row_at rows k) x.0) root x.1) (paired parts) (each_right parts right)) in
      let of_whole : IsRight scene root (join_entries (join.entries_of (paired parts))) =
      subst (λ (ps : List Polygon). IsRight (scene_of sun ps (row_at rows k)) root (join_entries (join.entries_of (paired parts)))) (polygons_paired parts ∙ sym together) all in
      let is_right : IsRight scene root (join_entries entries) =
      subst (λ (es : List Entry). IsRight scene root (join_entries es)) (entries_paired parts ∙ sym are) of_whole in
      record {
        right = is_right;
        alone = λ decided e decided' right'.
            one_decided_entry_is_right scene (suns_are_sound sun).source row.kind root e (join_entries entries) decided' decided right' is_right;
      }

-- ---- one day

-- the column of a number in each district
column_is : (sun : SunChoice) (root : Cell) (rows : List Row) (k : ℕ) →
    ((polygons : List Polygon) → slice_index_or (entries_of sun polygons root rows) k Whole ≡ found sun root rows k polygons) →
    (parts : List (List Polygon)) → column_of k (entries_in sun parts root rows) ≡ map (found sun root rows k) parts
column_is sun root rows k each [] = refl
column_is sun root rows k each (part ∷ rest) = ap₂ (λ e es. e ∷ es) (each part) (column_is sun root rows k each rest)

-- a day without a night has none
no_nights : (night : Option NightRows) → None ≡ night → night_rows_in (night_found night None) ≡ night
no_nights None is = refl
no_nights (Some night) is = absurd cc

-- each district is still there beside what was found in it
firsts : {A B : Type 0} (f : List Polygon → A) (g : A → B) (parts : List (List Polygon)) → map (λ (x : List Polygon × B). x.0) (zip parts (map g (map f parts))) ≡ parts
firsts f g [] = refl
firsts f g (part ∷ rest) = ap (λ (ps : List (List Polygon)). part ∷ ps) (firsts f g rest)

module _ (o : Asked) (faultless : first_fault o.district ≡ None) (no_rule : o.night ≡ None) (low : o.height ≤ 9000) (day offset : ℤ)
    (early : first_day ≤ℤ day) (late : day ≤ℤ last_day) (range : IsOffset offset) where
  abbrev root : Cell
  root = root_over o.district

  abbrev asked : DayRows
  asked = day_with o day offset

  abbrev rows : List Row
  rows = rows_on o day offset

  own_rows : (entries : List Entry) → map (λ (x : Row × Entry). x.0) (zip rows entries) ≡ rows → rows_in (part_day asked entries) ≡ asked
  own_rows entries same =
      ap₂ (λ (rs : List Row) (night : Option NightRows). record { number = day; rows = rs; night = night }) same
      (no_nights (night_on o day offset) (no_night o day offset no_rule))

  is_row : (k : ℕ) → k < 7 → IsRow (row_at rows k)
  unfolding rows_on
  is_row = days_have_rows o.method o.asr day offset (noon_on o offset) o.height (interval_on o.late day) (is_day o day offset early late range low)

  right_at : (polygons : List Polygon) → IsFaultless polygons → IsOver root polygons → (k : ℕ) → k < 7 → IsRightFound o.sun root rows k polygons
  unfolding rows_on
  right_at polygons sound over k known =
      right_entry o.sun polygons root rows k sound (root_is_root o.district faultless)
      (districts_lie_in_roots_over_them (scene_of o.sun polygons (row_at rows k)) root sound over) known (is_row k known)

  -- the seven of a district
  right_part : (polygons : List Polygon) → IsFaultless polygons → IsOver root polygons →
      IsRightPart o.sun root asked polygons (part_day asked (entries_of o.sun polygons root rows))
  unfolding rows_on entries_of
  right_part polygons sound over =
      let at = right_at polygons sound over in
      record {
        whole = own_rows (entries_of o.sun polygons root rows) refl;
        entries = All-from_recursion (λ (x : Row × Entry). IsRightEntry (scene_of o.sun polygons x.0) root x.1) (zip rows (entries_of o.sun polygons root rows))
            (at 0 (omega arith), (at 1 (omega arith), (at 2 (omega arith), (at 3 (omega arith), (at 4 (omega arith), (at 5 (omega arith), (at 6 (omega arith), tt)))))));
      }

  each_found : (k : ℕ) → k < 7 → (parts : List (List Polygon)) → Every IsFaultless parts → Every (IsOver root) parts → Every (IsRightFound o.sun root rows k) parts
  each_found k known [] sound over = tt
  each_found k known (part ∷ rest) sound over = (right_at part sound.0 over.0 k known, each_found k known rest sound.1 over.1)

  -- and those of all together
  right_whole : (parts : List (List Polygon)) → o.district ≡ polygons_of parts → Every IsFaultless parts → Every (IsOver root) parts →
      IsRightPart o.sun root asked o.district (part_day asked (joined_of (entries_in o.sun parts root rows)))
  unfolding rows_on entries_of joined_of
  right_whole parts together sound over =
      let entries = entries_in o.sun parts root rows in
      let at : (k : ℕ) → k < 7 → ((polygons : List Polygon) → slice_index_or (entries_of o.sun polygons root rows) k Whole ≡ found o.sun root rows k polygons) →
      IsRightEntry (scene_of o.sun o.district (row_at rows k)) root (join_entries (column_of k entries)) =
      λ k known own.
      right_join o.sun root rows k o.district parts (column_of k entries) together (is_row k known) (each_found k known parts sound over)
      (column_is o.sun root rows k own parts) in
      record {
        whole = own_rows (joined_of entries) refl;
        entries = All-from_recursion (λ (x : Row × Entry). IsRightEntry (scene_of o.sun o.district x.0) root x.1) (zip rows (joined_of entries)) (
          at 0 (omega arith) (λ polygons. refl),
          (
            at 1 (omega arith) (λ polygons. refl),
            (
              at 2 (omega arith) (λ polygons. refl),
              (
                at 3 (omega arith) (λ polygons. refl),
                (at 4 (omega arith) (λ polygons. refl), (at 5 (omega arith) (λ polygons. refl), (at 6 (omega arith) (λ polygons. refl), tt))),
              ),
            ),
          ),
        );
      }

  abbrev RightPart : List Polygon × DayTable → Type 0
  RightPart x = IsRightPart o.sun root asked x.0 x.1

  each_part : (parts : List (List Polygon)) → Every IsFaultless parts → Every (IsOver root) parts →
      Every RightPart (zip parts (map (part_day asked) (entries_in o.sun parts root rows)))
  each_part [] sound over = tt
  each_part (part ∷ rest) sound over = (right_part part sound.0 over.0, each_part rest sound.1 over.1)

-- ---- all days

module _ (s : SetAsked) (is : IsSet s) where
  right_set_day : (day offset : ℤ) → first_day ≤ℤ day → day ≤ℤ last_day → IsOffset offset →
      let found = tree_set_day s.whole.sun s.parts (root_over s.whole.district) (day_with s.whole day offset) in
      (rows_in found.whole ≡ day_with s.whole day offset) × IsRightSetDay s (rows_in found.whole) found
  right_set_day day offset early late range =
      let o = s.whole in
      let found = tree_set_day o.sun s.parts (root_over o.district) (day_with o day offset) in
      let sound = each_faultless s.parts is.parts.sound in
      let over = root_over_each o.district s.parts is.order.sound is.parts in
      let whole = right_whole o is.order.sound is.no_rule is.order.low day offset early late range s.parts is.parts.together sound over in (
        whole.whole,
        subst (λ (rows : DayRows). IsRightSetDay s rows found) (sym whole.whole) (record {
          one_each = firsts (λ polygons. entries_of o.sun polygons (root_over o.district) (rows_on o day offset)) (part_day (day_with o day offset)) s.parts;
          parts = All-from_recursion (RightPart o is.order.sound is.no_rule is.order.low day offset early late range) (zip s.parts found.parts)
              (each_part o is.order.sound is.no_rule is.order.low day offset early late range s.parts sound over);
          whole = whole;
        }),
      )

  abbrev tables : ℤ → List ℤ → List SetDay
  tables day offsets = map (tree_set_day s.whole.sun s.parts (root_over s.whole.district)) (days_from s.whole day offsets)

  abbrev IsRightDay : SetDay → Type 0
  IsRightDay day = IsRightSetDay s (rows_in day.whole) day

  right_days : (day : ℤ) (offsets : List ℤ) → Every IsOffset offsets → first_day ≤ℤ day → (day +ℤ pos (length offsets)) ≤ℤ (last_day +ℤ pos 1) →
      (map (λ (found : SetDay). rows_in found.whole) (tables day offsets) ≡ days_from s.whole day offsets) × Every IsRightDay (tables day offsets)
  right_days day [] each early late = (refl, tt)
  right_days day (offset ∷ rest) each early late =
      let here = right_set_day day offset early (omega (arith, ints, late)) each.0 in
      let others = right_days (day +ℤ pos 1) rest each.1 (omega (arith, ints, early)) (omega (arith, ints, late)) in
      (ap₂ (λ (d : DayRows) (ds : List DayRows). d ∷ ds) here.0 others.0, (here.1, others.1))

pub sets_are_right : SetsAreRight
unfolding set_of_trees
sets_are_right s is =
    let o = s.whole in
    let days = right_days s is o.from_day o.offsets (recursion_from_All IsOffset o.offsets (in_range o is.order)) is.order.not_early
    (rw (one_each o is.order) is.order.not_late) in
    record {
      whole = days.0;
      right = All-from_recursion (IsRightDay s is) (set_of_trees s) days.1;
    }

pub set_is_right : (set : SetOrder) → IsOrder (asked_of set).whole → IsRightSet (asked_of set)
set_is_right set is =
    sets_are_right (asked_of set) (record {
      order = is;
      no_rule = set.no_rule;
      parts = set.are_parts;
    })
