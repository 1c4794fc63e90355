-- Nights: how their entries are found, and when they are right.
use Rattle.std.proofs.Common.{◌≡◌, ℕ, zero, suc, ◌<◌, List, [], ◌∷◌, length, map, get_or, refl, sym, ap, subst, ◌∙◌, arith}
use Rattle.std.specs.Prelude.{zip}
use Rattle.std.specs.List.{AllByRecursion as Every}
use Rattle.std.proofs.lemmas.List.Elements.{recursion_from_All}
use Rattle.cell_split.specs.declared.cell.Cell.{Cell}
use Rattle.cell_split.specs.declared.verdict.Entry.{Entry}
use Rattle.cell_split.specs.declared.verdict.Entry.TheVariants.{Never}
use Rattle.cell_split.specs.Cells.{IsRoot}
use Rattle.cell_split.proofs.Renumbering.{renumbered_trees}
use Rattle.cell_judge.proofs.Lawful.{skies_are_lawful}
use Rattle.cell_judge.specs.RightEntries.{IsRight}
use Rattle.cell_judge.specs.Skies.{row_at, sky_content, verdict_on}
use Rattle.meeus_terms.specs.Suns.{exact_sun_of, grid_sun_of}
use Rattle.method_table.specs.declared.method.Method.{Method}
use Rattle.method_table.specs.Row.{Row}
use Rattle.night_portion.specs.Few.{first_problems}
use Rattle.night_portion.specs.Minutes.{night_of}
use Rattle.night_portion.specs.SafeNights.{AreStarts, IsSafeNight}
use Rattle.night_portion.specs.Sun.{repeated}
use Rattle.night_portion.proofs.SafeLemmas.{nights_are_safe}
use Rattle.night_rule.specs.declared.rule.NightRule.{NightRule}
use Rattle.ring_survey.specs.Polygons.{Polygon}
use Rattle.method_table.specs.declared.sun.SunChoice.{SunChoice}
use Rattle.order_table.specs.RightTable.{AreRightEntries, IsRightEntry, IsRightNight, scene_of}
use Rattle.order_table.specs.Table.{night_in}
use Rattle.order_table.specs.Trees.{entry_at, night_columns, night_entries_of}
use Rattle.order_table.proofs.TextLemmas.{entries_of_zip, rows_of_zip}

-- ---- the entries

same_row : (rows found : List Row) (k : ℕ) → found ≡ repeated rows → k < 2 → row_at found k ≡ row_at rows k
same_row rows found zero same known = ap (λ (list : List Row). row_at list 0) same
same_row rows found (suc zero) same known = ap (λ (list : List Row). row_at list 1) same
same_row rows found (suc (suc k)) same known = absurd (omega (arith, known))

-- of a sky's first two problems, where these are repeated
pub sun_entry_is : (sun : SunChoice) (polygons : List Polygon) (root : Cell) (rows found : List Row) (k : ℕ) → IsRoot root → found ≡ repeated rows → k < 2 →
    entry_at (first_problems 2 (sky_content sun polygons found root)) k ≡ entry_at (sky_content sun polygons rows root) k
sun_entry_is sun polygons root rows found k is_root same known =
    (renumbered_trees (first_problems 2 (sky_content sun polygons found root)) (sky_content sun polygons rows root)
    (skies_are_lawful sun polygons rows root is_root) k k
    (record {
      same_root = refl;
      same_verdicts = λ cell is. ap (λ (row : Row). verdict_on (grid_sun_of sun) row polygons cell) (same_row rows found k same known);
    })).same_entry

-- both
pub night_entries_are : (sun sun' : SunChoice) (polygons polygons' : List Polygon) (root root' : Cell) (rows : List Row) (a b : Entry) →
    sun' ≡ sun → polygons' ≡ polygons → root' ≡ root → a ≡ entry_at (sky_content sun' polygons' rows root') 0 →
    b ≡ entry_at (sky_content sun' polygons' rows root') 1 → (a ∷ b ∷ []) ≡ night_entries_of sun polygons root rows
unfolding night_entries_of
night_entries_are sun sun' polygons polygons' root root' rows a b same_sun same same_root ia ib =
    rw (ia, ib) (ap (λ (s : SunChoice). map (entry_at (sky_content s polygons' rows root')) night_columns) same_sun
    ∙ ap (λ (p : List Polygon). map (entry_at (sky_content sun p rows root')) night_columns) same
    ∙ ap (λ (r : Cell). map (entry_at (sky_content sun polygons rows r)) night_columns) same_root)

-- ---- right nights

-- a day's and a night's rows with their entries
pub night_in_zip : (rule : NightRule) (method : Method) (rows : List Row) (entries : List Entry) (sun_rows : List Row) (sun_entries : List Entry) →
    length rows ≡ length entries → length sun_rows ≡ length sun_entries →
    night_in (zip rows entries) (record { rule = rule; method = method; found = zip sun_rows sun_entries }) ≡ night_of rows entries sun_rows sun_entries
night_in_zip rule method rows entries sun_rows sun_entries same same' =
    rw (rows_of_zip rows entries same, entries_of_zip rows entries same, rows_of_zip sun_rows sun_entries same', entries_of_zip sun_rows sun_entries same') refl

module _ (sun : SunChoice) (polygons : List Polygon) (root : Cell) where
  abbrev IsRightPair : Row × Entry → Type 0
  IsRightPair x = IsRightEntry (scene_of sun polygons x.0) root x.1

  -- the entry of a row by its number
  right_at : (rows : List Row) (entries : List Entry) (k : ℕ) → k < length rows → length rows ≡ length entries → Every IsRightPair (zip rows entries) →
      IsRight (scene_of sun polygons (row_at rows k)) root (get_or entries k Never)
  right_at [] entries k known same all = absurd (omega (arith, known))
  right_at (r ∷ rs) [] k known same all = absurd (omega (arith, same))
  right_at (r ∷ rs) (e ∷ es) zero known same all = all.0.right
  right_at (r ∷ rs) (e ∷ es) (suc k) known same all = right_at rs es k (omega (arith, known)) (omega (arith, same)) all.1

  -- where the entries of a day and of its sunrise and sunset are right, so is the night
  pub right_night : (rule : NightRule) (method : Method) (rows : List Row) (entries : List Entry) (sun_rows : List Row) (sun_entries : List Entry) →
      length rows ≡ 7 → length rows ≡ length entries → length sun_rows ≡ 2 → length sun_rows ≡ length sun_entries →
      AreStarts (night_of rows entries sun_rows sun_entries) → AreRightEntries sun polygons root (zip rows entries) →
      AreRightEntries sun polygons root (zip sun_rows sun_entries) →
      IsRightNight sun polygons root (zip rows entries) (record { rule = rule; method = method; found = zip sun_rows sun_entries })
  right_night rule method rows entries sun_rows sun_entries seven same two same' starts right right' =
      let each = recursion_from_All IsRightPair (zip rows entries) right in
      let each' = recursion_from_All IsRightPair (zip sun_rows sun_entries) right' in
      let night = night_of rows entries sun_rows sun_entries in
      record {
        entries = right';
        safe = subst (IsSafeNight (exact_sun_of sun) polygons rule method) (sym (night_in_zip rule method rows entries sun_rows sun_entries same same'))
            (nights_are_safe (exact_sun_of sun) polygons root rule method night starts (record {
              fajr = right_at rows entries 0 (omega (arith, seven)) same each;
              isha = right_at rows entries 6 (omega (arith, seven)) same each;
              rise = right_at sun_rows sun_entries 0 (omega (arith, two)) same' each';
              set = right_at sun_rows sun_entries 1 (omega (arith, two)) same' each';
            }));
      }
