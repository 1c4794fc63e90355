-- The calendar of an order is read again.
use Rattle.std.proofs.Common.{◌≡◌, ℕ, zero, suc, ◌+◌, ◌<◌, ◌≤◌, ◌^◌, Bool, true, false, cond, ◌&&◌, List, [], ◌∷◌, ◌++◌, ◌%◌, length, map, refl, sym, ap, subst, ◌∙◌, arith, Some}
use Rattle.std.specs.Prelude.{ℤ, pos, negsuc, neg_ℤ, ◌+ℤ◌, ◌-ℤ◌, ◌≤ℤ◌, nat_le, not, ◌==◌, decimal}
use Rattle.std.specs.Fmt.{signed_decimal}
use Rattle.std.specs.List.{AllByRecursion as Every, list_all, list_any}
use Rattle.std.proofs.lemmas.Bool.{and_parts}
use Rattle.std.proofs.lemmas.Bool.Decides.{nat_tests}
use Rattle.std.proofs.lemmas.Fmt.{decimal_by_steps}
use Rattle.std.proofs.lemmas.Int.{ints}
use Rattle.std.proofs.lemmas.List.Elements.{All-from_recursion, All-weaker, recursion_from_All}
use Rattle.std.proofs.lemmas.List.Folds.{list_all-append}
use Rattle.std.proofs.lemmas.Option.{cond_some, option_and_then_some}
use Rattle.cell_split.specs.declared.cell.Cell.{Cell}
use Rattle.cell_split.specs.declared.verdict.Entry.{Entry}
use Rattle.cell_split.specs.declared.verdict.Entry.TheVariants.{Minute, Never, Open, Whole}
use Rattle.cell_judge.specs.RightEntries.{IsRight}
use Rattle.cell_judge.specs.Scenes.{Scene}
use Rattle.cell_judge.proofs.ExtentLemmas.{south_near, west_near}
use Rattle.ical_text.specs.Laws.{Reads}
use Rattle.ical_text.specs.Lines.{joined_lines}
use Rattle.ical_text.specs.Tables.{IsPrintable, IsRowOf, IsSheet, is_visible}
use Rattle.ical_text.proofs.LawLemmas.{exact}
use Rattle.ical_text.proofs.TableLemmas.{tables_read}
use Rattle.method_table.specs.declared.method.Method.{Method}
use Rattle.method_table.specs.declared.method.Method.TheVariants.{Mwl, Isna, Egypt, Karachi, Makkah, Tehran, Jafari}
use Rattle.method_table.specs.declared.problem.Column.{Column}
use Rattle.method_table.specs.declared.problem.Kind.{Kind}
use Rattle.method_table.specs.declared.problem.Side.{Side}
use Rattle.method_table.specs.Row.{Row, row}
use Rattle.method_table.specs.Table.{base_of, isha_shift}
use Rattle.order_rule.proofs.OffsetLemmas.{offset_in_range}
use Rattle.order_rule.specs.Asked.{Asked}
use Rattle.ring_survey.specs.Each.{each_of}
use Rattle.order_rule.specs.Late.{has_day, interval_on}
use Rattle.order_rule.specs.Offsets.{IsOffset, first_day, is_zone, last_day, offsets_of}
use Rattle.order_rule.specs.Rule.{IsOrder}
use Rattle.order_table.proofs.DayLemmas.{is_day}
use Rattle.order_table.proofs.RightLemmas.{in_range, one_each, tables_are_right}
use Rattle.order_table.specs.Days.{day_with, days_from, days_of, noon_on, rows_on}
use Rattle.order_table.specs.RightTable.{IsRightDay, IsRightEntry, scene_of}
use Rattle.order_table.specs.Table.{DayTable}
use Rattle.order_table.specs.Trees.{entries_of, root_over, table_of_trees, tree_day}
use Rattle.year_table.specs.Entries.{IsInFrame}
use Rattle.year_table.specs.Rules.{is_rule_byte}
use Rattle.year_table.specs.Zones.{day_offset}
use Rattle.year_table.specs.declared.zone.Zone.{Zone}
use Rattle.year_table.specs.declared.zone.Zone.TheVariants.{Fixed, Rule}
use Rattle.order_calendar.specs.Calendar.{calendar_of, events_of, found_on, sheet_of, zone_words}
use Rattle.order_calendar.specs.Laws.{CalendarsAreReadAgain}

-- ---- the zone's words are visible

both : (a b : List ℕ) → list_all is_visible a ≡ true → list_all is_visible b ≡ true → list_all is_visible (a ++ b) ≡ true
both a b ha hb = list_all-append is_visible a b ∙ (ap (λ t. t && list_all is_visible b) ha ∙ hb)

digit_seen : (n : ℕ) → n < 10 → is_visible (48 + n) ≡ true
digit_seen n h = grind (arith, nat_tests)

one_digit : (n : ℕ) → n < 10 → list_all is_visible ((48 + n) ∷ []) ≡ true
one_digit n h = ap (λ t. t && true) (digit_seen n h)

decimal_seen : (n : ℕ) → n < 2 ^ 64 → list_all is_visible (decimal n) ≡ true
decimal_seen n h =
    decimal_by_steps (λ k text. list_all is_visible text ≡ true) one_digit
    (λ k text great seen. both text ((48 + k % 10) ∷ []) seen (one_digit (k % 10) (omega arith))) n h

minutes_seen : (z : ℤ) → IsOffset z → list_all is_visible (signed_decimal z) ≡ true
minutes_seen (pos n) h = decimal_seen n (omega (arith, ints, h.high))
minutes_seen (negsuc n) h = both (45 ∷ []) (decimal (suc n)) refl (decimal_seen (suc n) (omega (arith, ints, h.low)))

byte_seen : (b : ℕ) → is_rule_byte b ≡ true → is_visible b ≡ true
byte_seen b h =
    let parts = and_parts (nat_le 33 b) (nat_le b 126 && (not (b == 34) && not (b == 92))) h in
    let rest = and_parts (nat_le b 126) (not (b == 34) && not (b == 92)) parts.1 in
    ap (λ t. t && nat_le b 126) parts.0 ∙ rest.0

rule_seen : (text : List ℕ) → list_all is_rule_byte text ≡ true → list_all is_visible text ≡ true
rule_seen [] h = refl
rule_seen (b ∷ text) h =
    let parts = and_parts (is_rule_byte b) (list_all is_rule_byte text) h in
    ap (λ t. t && list_all is_visible text) (byte_seen b parts.0) ∙ rule_seen text parts.1

-- the offset of a fixed zone is that of its days
fixed_near : (minutes day : ℤ) (n : ℕ) (xs : List ℤ) → offsets_of (Fixed minutes) day (suc n) ≡ Some xs → IsOffset minutes
unfolding offsets_of each_of
fixed_near minutes day n xs e =
    option_and_then_some _ (day_offset (Fixed minutes) day) xs e
    (λ y is found. subst IsOffset (sym (cond_some _ _ _ is).1) (offset_in_range (Fixed minutes) day y is))

zone_seen : (zone : Zone) (day : ℤ) (n : ℕ) (xs : List ℤ) → 1 ≤ n → offsets_of zone day n ≡ Some xs → is_zone zone ≡ true →
    list_all is_visible (zone_words zone) ≡ true
zone_seen zone day zero xs some e known = absurd (omega (arith, some))
zone_seen (Fixed minutes) day (suc n) xs some e known = minutes_seen minutes (fixed_near minutes day n xs e)
zone_seen (Rule text) day (suc n) xs some e known =
    let plain = and_parts _ _ known in
    let sized = and_parts _ _ plain.0 in
    let bytes = and_parts _ _ sized.1 in
    rule_seen text bytes.1

-- ---- the rows of a day

short_interval : (late : List (ℤ × ℤ)) (day : ℤ) → (pos 0 ≤ℤ interval_on late day) × (interval_on late day ≤ℤ pos 120)
short_interval late day = by (list_any (has_day day) late) where
  by : (t : Bool) → (pos 0 ≤ℤ cond t (pos 120) (pos 90)) × (cond t (pos 120) (pos 90) ≤ℤ pos 120)
  by true = (omega (arith, ints), omega (arith, ints))
  by false = (omega (arith, ints), omega (arith, ints))

short_shift : (m : Method) (interval : ℤ) → pos 0 ≤ℤ interval → interval ≤ℤ pos 120 → (pos 0 ≤ℤ isha_shift m interval) × (isha_shift m interval ≤ℤ pos 120)
short_shift Makkah interval low high = (low, high)
short_shift Mwl interval low high = (omega (arith, ints), omega (arith, ints))
short_shift Isna interval low high = (omega (arith, ints), omega (arith, ints))
short_shift Egypt interval low high = (omega (arith, ints), omega (arith, ints))
short_shift Karachi interval low high = (omega (arith, ints), omega (arith, ints))
short_shift Tehran interval low high = (omega (arith, ints), omega (arith, ints))
short_shift Jafari interval low high = (omega (arith, ints), omega (arith, ints))

row_of_day : (column : Column) (side : Side) (first day offset : ℤ) (kind : Kind) (shift : ℤ) → IsOffset offset → neg_ℤ (pos 720) ≤ℤ first →
    first ≤ℤ pos 1439 → pos 0 ≤ℤ shift → shift ≤ℤ pos 120 → IsRowOf day (row column side first (base_of day offset) kind shift)
row_of_day column side first day offset kind shift range low high shift_low shift_high = record {
  offset = offset;
  base = refl;
  offset_not_low = range.low;
  offset_not_high = range.high;
  first_not_low = low;
  first_not_high = high;
  framed = refl;
  shift_not_negative = shift_low;
  shift_not_high = shift_high;
}

in_frame : (s : Scene) (root : Cell) (e : Entry) → IsRight s root e → IsInFrame e
in_frame s root (Minute rank) right = right.in_frame
in_frame s root Whole right = tt
in_frame s root Never right = tt
in_frame s root (Open safe from cell) right = (right.in_frame, omega (arith, right.ordered, right.in_frame))

-- ---- the days

abbrev day_at : Asked → ℤ → ℤ → DayTable
day_at o day offset = tree_day o.sun o.district (root_over o.district) (day_with o day offset)

printable_day : (o : Asked) (day offset : ℤ) → o.height ≤ 9000 → first_day ≤ℤ day → day ≤ℤ last_day → IsOffset offset →
    IsRightDay o.sun o.district (root_over o.district) (day_at o day offset) → IsPrintable (found_on (day_at o day offset))
unfolding rows_on entries_of
printable_day o day offset low early late range right =
    let noon = noon_on o offset in
    let is = is_day o day offset early late range low in
    let interval = short_interval o.late day in
    let shift = short_shift o.method (interval_on o.late day) interval.0 interval.1 in
    let zero_low : pos 0 ≤ℤ pos 0 = omega (arith, ints) in
    let zero_high : pos 0 ≤ℤ pos 120 = omega (arith, ints) in
    let noon_low : neg_ℤ (pos 720) ≤ℤ noon = omega (arith, ints, is.noon_not_negative) in
    let noon_high : noon ≤ℤ pos 1439 = is.noon_below_a_day in
    let dawn_low : neg_ℤ (pos 720) ≤ℤ (noon -ℤ pos 720) = omega (arith, ints, is.noon_not_negative) in
    let dawn_high : (noon -ℤ pos 720) ≤ℤ pos 1439 = omega (arith, ints, is.noon_below_a_day) in
    let morning_low : neg_ℤ (pos 720) ≤ℤ (noon -ℤ pos 360) = omega (arith, ints, is.noon_not_negative) in
    let morning_high : (noon -ℤ pos 360) ≤ℤ pos 1439 = omega (arith, ints, is.noon_below_a_day) in
    record {
      day = record { not_early = early; not_late = late };
      rows = All-from_recursion (λ (x : Row × Entry). IsRowOf day x.0) (day_at o day offset).found (
        row_of_day _ _ (noon -ℤ pos 720) day offset _ (pos 0) range dawn_low dawn_high zero_low zero_high,
        (
          row_of_day _ _ (noon -ℤ pos 720) day offset _ (pos 0) range dawn_low dawn_high zero_low zero_high,
          (
            row_of_day _ _ (noon -ℤ pos 360) day offset _ (pos 0) range morning_low morning_high zero_low zero_high,
            (
              row_of_day _ _ noon day offset _ (pos 0) range noon_low noon_high zero_low zero_high,
              (
                row_of_day _ _ noon day offset _ (pos 0) range noon_low noon_high zero_low zero_high,
                (
                  row_of_day _ _ noon day offset _ (isha_shift o.method (interval_on o.late day)) range noon_low noon_high shift.0 shift.1,
                  (row_of_day _ _ noon day offset _ (isha_shift o.method (interval_on o.late day)) range noon_low noon_high shift.0 shift.1, tt),
                ),
              ),
            ),
          ),
        ),
      );
      entries = All-weaker (λ (x : Row × Entry). IsRightEntry (scene_of o.sun o.district x.0) (root_over o.district) x.1) (λ (x : Row × Entry). IsInFrame x.1)
          (λ x h. in_frame (scene_of o.sun o.district x.0) (root_over o.district) x.1 h.right) (day_at o day offset).found right.entries;
    }

printable_days : (o : Asked) → o.height ≤ 9000 → (day : ℤ) (offsets : List ℤ) → Every IsOffset offsets → first_day ≤ℤ day →
    (day +ℤ pos (length offsets)) ≤ℤ (last_day +ℤ pos 1) →
    Every (IsRightDay o.sun o.district (root_over o.district)) (map (tree_day o.sun o.district (root_over o.district)) (days_from o day offsets)) →
    Every IsPrintable (map found_on (map (tree_day o.sun o.district (root_over o.district)) (days_from o day offsets)))
printable_days o low day [] each early late right = tt
printable_days o low day (offset ∷ rest) each early late right = (
  printable_day o day offset low early (omega (arith, ints, late)) each.0 right.0,
  printable_days o low (day +ℤ pos 1) rest each.1 (omega (arith, ints, early)) (omega (arith, ints, late)) right.1,
)

-- ---- the calendar

sheet_is : (o : Asked) → IsOrder o → IsSheet (sheet_of o)
sheet_is o is =
    let west = west_near o.district is.sound in
    let south = south_near o.district is.sound in
    record {
      west = omega (arith, ints, west.not_low, west.not_high);
      south = omega (arith, ints, south.not_low, south.not_high);
      from = record { not_early = is.not_early; not_late = omega (arith, ints, is.not_late, is.some_days) };
      zone = zone_seen o.zone o.from_day o.days o.offsets is.some_days is.offset_each is.known_zone;
    }

pub calendars_are_read_again : CalendarsAreReadAgain
unfolding calendar_of events_of table_of_trees
calendars_are_read_again o is =
    let days = map (tree_day o.sun o.district (root_over o.district)) (days_of o) in
    let right = recursion_from_All (IsRightDay o.sun o.district (root_over o.district)) days (tables_are_right o is).right in
    let printable = printable_days o is.low o.from_day o.offsets (recursion_from_All IsOffset o.offsets (in_range o is)) is.not_early
    (rw (one_each o is) is.not_late) right in
    let read = tables_read (sheet_of o) (map found_on days) (sheet_is o is) (All-from_recursion IsPrintable (map found_on days) printable) in
    subst (Reads (joined_lines (calendar_of o))) read (exact (joined_lines (calendar_of o)))
