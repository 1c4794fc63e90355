-- Each entry that a covering of an order shows is right.
use Rattle.std.proofs.Common.{◌≡◌, ℕ, ◌<◌, ◌≤◌, List, [], ◌∷◌, length, Option, Some, None, Result, Ok, Err, refl, ◌∙◌, arith}
use Rattle.std.specs.Prelude.{ℤ, pos, ◌+ℤ◌, ◌≤ℤ◌, All, IfSome}
use Rattle.std.specs.List.{AllByRecursion as Every}
use Rattle.std.proofs.lemmas.Int.{ints}
use Rattle.std.proofs.lemmas.List.Elements.{All-from_recursion, recursion_from_All}
use Rattle.method_table.specs.declared.method.Method.{Method}
use Rattle.method_table.specs.Row.{Row}
use Rattle.method_table.specs.Table.{rows}
use Rattle.night_portion.specs.Minutes.{night_of}
use Rattle.night_portion.specs.SafeNights.{AreStarts}
use Rattle.night_portion.specs.Sun.{night_rows}
use Rattle.night_portion.proofs.DayLemmas.{days_have_nights, sun_has_rows}
use Rattle.night_rule.specs.declared.rule.NightRule.{NightRule}
use Rattle.ring_survey.specs.Faults.{first_fault}
use Rattle.cell_split.proofs.Every.{Every-weaker}
use Rattle.cell_split.specs.declared.verdict.Entry.{Entry}
use Rattle.cell_judge.specs.DayLaws.{IsDay}
use Rattle.cell_judge.specs.Skies.{row_at}
use Rattle.cell_judge.specs.SkyLaws.{IsRow}
use Rattle.cell_judge.proofs.DayLaws.{days_have_rows}
use Rattle.cell_judge.proofs.EntryLaws.{lies_in_root}
use Rattle.order_rule.specs.Asked.{Asked}
use Rattle.order_rule.specs.Late.{interval_on}
use Rattle.order_rule.specs.Offsets.{IsOffset, first_day, last_day}
use Rattle.order_rule.specs.Rule.{IsOrder}
use Rattle.order_table.specs.Days.{DayRows, day_with, days_from, days_of, night_by, night_on, noon_on, rows_on}
use Rattle.order_table.specs.RightTable.{IsRightDay, scene_of}
use Rattle.order_table.specs.Trees.{root_over}
use Rattle.order_table.proofs.DayLemmas.{is_day, root_is_root}
use Rattle.order_table.proofs.RightLemmas.{in_range, one_each}
use Rattle.shown_table.specs.declared.bad.BadLine.{BadLine}
use Rattle.shown_table.specs.Right.{ShownTablesAreRight}
use Rattle.shown_table.specs.Shown.{bad_line, last_number, shown_at, shown_days, shown_table, sun_shown_at}
use Rattle.shown_table.proofs.RightLemmas.{IsFit, IsFitNight, IsStarting, day_is_right, line_is_right, sun_is_right}
use Rattle.shown_table.proofs.ShowingLemmas.{IsWeekly, all_days, each_day, first_days}

-- each line shows right entries of a night, whatever the rule
fit_night : (o : Asked) (day offset : ℤ) → first_fault o.district ≡ None → IsDay day offset (noon_on o offset) o.height →
    (number : ℤ) (rule : Option NightRule) → IfSome (night_by o.method (night_rows day offset (noon_on o offset) o.height) rule)
    (IsFitNight o.sun o.district (root_over o.district) number)
unfolding sun_shown_at
fit_night o day offset faultless is number None = tt
fit_night o day offset faultless is number (Some rule) = λ k known line e shown.
    let rows = night_rows day offset (noon_on o offset) o.height in
    sun_is_right o.sun o.district (root_over o.district) rows k faultless (root_is_root o.district faultless)
    (lies_in_root (scene_of o.sun o.district (row_at rows k)) faultless) known (sun_has_rows day offset (noon_on o offset) o.height is k known) _ _ line e shown

two_of_night : (method : Method) (rise set : Row) (rule : Option NightRule) →
    IfSome (night_by method (rise ∷ set ∷ []) rule) (λ night. length night.rows ≡ 2)
two_of_night method rise set None = tt
two_of_night method rise set (Some rule) = refl

starts_of_night : (o : Asked) (day offset interval : ℤ) → IsDay day offset (noon_on o offset) o.height → (rule : Option NightRule) →
    IfSome (night_by o.method (night_rows day offset (noon_on o offset) o.height) rule)
    (λ night. (es ns : List Entry) → AreStarts (night_of (rows o.method o.asr day offset (noon_on o offset) o.height interval) es night.rows ns))
starts_of_night o day offset interval is None = tt
starts_of_night o day offset interval is (Some rule) = λ es ns.
    days_have_nights o.method o.asr day offset (noon_on o offset) o.height interval is es ns

-- a day whose lines show right entries, and whose night is safe by them
pub record IsGood (o : Asked) (day : DayRows) : Type 0 where
  pub fit : IsFit o.sun o.district (root_over o.district) day
  pub starts : IsStarting day

good_day : (o : Asked) (day offset : ℤ) → first_fault o.district ≡ None → o.height ≤ 9000 → first_day ≤ℤ day → day ≤ℤ last_day → IsOffset offset →
    IsGood o (day_with o day offset)
unfolding rows_on night_on shown_at
good_day o day offset faultless low early late range =
    let noon = noon_on o offset in
    let rows = rows_on o day offset in
    let is = is_day o day offset early late range low in
    let is_row : (k : ℕ) → k < 7 → IsRow (row_at rows k) =
    days_have_rows o.method o.asr day offset noon o.height (interval_on o.late day) is in
    record {
      fit = record {
        weekly = record { seven = refl; two = two_of_night o.method _ _ o.night };
        right = λ k known line e shown.
            line_is_right o.sun o.district (root_over o.district) rows k faultless (root_is_root o.district faultless)
            (lies_in_root (scene_of o.sun o.district (row_at rows k)) faultless) known (is_row k known) _ _ line e shown;
        night = fit_night o day offset faultless is day o.night;
      };
      starts = starts_of_night o day offset (interval_on o.late day) is o.night;
    }

good_days : (o : Asked) → first_fault o.district ≡ None → o.height ≤ 9000 → (day : ℤ) (offsets : List ℤ) → Every IsOffset offsets →
    first_day ≤ℤ day → (day +ℤ pos (length offsets)) ≤ℤ (last_day +ℤ pos 1) → Every (IsGood o) (days_from o day offsets)
good_days o faultless low day [] each early late = tt
good_days o faultless low day (offset ∷ rest) each early late = (
  good_day o day offset faultless low early (omega (arith, ints, late)) each.0,
  good_days o faultless low (day +ℤ pos 1) rest each.1 (omega (arith, ints, early)) (omega (arith, ints, late)),
)

all_good : (o : Asked) → IsOrder o → Every (IsGood o) (days_of o)
all_good o is =
    good_days o is.sound is.low o.from_day o.offsets (recursion_from_All IsOffset o.offsets (in_range o is)) is.not_early (rw (one_each o is) is.not_late)

some_no_none : (bad : BadLine) {o : Option BadLine} → o ≡ None → o ≡ Some bad → ⊥
some_no_none bad is other = cc

-- no line is bad where all were shown and nothing is left
none_bad : (number : ℕ) (end : Result (List ℕ) BadLine) → bad_line number end ≡ None → end ≡ Ok []
none_bad number (Ok []) h = refl
none_bad number (Ok (byte ∷ bytes)) h = absurd (some_no_none _ h refl)
none_bad number (Err bad) h = absurd (some_no_none bad h refl)

pub shown_tables_are_right : ShownTablesAreRight
unfolding shown_table
shown_tables_are_right o is lines =
    let root = root_over o.district in
    let good = all_good o is in
    let weekly = Every-weaker (IsGood o) IsWeekly (days_of o) (λ day g. g.fit.weekly) good in
    let right = All-from_recursion (IsRightDay o.sun o.district root) (shown_days o lines).days
    (each_day o.sun o.district root (IsRightDay o.sun o.district root) (days_of o)
    (Every-weaker (IsGood o) _ (days_of o) (λ day g. day_is_right o.sun o.district root day g.fit g.starts) good) 2 lines) in
    record {
      first = first_days o.sun o.district root (days_of o) weekly 2 lines;
      right = right;
      whole = λ none. record {
        whole = all_days o.sun o.district root (days_of o) weekly 2 lines [] (none_bad (last_number o) (shown_days o lines).end none);
        right = right;
      };
    }
