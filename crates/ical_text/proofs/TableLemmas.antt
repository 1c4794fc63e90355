-- The texts of a table's events can be read.
use Rattle.std.proofs.Common.{◌≡◌, ◌∙◌, ℕ, suc, ◌+◌, ◌/◌, ◌%◌, ◌<◌, ◌≤◌, ◌^◌, Bool, true, false, cond, ◌&&◌, ◌||◌, ◌==◌, List, [], ◌∷◌, ◌++◌, ℤ, pos, negsuc, neg_ℤ, ◌+ℤ◌, ◌-ℤ◌, ◌*ℤ◌, ◌≤ℤ◌, unsigned_abs, refl, ap, sym, subst, arith}
use Rattle.std.proofs.lemmas.Bool.Decides.{nat_tests}
use Rattle.std.proofs.lemmas.Fmt.{decimal_by_steps}
use Rattle.std.proofs.lemmas.Int.{ints}
use Rattle.std.proofs.lemmas.List.Folds.{list_all-append}
use Rattle.std.specs.Fmt.{decimal, signed_decimal}
use Rattle.std.specs.List.{list_all}
use Rattle.std.specs.Prelude.{All, codes}
use Rattle.cell_split.specs.declared.verdict.Entry.{Entry}
use Rattle.cell_split.specs.declared.verdict.Entry.TheVariants.{Minute, Never, Open, Whole}
use Rattle.method_table.specs.declared.method.Asr.{Asr}
use Rattle.method_table.specs.declared.method.Asr.TheVariants.{Standard, Hanafi}
use Rattle.method_table.specs.declared.method.Method.{Method}
use Rattle.method_table.specs.declared.method.Method.TheVariants.{Mwl, Isna, Egypt, Karachi, Makkah, Tehran, Jafari}
use Rattle.method_table.specs.declared.problem.Column.{Column}
use Rattle.method_table.specs.declared.problem.Column.TheVariants.{Fajr, FajrEnd, Dhuhr, Asr as AsrColumn, Maghrib, MaghribEnd, Isha}
use Rattle.method_table.specs.Method.{asr_word, method_word}
use Rattle.method_table.specs.Row.{Row, column_word, minute_of}
use Rattle.method_table.specs.Table.{base_of}
use Rattle.jiff_tz.specs.Year.{year_of_day}
use Rattle.year_table.proofs.CivilLemmas.{IsDated, dated}
use Rattle.year_table.specs.Dates as dates
use Rattle.year_table.specs.Dates.{day_of_month, month_of, two_digits}
use Rattle.year_table.specs.Entries.{IsInFrame}
use Rattle.ical_text.specs.declared.event.Event.{Event}
use Rattle.ical_text.specs.Calendar.{corner_text, day_events, description_text, entry_events, escaped, event_of, uid_text}
use Rattle.ical_text.specs.Laws.{CanBeRead}
use Rattle.ical_text.specs.Moments.{stamp_text}
use Rattle.ical_text.specs.Properties.{is_inner}
use Rattle.ical_text.specs.Tables.{Found, IsDay, IsPrintable, IsRowOf, IsSheet, Sheet, TablesAreReadAgain, is_visible, table_events}
use Rattle.ical_text.proofs.CalendarLemmas.{EachCanBeRead, read_again_each}
use Rattle.ical_text.proofs.FoldLemmas.{first_part, second_part}
use Rattle.ical_text.proofs.MinuteLemmas.{minute_high, minute_low}
use Rattle.ical_text.proofs.MomentLemmas.{plain_digit}

-- a text without CR and LF
record Plain (text : List ℕ) : Type 0 where
  pub is : list_all is_inner text ≡ true

both : {a b : List ℕ} → Plain a → Plain b → Plain (a ++ b)
both {a} {b} ha hb = record { is = list_all-append is_inner a b ∙ (ap (λ t. t && list_all is_inner b) ha.is ∙ hb.is) }

dash : Plain (codes "-")
dash = record { is = refl }

-- Numbers and dates.

one_digit : (n : ℕ) → n < 10 → Plain ((48 + n) ∷ [])
one_digit n h = record { is = ap (λ t. t && true) (plain_digit n h) }

decimal_plain : (n : ℕ) → n < 2 ^ 64 → Plain (decimal n)
decimal_plain n h = decimal_by_steps (λ k text. Plain text) one_digit (λ k text great plain. both plain (one_digit (k % 10) (omega arith))) n h

signed_plain : (z : ℤ) → unsigned_abs z < 2 ^ 63 → Plain (signed_decimal z)
signed_plain (pos n) h = decimal_plain n (omega arith)
signed_plain (negsuc n) h = both dash (decimal_plain (suc n) (omega arith))

two_plain : (n : ℕ) → n < 100 → Plain (two_digits n)
two_plain n h = both (decimal_plain (n / 10) (omega arith)) (decimal_plain (n % 10) (omega arith))

module _ (day : ℤ) (is : IsDay day) where
  date : IsDated day
  date = dated day (omega (arith, ints, is.not_early)) (omega (arith, ints, is.not_late))

  year : ℕ
  year = unsigned_abs (year_of_day day)

  year_short : unsigned_abs (year_of_day day) < 10000
  year_short = omega (arith, date.to)

  month_few : month_of day < 100
  month_few = omega (arith, date.month)

  day_few : day_of_month day < 100
  day_few = omega (arith, date.short)

  years_plain : Plain (two_digits (unsigned_abs (year_of_day day) / 100) ++ two_digits (unsigned_abs (year_of_day day) % 100))
  years_plain = both (two_plain (unsigned_abs (year_of_day day) / 100) (omega (arith, year_short))) (two_plain (unsigned_abs (year_of_day day) % 100) (omega arith))

  month_plain : Plain (two_digits (month_of day))
  month_plain = two_plain (month_of day) month_few

  day_plain : Plain (two_digits (day_of_month day))
  day_plain = two_plain (day_of_month day) day_few

  date_plain : Plain (dates.date_text day)
  date_plain = both (both (both (both years_plain dash) month_plain) dash) day_plain

  stamp_plain : Plain (stamp_text day)
  stamp_plain = (let end : Plain (codes "T000000Z") = record { is = refl } in both (both (both years_plain month_plain) day_plain) end)

-- Words.

column_plain : (c : Column) → Plain (column_word c)
column_plain Fajr = record { is = refl }
column_plain FajrEnd = record { is = refl }
column_plain Dhuhr = record { is = refl }
column_plain AsrColumn = record { is = refl }
column_plain Maghrib = record { is = refl }
column_plain MaghribEnd = record { is = refl }
column_plain Isha = record { is = refl }

method_plain : (m : Method) → Plain (method_word m)
method_plain Mwl = record { is = refl }
method_plain Isna = record { is = refl }
method_plain Egypt = record { is = refl }
method_plain Karachi = record { is = refl }
method_plain Makkah = record { is = refl }
method_plain Tehran = record { is = refl }
method_plain Jafari = record { is = refl }

asr_plain : (a : Asr) → Plain (asr_word a)
asr_plain Standard = record { is = refl }
asr_plain Hanafi = record { is = refl }

visible_inner : (b : ℕ) → is_visible b ≡ true → is_inner b ≡ true
visible_inner b h = grind (arith, nat_tests)

escaped_by : (t : Bool) (b : ℕ) → is_inner b ≡ true → Plain (cond t (92 ∷ b ∷ []) (b ∷ []))
escaped_by true b h = record { is = ap (λ u. u && true) h }
escaped_by false b h = record { is = ap (λ u. u && true) h }

escaped_plain : (zone : List ℕ) → list_all is_visible zone ≡ true → Plain (escaped zone)
escaped_plain [] h = record { is = refl }
escaped_plain (b ∷ zone) h =
    both (escaped_by ((b == 44) || (b == 59)) b (visible_inner b (first_part (is_visible b) (list_all is_visible zone) h)))
    (escaped_plain zone (second_part (is_visible b) (list_all is_visible zone) h))

description_plain : (method : Method) (asr : Asr) (zone : List ℕ) → list_all is_visible zone ≡ true → Plain (description_text method asr zone)
description_plain method asr zone h =
    let first : Plain (codes "Safe at every point of the district. Method ") = record { is = refl } in
    let second : Plain (codes "\\, asr ") = record { is = refl } in
    let third : Plain (codes "\\, zone ") = record { is = refl } in
    both (both (both (both (both first (method_plain method)) second) (asr_plain asr)) third) (escaped_plain zone h)

uid_plain : (day : ℤ) (c : Column) (west south : ℤ) → IsDay day → unsigned_abs west < 2 ^ 63 → unsigned_abs south < 2 ^ 63 → Plain (uid_text day (column_word c) west south)
uid_plain day c west south d w s =
    let end : Plain (codes "@timetable.invalid") = record { is = refl } in
    let corner : Plain (corner_text west south) = both (both (signed_plain west w) dash) (signed_plain south s) in
    both (date_plain day d) (both (both (both (both dash (column_plain c)) dash) corner) end)

-- The moments of a row.

start_low : (day offset minute shift : ℤ) → neg_ℤ (pos 25567) ≤ℤ day → offset ≤ℤ pos 840 → neg_ℤ (pos 720) ≤ℤ minute → pos 0 ≤ℤ shift → neg_ℤ (pos 53120880) ≤ℤ ((base_of day offset +ℤ minute) +ℤ shift)
start_low day offset minute shift d o m s = (let e : (day -ℤ pos 10957) *ℤ pos 1440 ≡ day *ℤ pos 1440 -ℤ pos 15778080 = omega (arith, ints) in omega (arith, ints, e))

start_high : (day offset minute shift : ℤ) → day ≤ℤ pos 47846 → neg_ℤ (pos 720) ≤ℤ offset → minute ≤ℤ pos 2159 → shift ≤ℤ pos 120 → ((base_of day offset +ℤ minute) +ℤ shift) ≤ℤ pos 53646479
start_high day offset minute shift d o m s = (let e : (day -ℤ pos 10957) *ℤ pos 1440 ≡ day *ℤ pos 1440 -ℤ pos 15778080 = omega (arith, ints) in omega (arith, ints, e))

minute_read : (s : Sheet) (day : ℤ) (p : Row) (rank : ℕ) → IsSheet s → IsDay day → IsRowOf day p → rank ≤ 720 → CanBeRead (event_of s.west s.south day p rank)
minute_read s day p rank sheet d r few =
    let low = minute_low p.side p.first p.last rank few r.first_not_low r.framed in
    let high = minute_high p.side p.first p.last rank few r.first_not_high r.framed in
    let base = ap (λ b. (b +ℤ minute_of p rank) +ℤ p.shift) r.base in
    record {
      uid = (uid_plain day p.column s.west s.south d sheet.west sheet.south).is;
      summary = (column_plain p.column).is;
      not_early = subst (λ z. neg_ℤ (pos 53120880) ≤ℤ z) (sym base) (start_low day r.offset (minute_of p rank) p.shift d.not_early r.offset_not_high low r.shift_not_negative);
      not_late = subst (λ z. z ≤ℤ pos 53646479) (sym base) (start_high day r.offset (minute_of p rank) p.shift d.not_late r.offset_not_low high r.shift_not_high);
    }

-- All events of a table.

each-append : (a b : List Event) → EachCanBeRead a → EachCanBeRead b → EachCanBeRead (a ++ b)
each-append [] b ha hb = hb
each-append (e ∷ a) b ha hb = (ha.0, each-append a b ha.1 hb)

entry_read : (s : Sheet) (day : ℤ) (x : Row × Entry) → IsSheet s → IsDay day → IsRowOf day x.0 → IsInFrame x.1 → EachCanBeRead (entry_events s.west s.south day x)
entry_read s day (p, Minute rank) sheet d r few = (minute_read s day p rank sheet d r few, tt)
entry_read s day (p, Whole) sheet d r few = tt
entry_read s day (p, Never) sheet d r few = tt
entry_read s day (p, Open safe from cell) sheet d r few = tt

day_read : (s : Sheet) (day : ℤ) (found : List (Row × Entry)) → IsSheet s → IsDay day → All (λ x. IsRowOf day x.0) found → All (λ x. IsInFrame x.1) found → EachCanBeRead (day_events s.west s.south day found)
day_read s day [] sheet d rows entries = tt
day_read s day (x ∷ found) sheet d rows entries =
    each-append (entry_events s.west s.south day x) (day_events s.west s.south day found) (entry_read s day x sheet d (rows 0 x (omega arith)) (entries 0 x (omega arith)))
    (day_read s day found sheet d (λ k y h. rows (suc k) y (omega arith)) (λ k y h. entries (suc k) y (omega arith)))

days_read : (s : Sheet) (days : List Found) → IsSheet s → All IsPrintable days → EachCanBeRead (table_events s days)
days_read s [] sheet all = tt
days_read s (d ∷ days) sheet all =
    let first : IsPrintable d = all 0 d (omega arith) in
    each-append (day_events s.west s.south d.number d.found) (table_events s days) (day_read s d.number d.found sheet first.day first.rows first.entries) (days_read s days sheet (λ k y h. all (suc k) y (omega arith)))

pub tables_read : TablesAreReadAgain
tables_read s days sheet all =
    read_again_each (stamp_text s.from) (description_text s.method s.asr s.zone) (table_events s days) (stamp_plain s.from sheet.from).is (description_plain s.method s.asr s.zone sheet.zone).is (days_read s days sheet all)
