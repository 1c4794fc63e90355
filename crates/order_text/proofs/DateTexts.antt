-- The text of a date is read as that date.
use Rattle.std.proofs.Common.{◌≡◌, ℕ, ◌+◌, ◌*◌, ◌/◌, ◌%◌, ◌<◌, ◌≤◌, true, ℤ, pos, unsigned_abs, List, [], ◌∷◌, Some, refl, ap, ◌∙◌, arith, nat_le}
use Rattle.std.proofs.lemmas.Bool.Decides.{nat_tests}
use Rattle.std.proofs.lemmas.Int.{ints}
use Rattle.std.specs.List.{list_all}
use Rattle.jiff_core.specs.Calendar.{days_from_civil, days_in_month}
use Rattle.jiff_tz.specs.Year.{year_of_day}
use Rattle.order_member.specs.Dates.{day_of, ymd_in}
use Rattle.order_rule.proofs.SignedLemmas.{between}
use Rattle.order_rule.specs.Offsets.{first_day, is_day, last_day}
use Rattle.year_table.proofs.CivilLemmas.{IsDated, dated, two_bytes, two_read}
use Rattle.year_table.specs.Dates.{date_text, day_of_month, month_of, parts_text}
use Rattle.year_table.specs.Rules.{is_rule_byte}

-- the ten bytes of a date
abbrev ten_bytes : ℕ → ℕ → ℕ → List ℕ
ten_bytes year month day =
    (48 + year / 100 / 10) ∷ (48 + year / 100 % 10) ∷ (48 + year % 100 / 10) ∷ (48 + year % 100 % 10) ∷ 45
    ∷ (48 + month / 10) ∷ (48 + month % 10) ∷ 45 ∷ (48 + day / 10) ∷ (48 + day % 10) ∷ []

parts_bytes : (year month day : ℕ) → year < 10000 → month < 100 → day < 100 → parts_text year month day ≡ ten_bytes year month day
parts_bytes year month day y m d =
    rw (two_bytes (year / 100) (omega arith), two_bytes (year % 100) (omega arith), two_bytes month m, two_bytes day d) refl

-- the parts of a date's text
parts_read : (year month day : ℕ) → year < 10000 → month < 100 → day < 100 → ymd_in (ten_bytes year month day) ≡ Some (record { year = year; month = month; day = day })
unfolding ymd_in
parts_read year month day y m d =
    let whole : year / 100 * 100 + year % 100 ≡ year = omega arith in
    rw (two_read (year / 100) (omega arith), two_read (year % 100) (omega arith), two_read month m, two_read day d, whole) refl

plain_digit : (n : ℕ) → n < 10 → is_rule_byte (48 + n) ≡ true
plain_digit n h = grind (arith, nat_tests)

bytes_plain : (year month day : ℕ) → year < 10000 → month < 100 → day < 100 → list_all is_rule_byte (ten_bytes year month day) ≡ true
bytes_plain year month day y m d =
    rw (
      plain_digit (year / 100 / 10) (omega arith),
      plain_digit (year / 100 % 10) (omega arith),
      plain_digit (year % 100 / 10) (omega arith),
      plain_digit (year % 100 % 10) (omega arith),
      plain_digit (month / 10) (omega arith),
      plain_digit (month % 10) (omega arith),
      plain_digit (day / 10) (omega arith),
      plain_digit (day % 10) (omega arith),
    ) refl

-- a date of the calendar
civil_read : (year month date : ℕ) (day : ℤ) → year < 10000 → 1 ≤ month → month ≤ 12 → 1 ≤ date → date ≤ days_in_month (pos year) month → days_from_civil (pos year) month date ≡ day → is_day day ≡ true → day_of (record { year = year; month = month; day = date }) ≡ Some day
unfolding day_of
civil_read year month date day y m n d e number far =
    let a : nat_le year 9999 ≡ true = grind (arith, nat_tests) in
    let b : nat_le 1 month ≡ true = grind (arith, nat_tests) in
    let c : nat_le month 12 ≡ true = grind (arith, nat_tests) in
    let f : nat_le 1 date ≡ true = grind (arith, nat_tests) in
    let g : nat_le date (days_in_month (pos year) month) ≡ true = fits_test date (days_in_month (pos year) month) e in
    rw (a, b, c, f, g, number, far) refl
  where
    fits_test : (m n : ℕ) → m ≤ n → nat_le m n ≡ true
    fits_test m n h = grind (arith, nat_tests)

-- Of a day that an order may name.

day_dated : (day : ℤ) → is_day day ≡ true → IsDated day
day_dated day h =
    let bounds = between first_day last_day day h in
    dated day (omega (arith, ints, bounds.0)) (omega (arith, ints, bounds.1))

bytes_of_day : (day : ℤ) → is_day day ≡ true → date_text day ≡ ten_bytes (unsigned_abs (year_of_day day)) (month_of day) (day_of_month day)
bytes_of_day day h =
    let d = day_dated day h in
    let month : month_of day < 100 = omega (arith, d.month) in
    parts_bytes (unsigned_abs (year_of_day day)) (month_of day) (day_of_month day) (omega (arith, d.to)) month (omega (arith, d.short))

pub day_text_read : (day : ℤ) → is_day day ≡ true → ymd_in (date_text day) ≡ Some (record { year = unsigned_abs (year_of_day day); month = month_of day; day = day_of_month day })
day_text_read day h =
    let d = day_dated day h in
    let month : month_of day < 100 = omega (arith, d.month) in
    ap ymd_in (bytes_of_day day h) ∙ parts_read (unsigned_abs (year_of_day day)) (month_of day) (day_of_month day) (omega (arith, d.to)) month (omega (arith, d.short))

pub day_text_plain : (day : ℤ) → is_day day ≡ true → list_all is_rule_byte (date_text day) ≡ true
day_text_plain day h =
    let d = day_dated day h in
    let month : month_of day < 100 = omega (arith, d.month) in
    ap (list_all is_rule_byte) (bytes_of_day day h) ∙ bytes_plain (unsigned_abs (year_of_day day)) (month_of day) (day_of_month day) (omega (arith, d.to)) month (omega (arith, d.short))

pub day_read : (day : ℤ) → is_day day ≡ true → day_of (record { year = unsigned_abs (year_of_day day); month = month_of day; day = day_of_month day }) ≡ Some day
day_read day h =
    let d = day_dated day h in
    civil_read (unsigned_abs (year_of_day day)) (month_of day) (day_of_month day) day (omega (arith, d.to)) d.first d.month (omega arith) d.date d.is h
