-- The text of a moment is read as that moment.
use Rattle.std.proofs.Common.{◌≡◌, ℕ, ◌+◌, ◌-◌, ◌*◌, ◌/◌, ◌%◌, ◌<◌, ◌≤◌, ◌&&◌, true, cond, ℤ, pos, neg_ℤ, ◌+ℤ◌, ◌-ℤ◌, ◌≤ℤ◌, unsigned_abs, List, [], ◌∷◌, Some, None, refl, ap, sym, subst, ◌∙◌, arith, nat_le}
use Rattle.std.proofs.lemmas.Bool.Decides.{nat_tests}
use Rattle.std.specs.List.{list_all}
use Rattle.std.specs.Int.{int_div_euclid, int_rem_euclid}
use Rattle.std.specs.Prelude.{option_and_then}
use borrow.Author.Differences.{up, down}
use Rattle.jiff_core.proofs.SignedLemmas.{int_div_euclid-parts, int_rem_euclid-parts, signed_arith}
use Rattle.jiff_core.specs.Calendar.{days_from_civil, days_in_month}
use Rattle.jiff_tz.specs.Year.{year_of_day}
use Rattle.year_table.specs.Dates.{day_of_month, month_of, two_digits}
use Rattle.ical_text.specs.Moments.{day_at, minute_at, minute_number, moment_by, moment_of, moment_text, number_of, parts_text, written_in}
use Rattle.ical_text.specs.Properties.{is_inner}
use Rattle.year_table.proofs.CivilLemmas.{IsDated, dated, nonnegative, two_bytes, two_read}

-- the sixteen bytes of a moment
abbrev moment_bytes : ℕ → ℕ → ℕ → ℕ → ℕ → List ℕ
moment_bytes year month day hour minute =
    (48 + year / 100 / 10) ∷ (48 + year / 100 % 10) ∷ (48 + year % 100 / 10) ∷ (48 + year % 100 % 10) ∷ (48 + month / 10) ∷ (48 + month % 10)
    ∷ (48 + day / 10) ∷ (48 + day % 10) ∷ 84 ∷ (48 + hour / 10) ∷ (48 + hour % 10) ∷ (48 + minute / 10) ∷ (48 + minute % 10) ∷ 48 ∷ 48 ∷ 90 ∷ []

bytes_are : (year month day minute : ℕ) → year < 10000 → month < 100 → day < 100 → minute < 1440 → moment_by (parts_text year month day) minute ≡ moment_bytes year month day (minute / 60) (minute % 60)
bytes_are year month day minute y m d t =
    rw (two_bytes (year / 100) (omega arith), two_bytes (year % 100) (omega arith), two_bytes month m, two_bytes day d, two_bytes (minute / 60) (omega arith), two_bytes (minute % 60) (omega arith)) refl

bytes_read : (year month day hour minute : ℕ) → year < 10000 → month < 100 → day < 100 → hour < 100 → minute < 100 → written_in (moment_bytes year month day hour minute) ≡ Some (record { year = year; month = month; day = day; hour = hour; minute = minute })
unfolding written_in
bytes_read year month day hour minute y m d h t =
    let whole : year / 100 * 100 + year % 100 ≡ year = omega arith in
    rw (two_read (year / 100) (omega arith), two_read (year % 100) (omega arith), two_read month m, two_read day d, two_read hour h, two_read minute t, whole) refl

fits : (m n : ℕ) → m ≤ n → nat_le m n ≡ true
fits m n h = grind (arith, nat_tests)

number_is : (year month date hour minute : ℕ) (day : ℤ) → 1899 ≤ year → year ≤ 2101 → 1 ≤ month → month ≤ 12 → 1 ≤ date → date ≤ days_in_month (pos year) month → hour ≤ 23 → minute ≤ 59 → days_from_civil (pos year) month date ≡ day → number_of (record { year = year; month = month; day = date; hour = hour; minute = minute }) ≡ Some (minute_number day hour minute)
unfolding number_of
number_is year month date hour minute day y z m n d e h t number =
    rw (fits 1899 year y, fits year 2101 z, fits hour 23 h, fits minute 59 t, fits year 9999 (omega arith), fits 1 month m, fits month 12 n, fits 1 date d, fits date (days_in_month (pos year) month) e, number) refl

-- The day and the minute of the day of a moment.

whole_day : (q : ℤ) → (q +ℤ pos 10957) -ℤ pos 10957 ≡ q
whole_day q = omega (arith, signed_arith)

number_by : (k q r : ℤ) (m : ℕ) → up r + up q * 1440 + down (k +ℤ pos 720) ≡ down q * 1440 + up (k +ℤ pos 720) → pos m ≡ r → minute_number (q +ℤ pos 10957) (m / 60) (m % 60) ≡ k
number_by k q r m parts e =
    let minute : m / 60 * 60 + m % 60 ≡ m = omega arith in
    rw (whole_day q, minute, e) (omega (arith, signed_arith))

module _ (k : ℤ) (low : neg_ℤ (pos 53120880) ≤ℤ k) (high : k ≤ℤ pos 53646479) where
  abbrev quotient : ℤ
  quotient = int_div_euclid (k +ℤ pos 720) (pos 1440)

  abbrev left : ℤ
  left = int_rem_euclid (k +ℤ pos 720) (pos 1440)

  minute_is : pos (minute_at k) ≡ left
  minute_is = nonnegative left (let parts = int_rem_euclid-parts (k +ℤ pos 720) 1440 (omega arith) in omega (arith, signed_arith, parts.1))

  minute_few : minute_at k < 1440
  minute_few = (let parts = int_rem_euclid-parts (k +ℤ pos 720) 1440 (omega arith) in omega (arith, signed_arith, parts.1, parts.2, minute_is))

  day_from : neg_ℤ (pos 25932) ≤ℤ day_at k
  day_from = (let parts = int_div_euclid-parts (k +ℤ pos 720) 1440 (omega arith) in omega (arith, signed_arith, parts.0, parts.1))

  day_to : day_at k ≤ℤ pos 48211
  day_to = (let parts = int_div_euclid-parts (k +ℤ pos 720) 1440 (omega arith) in omega (arith, signed_arith, parts.0, parts.1))

  number : minute_number (day_at k) (minute_at k / 60) (minute_at k % 60) ≡ k
  number = number_by k quotient left (minute_at k) (int_rem_euclid-parts (k +ℤ pos 720) 1440 (omega arith)).0 minute_is

-- a digit is no end of a line
pub plain_digit : (n : ℕ) → n < 10 → is_inner (48 + n) ≡ true
plain_digit n h = grind (arith, nat_tests)

bytes_plain : (year month day hour minute : ℕ) → year < 10000 → month < 100 → day < 100 → hour < 100 → minute < 100 → list_all is_inner (moment_bytes year month day hour minute) ≡ true
bytes_plain year month day hour minute y m d h t =
    rw (
      plain_digit (year / 100 / 10) (omega arith),
      plain_digit (year / 100 % 10) (omega arith),
      plain_digit (year % 100 / 10) (omega arith),
      plain_digit (year % 100 % 10) (omega arith),
      plain_digit (month / 10) (omega arith),
      plain_digit (month % 10) (omega arith),
      plain_digit (day / 10) (omega arith),
      plain_digit (day % 10) (omega arith),
      plain_digit (hour / 10) (omega arith),
      plain_digit (hour % 10) (omega arith),
      plain_digit (minute / 10) (omega arith),
      plain_digit (minute % 10) (omega arith),
    ) refl

-- Of a moment of the years from 1899 to 2101.

moment_is : (k : ℤ) → IsDated (day_at k) → minute_at k < 1440 → moment_text k ≡ moment_bytes (unsigned_abs (year_of_day (day_at k))) (month_of (day_at k)) (day_of_month (day_at k)) (minute_at k / 60) (minute_at k % 60)
moment_is k d few = bytes_are (unsigned_abs (year_of_day (day_at k))) (month_of (day_at k)) (day_of_month (day_at k)) (minute_at k) (omega (arith, d.to)) (omega (arith, d.month)) (omega (arith, d.short)) few

pub moment_plain : (k : ℤ) → neg_ℤ (pos 53120880) ≤ℤ k → k ≤ℤ pos 53646479 → list_all is_inner (moment_text k) ≡ true
moment_plain k low high =
    let d = dated (day_at k) (day_from k low high) (day_to k low high) in
    let few = minute_few k low high in
    ap (list_all is_inner) (moment_is k d few)
    ∙ bytes_plain (unsigned_abs (year_of_day (day_at k))) (month_of (day_at k)) (day_of_month (day_at k)) (minute_at k / 60) (minute_at k % 60) (omega (arith, d.to)) (omega (arith, d.month)) (omega (arith, d.short)) (omega arith) (omega arith)

pub moment_read : (k : ℤ) → neg_ℤ (pos 53120880) ≤ℤ k → k ≤ℤ pos 53646479 → moment_of (moment_text k) ≡ Some k
moment_read k low high =
    let day = day_at k in
    let d = dated day (day_from k low high) (day_to k low high) in
    let few = minute_few k low high in
    let year = unsigned_abs (year_of_day day) in
    let hour = minute_at k / 60 in
    let minute = minute_at k % 60 in
    let written = bytes_read year (month_of day) (day_of_month day) hour minute (omega (arith, d.to)) (omega (arith, d.month)) (omega (arith, d.short)) (omega arith) (omega arith) in
    let read = number_is year (month_of day) (day_of_month day) hour minute day d.from d.to d.first d.month (omega arith) d.date (omega arith) (omega arith) d.is in
    ap (λ s. option_and_then number_of (written_in s)) (moment_is k d few) ∙ (ap (option_and_then number_of) written ∙ (read ∙ ap (λ z. Some z) (number k low high)))
