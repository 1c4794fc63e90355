-- The date of a day of the years from 1899 to 2101 is one of the calendar, and its day is that day; its parts are read of their digits.
use Rattle.std.proofs.Common.{◌≡◌, ℕ, zero, suc, ◌+◌, ◌-◌, ◌*◌, ◌/◌, ◌%◌, ◌<◌, ◌≤◌, Bool, true, false, ◌&&◌, cond, List, [], ◌∷◌, Some, None, ℤ, pos, negsuc, neg_ℤ, ◌+ℤ◌, ◌-ℤ◌, ◌≤ℤ◌, unsigned_abs, refl, ap, sym, subst, ◌∙◌, zero-add, arith, inl, inr, nat_le}
use Rattle.std.proofs.lemmas.Bool.{cases_lt}
use Rattle.std.proofs.lemmas.Bool.Decides.{nat_tests}
use Rattle.std.proofs.lemmas.Fmt.{decimal_digit}
use Rattle.std.specs.Char.{is_ascii_digit}
use Rattle.jiff_core.proofs.CalendarLemmas.{day_count-day_of_year, days_from_civil-day_count, days_of_months_all, days_of_months_more, days_in_month_bounds, days_of_months-zero}
use Rattle.jiff_core.proofs.MarchLemmas.{days_of_years-march_days}
use Rattle.jiff_core.proofs.SignedLemmas.{signed_arith}
use Rattle.jiff_core.specs.Calendar.{day_count, days_from_civil, days_in_month, days_in_year, days_of_months, days_of_years}
use Rattle.jiff_tz.specs.Year.{year_of_day, years_within}
use Rattle.year_table.specs.Dates.{day_in_year, day_of_month, month_of, months_before, months_within, two_digits}

-- The years that fit in a count of days.

fits_if : (a b : ℕ) (t : Bool) → nat_le a b ≡ t → cond t (a ≤ b) (b < a)
fits_if a b true e = grind (arith, nat_tests)
fits_if a b false e = grind (arith, nat_tests)

pub days_of_years_suc : (n : ℕ) → days_of_years (suc n) ≡ days_of_years n + days_in_year (pos n -ℤ pos 10000)
unfolding days_of_years
days_of_years_suc n = refl

days_of_years_zero : days_of_years 0 ≡ 0
unfolding days_of_years
days_of_years_zero = refl

pub more_years : (n k : ℕ) → days_of_years n ≤ days_of_years (k + n)
more_years n zero = rw zero-add (omega arith)
more_years n (suc k) =
    let step = days_of_years_suc (k + n) in
    let next : suc k + n ≡ suc (k + n) = omega arith in
    rw next (omega (arith, more_years n k))

-- the years that fit, by whether one year more does
low_by : (n k count : ℕ) (t : Bool) → nat_le (days_of_years (suc n)) count ≡ t → days_of_years k ≤ count → days_of_years (cond t (suc n) k) ≤ count
low_by n k count true e rest = fits_if (days_of_years (suc n)) count true e
low_by n k count false e rest = rest

years_low : (n count : ℕ) → days_of_years (years_within n count) ≤ count
unfolding years_within
years_low zero count = omega (arith, days_of_years_zero)
years_low (suc n) count = low_by n (years_within n count) count (nat_le (days_of_years (suc n)) count) refl (years_low n count)

high_by : (n k count : ℕ) (t : Bool) → nat_le (days_of_years (suc n)) count ≡ t → count < days_of_years (suc (suc n)) → (count < days_of_years (suc n) → count < days_of_years (suc k)) → count < days_of_years (suc (cond t (suc n) k))
high_by n k count true e h rest = h
high_by n k count false e h rest = rest (fits_if (days_of_years (suc n)) count false e)

years_high : (n count : ℕ) → count < days_of_years (suc n) → count < days_of_years (suc (years_within n count))
unfolding years_within
years_high zero count h = h
years_high (suc n) count h = high_by n (years_within n count) count (nat_le (days_of_years (suc n)) count) refl h (years_high n count)

-- The months that fit in the days of a year.

month_low_by : (y : ℤ) (n k count : ℕ) (t : Bool) → nat_le (days_of_months y (suc n)) count ≡ t → days_of_months y k ≤ count → days_of_months y (cond t (suc n) k) ≤ count
month_low_by y n k count true e rest = fits_if (days_of_months y (suc n)) count true e
month_low_by y n k count false e rest = rest

months_low : (y : ℤ) (n count : ℕ) → days_of_months y (months_within y n count) ≤ count
unfolding months_within
months_low y zero count = omega (arith, days_of_months-zero y)
months_low y (suc n) count = month_low_by y n (months_within y n count) count (nat_le (days_of_months y (suc n)) count) refl (months_low y n count)

month_high_by : (y : ℤ) (n k count : ℕ) (t : Bool) → nat_le (days_of_months y (suc n)) count ≡ t → count < days_of_months y (suc (suc n)) → (count < days_of_months y (suc n) → count < days_of_months y (suc k)) → count < days_of_months y (suc (cond t (suc n) k))
month_high_by y n k count true e h rest = h
month_high_by y n k count false e h rest = rest (fits_if (days_of_months y (suc n)) count false e)

months_high : (y : ℤ) (n count : ℕ) → count < days_of_months y (suc n) → count < days_of_months y (suc (months_within y n count))
unfolding months_within
months_high y zero count h = h
months_high y (suc n) count h = month_high_by y n (months_within y n count) count (nat_le (days_of_months y (suc n)) count) refl h (months_high y n count)

at_most_by : (n k : ℕ) (t : Bool) → k ≤ n → cond t (suc n) k ≤ suc n
at_most_by n k true h = omega arith
at_most_by n k false h = omega arith

months_at_most : (y : ℤ) (n count : ℕ) → months_within y n count ≤ n
unfolding months_within
months_at_most y zero count = omega arith
months_at_most y (suc n) count = at_most_by n (months_within y n count) (nat_le (days_of_months y (suc n)) count) (months_at_most y n count)

pub nonnegative : (z : ℤ) → pos 0 ≤ℤ z → pos (unsigned_abs z) ≡ z
nonnegative (pos n) h = refl
nonnegative (negsuc n) h = absurd (omega (arith, signed_arith))

-- A day of these years, and its year, month and day of the month.

-- how many years from the year -10000 on lie before the day
abbrev years : ℤ → ℕ
years day = years_within 20000 (unsigned_abs (day +ℤ pos 4371953))

-- how many days from 1 January of that year on lie before it
abbrev all_days : ℤ → ℕ
all_days day = unsigned_abs (day +ℤ pos 4371953)

pub first_days : (y : ℤ) (n : ℕ) → y +ℤ pos 10000 ≡ pos n → day_count y 1 1 ≡ days_of_years n
unfolding day_count
first_days y n e = rw e (omega (arith, days_of_months-zero y))

module _ (day : ℤ) (low : neg_ℤ (pos 25932) ≤ℤ day) (high : day ≤ℤ pos 48211) where
  all_days_is : pos (all_days day) ≡ day +ℤ pos 4371953
  all_days_is = nonnegative (day +ℤ pos 4371953) (omega (arith, signed_arith))

  all_days_low : 4346021 ≤ all_days day
  all_days_low = omega (arith, signed_arith, all_days_is)

  all_days_high : all_days day ≤ 4420164
  all_days_high = omega (arith, signed_arith, all_days_is)

  days_low : days_of_years (years day) ≤ all_days day
  days_low = years_low 20000 (all_days day)

  days_high : all_days day < days_of_years (suc (years day))
  days_high = years_high 20000 (all_days day) (omega (arith, all_days_high, days_of_years-march_days 20000, more_years 20000 1))

  years_from : 11899 ≤ years day
  years_from = elim (cases_lt (years day) 11899) [
    | inl less ↦
        let k = 11898 - years day in
        let sum : k + suc (years day) ≡ 11899 = omega arith in
        let more = more_years (suc (years day)) k in
        absurd (omega (arith, all_days_low, days_high, days_of_years-march_days 11899, ap days_of_years sum))
    | inr more ↦ more
  ]

  years_to : years day < 12102
  years_to = elim (cases_lt (years day) 12102) [
    | inl less ↦ less
    | inr more ↦
        let k = years day - 12102 in
        let sum : k + 12102 ≡ years day = omega arith in
        absurd (omega (arith, all_days_high, days_low, days_of_years-march_days 12102, more_years 12102 k, ap days_of_years sum))
  ]

  pub year_is : pos (unsigned_abs (year_of_day day)) ≡ year_of_day day
  year_is = nonnegative (year_of_day day) (omega (arith, signed_arith, years_from))

  pub year_from : 1899 ≤ unsigned_abs (year_of_day day)
  year_from = omega (arith, signed_arith, year_is, years_from)

  pub year_to : unsigned_abs (year_of_day day) ≤ 2101
  year_to = omega (arith, signed_arith, year_is, years_to)

  year_shift : year_of_day day +ℤ pos 10000 ≡ pos (years day)
  year_shift = omega (arith, signed_arith)

  of_year : day_in_year day + days_of_years (years day) ≡ all_days day
  of_year =
      let start = days_from_civil-day_count (year_of_day day) 1 1 in
      let first = first_days (year_of_day day) (years day) year_shift in
      let is = nonnegative (day -ℤ days_from_civil (year_of_day day) 1 1) (omega (arith, signed_arith, all_days_is, days_low)) in
      omega (arith, signed_arith, all_days_is)

  within_year : day_in_year day < days_of_months (year_of_day day) 12
  within_year = omega (arith, of_year, days_high, days_of_years_suc (years day), days_of_months_all (year_of_day day))

  month_starts : days_of_months (year_of_day day) (months_before day) ≤ day_in_year day
  month_starts = months_low (year_of_day day) 11 (day_in_year day)

  month_ends : day_in_year day < days_of_months (year_of_day day) (suc (months_before day))
  month_ends = months_high (year_of_day day) 11 (day_in_year day) within_year

  pub month_short : months_before day ≤ 11
  month_short = months_at_most (year_of_day day) 11 (day_in_year day)

  this_month : days_of_months (year_of_day day) (suc (months_before day)) ≡ days_of_months (year_of_day day) (months_before day) + days_in_month (year_of_day day) (month_of day)
  this_month =
      let before : suc (months_before day) - 1 ≡ months_before day = omega arith in
      let more = days_of_months_more (year_of_day day) (suc (months_before day)) (omega arith) in
      let same : month_of day ≡ suc (months_before day) = omega arith in
      rw same (more ∙ ap (λ m. days_of_months (year_of_day day) m + days_in_month (year_of_day day) (suc (months_before day))) before)

  pub day_short : day_of_month day ≤ days_in_month (year_of_day day) (month_of day)
  day_short = omega (arith, month_starts, month_ends, this_month)

  pub day_number_is : days_from_civil (year_of_day day) (month_of day) (day_of_month day) ≡ day
  day_number_is =
      let number = days_from_civil-day_count (year_of_day day) (month_of day) (day_of_month day) in
      let place = day_count-day_of_year (year_of_day day) (month_of day) (day_of_month day) (omega arith) in
      let before : month_of day - 1 ≡ months_before day = omega arith in
      let months : days_of_months (year_of_day day) (month_of day - 1) ≡ days_of_months (year_of_day day) (months_before day) = ap (days_of_months (year_of_day day)) before in
      let first = first_days (year_of_day day) (years day) year_shift in
      omega (arith, signed_arith, all_days_is, of_year, month_starts)

-- a day of these years has a date
pub record IsDated (day : ℤ) : Type 0 where
  pub from : 1899 ≤ unsigned_abs (year_of_day day)
  pub to : unsigned_abs (year_of_day day) ≤ 2101
  pub first : 1 ≤ month_of day
  pub month : month_of day ≤ 12
  pub short : day_of_month day ≤ 31
  pub date : day_of_month day ≤ days_in_month (pos (unsigned_abs (year_of_day day))) (month_of day)
  pub is : days_from_civil (pos (unsigned_abs (year_of_day day))) (month_of day) (day_of_month day) ≡ day

pub dated : (day : ℤ) → neg_ℤ (pos 25932) ≤ℤ day → day ≤ℤ pos 48211 → IsDated day
dated day low high =
    let sign = year_is day low high in
    let before = month_short day low high in
    let date = day_short day low high in
    let most = days_in_month_bounds (year_of_day day) (month_of day) in
    record {
      from = year_from day low high;
      to = year_to day low high;
      first = omega arith;
      month = omega arith;
      short = omega (arith, most.0);
      date = subst (λ z. day_of_month day ≤ days_in_month z (month_of day)) (sym sign) date;
      is = ap (λ z. days_from_civil z (month_of day) (day_of_month day)) sign ∙ day_number_is day low high;
    }

-- Two digits of a number below 100.

pub two_bytes : (n : ℕ) → n < 100 → two_digits n ≡ (48 + n / 10) ∷ (48 + n % 10) ∷ []
two_bytes n h =
    let tens = decimal_digit (n / 10) (omega arith) in
    let ones = decimal_digit (n % 10) (omega arith) in
    rw (tens, ones) refl

pub two_read : (n : ℕ) → n < 100 → cond (is_ascii_digit (48 + n / 10) && is_ascii_digit (48 + n % 10)) (Some ((48 + n / 10 - 48) * 10 + (48 + n % 10 - 48))) None ≡ Some n
two_read n h =
    let tens : is_ascii_digit (48 + n / 10) ≡ true = grind (arith, nat_tests) in
    let ones : is_ascii_digit (48 + n % 10) ≡ true = grind (arith, nat_tests) in
    let worth : (48 + n / 10 - 48) * 10 + (48 + n % 10 - 48) ≡ n = omega arith in
    rw (tens, ones, worth) refl
