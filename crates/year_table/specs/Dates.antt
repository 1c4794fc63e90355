-- The Gregorian date of a day since 1970-01-01, and its text.
use Rattle.std.specs.Prelude.{ℕ, zero, suc, ◌+◌, ◌-◌, ◌*◌, ◌/◌, ◌%◌, ◌++◌, Bool, ◌&&◌, nat_le, if◌then◌else◌, ℤ, pos, ◌-ℤ◌, unsigned_abs, List, slice_index, codes, decimal, Option, Some, None}
use Rattle.std.specs.Char.{is_ascii_digit}
use Rattle.jiff_core.specs.Calendar.{days_from_civil, days_in_month, days_of_months}
use Rattle.jiff_tz.specs.Year.{year_of_day}

-- the number of a day in its year, from 0
abbrev pub day_in_year : ℤ → ℕ
day_in_year day = unsigned_abs (day -ℤ days_from_civil (year_of_day day) 1 1)

-- the most months, at most n, of the year that fit in that many days
unfoldable pub months_within : ℤ → ℕ → ℕ → ℕ
months_within year zero count = 0
months_within year (suc n) count = if nat_le (days_of_months year (suc n)) count then suc n else months_within year n count

-- how many months of its year lie before a day
abbrev pub months_before : ℤ → ℕ
months_before day = months_within (year_of_day day) 11 (day_in_year day)

-- the month, from 1
abbrev pub month_of : ℤ → ℕ
month_of day = months_before day + 1

-- the day of the month, from 1
abbrev pub day_of_month : ℤ → ℕ
day_of_month day = day_in_year day - days_of_months (year_of_day day) (months_before day) + 1

-- a number below 100
abbrev pub two_digits : ℕ → List ℕ
two_digits n = decimal (n / 10) ++ decimal (n % 10)

-- YYYY-MM-DD, of the years from 0 to 9999
abbrev pub parts_text : ℕ → ℕ → ℕ → List ℕ
parts_text year month day =
    two_digits (year / 100) ++ two_digits (year % 100) ++ codes "-" ++ two_digits month ++ codes "-" ++ two_digits day

abbrev pub date_text : ℤ → List ℕ
date_text day = parts_text (unsigned_abs (year_of_day day)) (month_of day) (day_of_month day)

-- the number that the two digits at a place write
abbrev pub two_digits_at : List ℕ → ℕ → Option ℕ
two_digits_at s i =
    if is_ascii_digit (slice_index s i) && is_ascii_digit (slice_index s (i + 1))
    then Some ((slice_index s i - 48) * 10 + (slice_index s (i + 1) - 48)) else None

-- the calendar has the date, and its year has four digits
abbrev pub is_date : ℕ → ℕ → ℕ → Bool
is_date year month day =
    nat_le year 9999
    && ((nat_le 1 month && nat_le month 12) && (nat_le 1 day && nat_le day (days_in_month (pos year) month)))

-- the day since 1970-01-01 of a date
abbrev pub civil_day : ℕ → ℕ → ℕ → Option ℤ
civil_day year month day = if is_date year month day then Some (days_from_civil (pos year) month day) else None
