-- Minutes since 2000-01-01 12:00 Universal Time, as calendars write them: YYYYMMDDTHHMM00Z.
use Rattle.std.specs.Prelude.{ℕ, ◌+◌, ◌-◌, ◌*◌, ◌/◌, ◌%◌, ◌==◌, nat_le, ◌++◌, ℤ, pos, ◌+ℤ◌, ◌-ℤ◌, ◌*ℤ◌, ◌≤ℤ◌, neg_ℤ, unsigned_abs, Bool, ◌&&◌, if◌then◌else◌, List, codes, length, slice_index, Option, Some, None, option_map, option_and_then}
use Rattle.std.specs.Int.{int_div_euclid, int_rem_euclid}
use Rattle.jiff_tz.specs.Year.{year_of_day}
use Rattle.year_table.specs.Dates as dates
use Rattle.year_table.specs.Dates.{civil_day, day_of_month, month_of, two_digits, two_digits_at}
use Rattle.ical_text.specs.declared.written.Written.{Written}

-- the day since 1970-01-01 (day 10,957 is 2000-01-01), and the minute of that day
abbrev pub day_at : ℤ → ℤ
day_at k = int_div_euclid (k +ℤ pos 720) (pos 1440) +ℤ pos 10957

abbrev pub minute_at : ℤ → ℕ
minute_at k = unsigned_abs (int_rem_euclid (k +ℤ pos 720) (pos 1440))

-- YYYYMMDD, of the years from 0 to 9999
abbrev pub parts_text : ℕ → ℕ → ℕ → List ℕ
parts_text year month day = two_digits (year / 100) ++ two_digits (year % 100) ++ two_digits month ++ two_digits day

abbrev pub date_text : ℤ → List ℕ
date_text day = parts_text (unsigned_abs (year_of_day day)) (month_of day) (day_of_month day)

-- the first minute of a day
abbrev pub stamp_text : ℤ → List ℕ
stamp_text day = date_text day ++ codes "T000000Z"

abbrev pub moment_by : List ℕ → ℕ → List ℕ
moment_by date minute = date ++ codes "T" ++ two_digits (minute / 60) ++ two_digits (minute % 60) ++ codes "00Z"

abbrev pub moment_text : ℤ → List ℕ
moment_text k = moment_by (date_text (day_at k)) (minute_at k)

-- a minute of the years from 1899 to 2101
pub record IsInYears (k : ℤ) : Type 0 where
  pub not_early : neg_ℤ (pos 53120880) ≤ℤ k
  pub not_late : k ≤ℤ pos 53646479

-- as people read it: YYYY-MM-DDTHH:MMZ
abbrev pub shown_by : List ℕ → ℕ → List ℕ
shown_by date minute = date ++ codes "T" ++ two_digits (minute / 60) ++ codes ":" ++ two_digits (minute % 60) ++ codes "Z"

abbrev pub shown_moment : ℤ → List ℕ
shown_moment k = shown_by (dates.date_text (day_at k)) (minute_at k)

abbrev pub written_by : Option ℕ → Option ℕ → Option ℕ → Option ℕ → Option ℕ → Option ℕ → Option Written
written_by (Some century) (Some year) (Some month) (Some day) (Some hour) (Some minute) =
    Some (record { year = century * 100 + year; month = month; day = day; hour = hour; minute = minute })
written_by _ _ _ _ _ _ = None

-- sixteen bytes, of which four have their places: the T, the seconds 00 and the Z
abbrev pub is_shaped : List ℕ → Bool
is_shaped s =
    (length s == 16) && ((slice_index s 8 == 84) && ((slice_index s 13 == 48) && ((slice_index s 14 == 48) && (slice_index s 15 == 90))))

-- the numbers of a text of this form
unfoldable pub written_in : List ℕ → Option Written
written_in s =
    if is_shaped s
    then written_by (two_digits_at s 0) (two_digits_at s 2) (two_digits_at s 4) (two_digits_at s 6) (two_digits_at s 9) (two_digits_at s 11)
    else None

-- a time of the day, in the years from 1899 to 2101
abbrev pub is_known : Written → Bool
is_known w = (nat_le 1899 w.year && nat_le w.year 2101) && (nat_le w.hour 23 && nat_le w.minute 59)

abbrev pub minute_number : ℤ → ℕ → ℕ → ℤ
minute_number day hour minute = (day -ℤ pos 10957) *ℤ pos 1440 -ℤ pos 720 +ℤ pos (hour * 60 + minute)

unfoldable pub number_of : Written → Option ℤ
number_of w = if is_known w then option_map (λ day. minute_number day w.hour w.minute) (civil_day w.year w.month w.day) else None

-- the minute of a text
abbrev pub moment_of : List ℕ → Option ℤ
moment_of s = option_and_then number_of (written_in s)
