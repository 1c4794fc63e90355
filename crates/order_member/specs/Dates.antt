-- The dates of an order, as texts.
use Rattle.std.specs.Prelude.{ℕ, ◌+◌, ◌*◌, ◌==◌, ℤ, Bool, ◌&&◌, if◌then◌else◌, List, length, slice_index, Option, Some, None, option_and_then}
use Rattle.order_member.specs.declared.date.Ymd.{Ymd}
use Rattle.year_table.specs.Dates.{civil_day, two_digits_at}
use Rattle.order_rule.specs.Offsets.{is_day}

abbrev pub is_dash_at : List ℕ → ℕ → Bool
is_dash_at s i = slice_index s i == 0x2D

abbrev pub ymd_of : Option ℕ → Option ℕ → Option ℕ → Option ℕ → Option Ymd
ymd_of (Some century) (Some year) (Some month) (Some day) = Some (record { year = century * 100 + year; month = month; day = day })
ymd_of _ _ _ _ = None

-- four digits, a dash, two digits, a dash and two digits, and nothing else
unfoldable pub ymd_in : List ℕ → Option Ymd
ymd_in s =
    if (length s == 10) && (is_dash_at s 4 && is_dash_at s 7)
    then ymd_of (two_digits_at s 0) (two_digits_at s 2) (two_digits_at s 5) (two_digits_at s 8) else None

abbrev pub unless_far : ℤ → Option ℤ
unless_far day = if is_day day then Some day else None

-- the day since 1970-01-01 of a date, if it is a day that an order may name
unfoldable pub day_of : Ymd → Option ℤ
day_of d = option_and_then unless_far (civil_day d.year d.month d.day)
