-- The ranges of dates on which Isha is later, and the minutes from Maghrib to Isha.
use Rattle.std.specs.Prelude.{ℤ, pos, int_le, nat_le, Bool, true, false, ◌&&◌, ◌||◌, if◌then◌else◌, List, [], ◌∷◌, length}
use Rattle.std.specs.List.{list_all, list_any}
use Rattle.method_table.specs.declared.method.Method.{Method}
use Rattle.method_table.specs.declared.method.Method.TheVariants.{Makkah}
use Rattle.order_rule.specs.Offsets.{is_day}

-- from the first day to the second, both included
abbrev pub is_range : ℤ × ℤ → Bool
is_range range = (is_day range.0 && is_day range.1) && int_le range.0 range.1

abbrev pub is_makkah : Method → Bool
is_makkah Makkah = true
is_makkah _ = false

abbrev pub is_empty : List (ℤ × ℤ) → Bool
is_empty [] = true
is_empty (range ∷ rest) = false

-- at most eight ranges, and none but for the one method whose Isha is so many minutes after Maghrib
abbrev pub may_be_late : Method → List (ℤ × ℤ) → Bool
may_be_late method late = (nat_le (length late) 8 && list_all is_range late) && (is_empty late || is_makkah method)

abbrev pub has_day : ℤ → ℤ × ℤ → Bool
has_day day range = int_le range.0 day && int_le day range.1

-- the minutes from Maghrib to Isha on a day
abbrev pub interval_on : List (ℤ × ℤ) → ℤ → ℤ
interval_on late day = if list_any (has_day day) late then pos 120 else pos 90
