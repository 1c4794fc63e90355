-- The number that digits spell.
use Rattle.std.specs.Prelude.{ℕ, ◌&&◌, nat_lt, nat_le, if◌then◌else◌, List, length, Option, Some, None}
use Rattle.std.specs.Char.{is_ascii_digit}
use Rattle.std.specs.List.{list_all}
use Rattle.std.specs.Str.Parse.{digits_value}

-- one to `most` digits
unfoldable pub digits_in : ℕ → List ℕ → Option ℕ
digits_in most text =
    if nat_lt 0 (length text) && (nat_le (length text) most && list_all is_ascii_digit text)
    then Some (digits_value 10 text) else None
