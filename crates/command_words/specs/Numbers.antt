-- Whole numbers as words spell them: in decimal digits, without a sign and without a zero before them.
use Rattle.std.specs.Prelude.{ℕ, ◌^◌, nat_lt, ◌&&◌, if◌then◌else◌, List, bytes_eq, decimal, Option, Some, None}
use Rattle.std.specs.Str.Parse.{digits_value}

-- the number below 2^32 whose digits the word is
unfoldable pub number_in : List ℕ → Option ℕ
number_in word =
    if bytes_eq word (decimal (digits_value 10 word)) && nat_lt (digits_value 10 word) (2 ^ 32)
    then Some (digits_value 10 word) else None
