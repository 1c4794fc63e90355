-- Numbers as words spell them and as lines print them. A decimal has six places and stands for a whole number of
-- millionths, as a coordinate in microdegrees.
use Rattle.std.specs.Prelude.{ℕ, ◌+◌, ◌-◌, ◌*◌, ◌/◌, ◌%◌, ◌^◌, Bool, ◌==◌, nat_le, if◌then◌else◌, List, [], ◌++◌, length, codes, decimal, ℤ, pos, int_lt, unsigned_abs, Option, Some, None, option_map}
use Rattle.std.specs.List.{position_or_len, before_first, after_first}
use Rattle.digit_text.specs.Digits.{digits_in}

-- ---- as words spell them

-- one to six digits behind a point, in millionths
unfoldable pub places_in : List ℕ → Option ℕ
places_in word = option_map (λ n. n * 10 ^ (6 - length word)) (digits_in 6 word)

-- the whole part and the part behind the point, where both are there
abbrev pub decimal_of : Option ℕ → Option ℕ → Option ℕ
decimal_of (Some whole) (Some places) = Some (whole * 1_000_000 + places)
decimal_of (Some whole) None = None
decimal_of None places = None

abbrev pub is_point : ℕ → Bool
is_point byte = byte == 46

-- one to three digits, and then it may be a point and one to six digits, in millionths
unfoldable pub millionths_in : List ℕ → Option ℕ
millionths_in word =
    if position_or_len is_point word == length word then decimal_of (digits_in 3 word) (Some 0)
    else decimal_of (digits_in 3 (before_first is_point word)) (places_in (after_first is_point word))

-- a number that is at most this
abbrev pub at_most : ℕ → Option ℕ → Option ℕ
at_most most None = None
at_most most (Some n) = if nat_le n most then Some n else None

-- ---- as lines print them

abbrev pub sign_text : ℤ → List ℕ
sign_text z = if int_lt z (pos 0) then codes "-" else []

-- six digits
unfoldable pub places_text : ℕ → List ℕ
places_text n =
    decimal (n / 100_000) ++ (decimal (n / 10_000 % 10) ++ (decimal (n / 1_000 % 10) ++
    (decimal (n / 100 % 10) ++ (decimal (n / 10 % 10) ++ decimal (n % 10)))))

-- a sign where it is below zero, the whole part, a point and six digits
unfoldable pub decimal_text : ℤ → List ℕ
decimal_text z =
    sign_text z ++ (decimal (unsigned_abs z / 1_000_000) ++ (codes "." ++ places_text (unsigned_abs z % 1_000_000)))
