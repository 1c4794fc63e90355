-- Whole numbers as texts: a `-` or none, and then `0` alone or digits of which the first is not 0.
use Rattle.std.specs.Prelude.{ℕ, ◌==◌, if◌then◌else◌, List, slice_index, codes, bytes_eq, ℤ, pos, Option, Some, None, option_map}
use Rattle.digit_text.specs.Digits.{digits_in}
use Rattle.digit_text.specs.Sign.{is_negative, with_sign, without_sign}

-- the number that a text spells; none of more than 22 digits, which no place has
unfoldable pub whole_in : List ℕ → Option ℤ
whole_in text =
    if slice_index (without_sign text) 0 == 48 then (if bytes_eq text (codes "0") then Some (pos 0) else None)
    else option_map (with_sign (is_negative text)) (digits_in 22 (without_sign text))
