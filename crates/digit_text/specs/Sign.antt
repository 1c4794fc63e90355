-- A sign before a text: a `-`, or none.
use Rattle.std.specs.Prelude.{ℕ, Bool, true, false, ◌==◌, if◌then◌else◌, List, drop, slice_index, ℤ, pos, neg_ℤ}

abbrev pub is_negative : List ℕ → Bool
is_negative text = slice_index text 0 == 45

-- a text behind its sign, if it has one
abbrev pub without_sign : List ℕ → List ℕ
without_sign text = if is_negative text then drop 1 text else text

abbrev pub with_sign : Bool → ℕ → ℤ
with_sign true n = neg_ℤ (pos n)
with_sign false n = pos n
