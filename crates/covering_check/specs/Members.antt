-- What the members of a line say. A rank is written as an ordinal, one more than the rank, so that 0 is none.
use Rattle.std.specs.Prelude.{ℕ, ◌+◌, ◌^◌, Bool, ◌&&◌, if◌then◌else◌, List, codes, ℤ, pos, neg_ℤ, unsigned_abs, int_le, Option, Some, None, is_some, option_map, option_and_then}
use Rattle.std.specs.Option.{is_none}
use Rattle.std.specs.Ordering.{int_eq}
use Rattle.cell_split.specs.declared.cell.Cell.{Cell}
use Rattle.serde_json.specs.Data.{Data}
use Rattle.serde_json.specs.Find.{get, at, as_str, as_array, as_number, as_i64}
use Rattle.covering_check.specs.Numerals.{whole_in}
use Rattle.covering_check.specs.declared.claim.Claim.{Claim}
use Rattle.covering_check.specs.declared.claim.Claim.TheVariants.{Nowhere, UpTo}
use Rattle.covering_check.specs.declared.claim.Numbers.{Numbers}

-- ---- single members and items

abbrev pub text_at : List ℕ → Data → Option (List ℕ)
text_at name d = option_and_then as_str (get name d)

abbrev pub number_of : Data → Option ℤ
number_of d = option_and_then as_i64 (as_number d)

abbrev pub number_at : ℕ → Data → Option ℤ
number_at i d = option_and_then number_of (at i d)

-- a number from 0 to `most`
abbrev pub natural_to : ℕ → ℤ → Option ℕ
natural_to most z = if int_le (pos 0) z && int_le z (pos most) then Some (unsigned_abs z) else None

abbrev pub natural_at : ℕ → ℕ → Data → Option ℕ
natural_at most i d = option_and_then (natural_to most) (number_at i d)

-- a number that a text spells
abbrev pub whole_at : ℕ → Data → Option ℤ
whole_at i d = option_and_then whole_in (option_and_then as_str (at i d))

-- ---- lists

abbrev pub is_empty : Data → Bool
is_empty d = is_some (as_array d) && is_none (at 0 d)

-- no item stands at this place or later
abbrev pub ends_before : ℕ → Data → Bool
ends_before n d = is_none (at n d)

-- a magnitude of at most this
abbrev pub is_within : ℤ → ℤ → Bool
is_within most z = int_le (neg_ℤ most) z && int_le z most

-- the numerators and the denominator are those of a point
abbrev pub is_point : Numbers → Bool
is_point p = (int_le (pos 1) p.d && int_le p.d (pos (2 ^ 30))) && (is_within (pos (2 ^ 70)) p.a && is_within (pos (2 ^ 70)) p.b)

abbrev pub if_point : Numbers → Option Numbers
if_point p = if is_point p then Some p else None

-- three texts that spell a place
unfoldable pub point_in : Data → Option Numbers
point_in d =
    if ends_before 3 d then
    option_and_then (λ a. option_and_then (λ b. option_and_then (λ c. if_point (record { a = a; b = b; d = c }))
    (whole_at 2 d)) (whole_at 1 d)) (whole_at 0 d)
    else None

-- five numbers that fit a cell
unfoldable pub cell_in : Data → Option Cell
cell_in d =
    if ends_before 5 d then
    option_and_then (λ x. option_and_then (λ y. option_and_then (λ size. option_and_then (λ first. option_map (λ last.
    record { x = x; y = y; size = size; first = first; last = last })
    (natural_at 4294967295 4 d)) (natural_at 4294967295 3 d)) (natural_at 255 2 d)) (number_at 1 d)) (number_at 0 d)
    else None

-- ---- what is said to be refuted

-- the rank, its cell and the place; none where the rank is -1 and both lists are empty
abbrev pub claim_of : ℤ → Data → Data → Option Claim
claim_of r refuted point =
    if int_eq r (neg_ℤ (pos 1)) then (if is_empty refuted && is_empty point then Some Nowhere else None)
    else option_and_then (λ rank. option_and_then (λ cell. option_map (UpTo rank cell) (point_in point)) (cell_in refuted)) (natural_to 720 r)

unfoldable pub claim_in : Data → Option Claim
claim_in d =
    option_and_then (λ r. option_and_then (λ refuted. option_and_then (claim_of r refuted) (get (codes "point") d))
    (get (codes "refuted") d)) (option_and_then number_of (get (codes "r") d))

-- the ordinal of the rank
abbrev pub ordinal_of_claim : Claim → ℕ
ordinal_of_claim Nowhere = 0
ordinal_of_claim (UpTo rank cell point) = rank + 1
