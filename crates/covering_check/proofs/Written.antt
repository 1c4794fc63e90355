-- Numbers and letters as a written line spells them are read again.
use Rattle.std.proofs.Common.{◌≡◌, ◌⊎◌, inl, inr, ℕ, zero, suc, ◌+◌, ◌/◌, ◌%◌, ◌^◌, ◌<◌, ◌≤◌, Bool, true, false, cond, eqb, List, [], ◌∷◌, ◌++◌, length, get_or, map, Some, None, ℤ, pos, negsuc, neg_ℤ, ◌≤ℤ◌, decimal, refl, sym, ap, ◌∙◌, subst, arith}
use Rattle.std.specs.Prelude.{codes, nat_lt, nat_le, bytes_eq}
use Rattle.std.specs.Char.{is_ascii_digit}
use Rattle.std.specs.Fmt.{signed_decimal}
use Rattle.std.specs.List.{list_all}
use Rattle.std.specs.Option.{option_map}
use Rattle.std.proofs.lemmas.Bool.Decides.{nat_tests}
use Rattle.std.proofs.lemmas.Fmt.{decimal_by_steps_wide, decimal_digit, decimal_is_IsNumeral_wide, length-decimal-le_wide}
use Rattle.std.proofs.lemmas.Int.{ints}
use Rattle.std.proofs.lemmas.List.{get_or_append_left}
use Rattle.std.proofs.lemmas.List.Folds.{list_all-append}
use Rattle.std.proofs.lemmas.Slice.Eq.{bytes_eq-Decides}
use Rattle.plane_edges.proofs.Truth.{and_left, and_right, and_true}
use Rattle.covering.specs.Letters.{is_letter}
use Rattle.covering_check.specs.Marks.{Marks, marks_from}
use Rattle.covering_check.specs.Numerals.{whole_in}
use Rattle.digit_text.specs.Digits.{digits_in}
use Rattle.digit_text.specs.Sign.{with_sign}
use Rattle.covering_check.proofs.Reading.{marks_end, marks_letter}

-- ---- decimals

record IsWritten (m : ℕ) (ds : List ℕ) : Type 0 where
  digits : list_all is_ascii_digit ds ≡ true
  some : 0 < length ds
  first : ((m ≡ 0) × (ds ≡ 48 ∷ [])) ⊎ (48 < get_or ds 0 0)

digit_true : (d : ℕ) → 48 ≤ d → d ≤ 57 → is_ascii_digit d ≡ true
digit_true d low high = grind (arith, nat_tests)

written_digit : (m : ℕ) → m < 10 → IsWritten m ((48 + m) ∷ [])
written_digit zero h = record { digits = refl; some = omega arith; first = inl (refl, refl) }
written_digit (suc m) h = record { digits = and_true (is_ascii_digit (48 + suc m)) true (digit_true (48 + suc m) (omega arith) (omega arith)) refl; some = omega arith; first = inr (omega arith) }

written_more : (m : ℕ) (ds : List ℕ) → 10 ≤ m → IsWritten (m / 10) ds → IsWritten m (ds ++ ((48 + m % 10) ∷ []))
written_more m ds h w = record {
  digits = list_all-append is_ascii_digit ds ((48 + m % 10) ∷ []) ∙ and_true (list_all is_ascii_digit ds) (list_all is_ascii_digit ((48 + m % 10) ∷ [])) w.digits (and_true (is_ascii_digit (48 + m % 10)) true (digit_true (48 + m % 10) (omega arith) (omega arith)) refl);
  some = longer ds w.some;
  first = inr (subst (λ (d : ℕ). 48 < d) (sym (get_or_append_left ds ((48 + m % 10) ∷ []) 0 0 w.some)) (elim w.first [ inl none ↦ let zero' = none.0 in absurd (omega arith) | inr later ↦ later ]));
}
  where
    longer : (xs : List ℕ) → 0 < length xs → 0 < length (xs ++ ((48 + m % 10) ∷ []))
    longer [] k = absurd (omega arith)
    longer (x ∷ xs) k = omega arith

written : (n : ℕ) → n < 10 ^ 64 → IsWritten n (decimal n)
written n h = decimal_by_steps_wide IsWritten (λ m l. written_digit m l) (λ m ds l k. written_more m ds l k) n h

digits_again : (n : ℕ) → n < 10 ^ 22 → digits_in 22 (decimal n) ≡ Some n
unfolding digits_in
digits_again n h =
    let w = written n (omega arith) in
    let some : nat_lt 0 (length (decimal n)) ≡ true = let k = w.some in grind (arith, nat_tests) in
    let few : nat_le (length (decimal n)) 22 ≡ true = let k = length-decimal-le_wide 22 n (omega arith) h (omega arith) in grind (arith, nat_tests) in
    rw (some, few, w.digits) (ap (λ (m : ℕ). Some m) (decimal_is_IsNumeral_wide n (omega arith)).1)

-- the first byte is a digit
not_minus : (n : ℕ) → n < 10 ^ 64 → eqb (get_or (decimal n) 0 0) 45 ≡ false
not_minus n h = elim (written n h).first [
  | inl none ↦ ap (λ (ds : List ℕ). eqb (get_or ds 0 0) 45) none.1
  | inr later ↦ grind (arith, nat_tests)
]

-- a number of at most 22 digits behind its sign
read_behind : (negative : Bool) (text : List ℕ) (n : ℕ) → n < 10 ^ 22 → (n ≡ 0 → text ≡ codes "0") → (n ≡ 0 → with_sign negative 0 ≡ pos 0) → cond (eqb (get_or (decimal n) 0 0) 48) (cond (bytes_eq text (codes "0")) (Some (pos 0)) None) (option_map (with_sign negative) (digits_in 22 (decimal n))) ≡ Some (with_sign negative n)
read_behind negative text n h zero' sign = elim (written n (omega arith)).first [
  | inl none ↦
      let first : eqb (get_or (decimal n) 0 0) 48 ≡ true = ap (λ (ds : List ℕ). eqb (get_or ds 0 0) 48) none.1 in
      let same : bytes_eq text (codes "0") ≡ true = (bytes_eq-Decides text (codes "0")).1 (zero' none.0) in
      rw (first, same) (ap (λ z. Some z) (sym (sign none.0) ∙ ap (with_sign negative) (sym none.0)))
  | inr later ↦
      let first : eqb (get_or (decimal n) 0 0) 48 ≡ false = grind (arith, nat_tests) in
      rw first (ap (option_map (with_sign negative)) (digits_again n h))
]

zero_text : (n : ℕ) → n ≡ 0 → decimal n ≡ codes "0"
zero_text n e = decimal_digit n (omega (arith, e)) ∙ ap (λ (m : ℕ). (48 + m) ∷ []) e

pub whole_again : (z : ℤ) → neg_ℤ (pos (2 ^ 70)) ≤ℤ z → z ≤ℤ pos (2 ^ 70) → whole_in (signed_decimal z) ≡ Some z
unfolding whole_in
whole_again (pos n) low high =
    let small : n < 10 ^ 22 = omega (arith, ints) in
    rw (not_minus n (omega arith)) (read_behind false (decimal n) n small (λ e. zero_text n e) (λ e. refl))
whole_again (negsuc m) low high =
    let small : suc m < 10 ^ 22 = omega (arith, ints) in
    read_behind true (45 ∷ decimal (suc m)) (suc m) small (λ e. absurd (omega arith)) (λ e. absurd (omega arith))

-- ---- letters one by one

pub tree_again : (letters : List ℕ) (place : ℕ) → list_all is_letter letters ≡ true → (map (λ m. m.letter) (marks_from 0 0 0 place letters).marks ≡ letters) × ((marks_from 0 0 0 place letters).end ≡ None)
tree_again [] place h =
    let e = marks_end 0 0 0 place in
    (ap (λ (m : Marks). map (λ x. x.letter) m.marks) e, ap (λ (m : Marks). m.end) e)
tree_again (b ∷ bs) place h =
    let is = and_left (is_letter b) (list_all is_letter bs) h in
    let rest = tree_again bs (place + 1) (and_right (is_letter b) (list_all is_letter bs) h) in
    let e = marks_letter 0 0 0 place b bs is in
    (ap (λ (m : Marks). map (λ x. x.letter) m.marks) e ∙ ap (λ ls. b ∷ ls) rest.0, ap (λ (m : Marks). m.end) e ∙ rest.1)
