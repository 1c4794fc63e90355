-- Letters read from a text.
use Rattle.std.proofs.Common.{◌≡◌, inl, inr, ℕ, zero, suc, ◌+◌, ◌*◌, ◌-◌, ◌^◌, ◌<◌, ◌≤◌, Bool, true, false, cond, eqb, leb, List, [], ◌∷◌, length, drop, get_or, Option, Some, None, refl, sym, ap, ◌∙◌, arith}
use Rattle.std.specs.Prelude.{◌&&◌, not, nat_lt}
use Rattle.std.specs.Char.{digit_value, is_ascii_digit}
use native.Mathlib.Numerals.{unary_clauses}
use Rattle.std.proofs.lemmas.Bool.{false≢true, cases_lt}
use Rattle.std.proofs.lemmas.Bool.Decides.{nat_tests}
use Rattle.std.proofs.lemmas.List.{drop_all, drop_more}
use Rattle.std.proofs.lemmas.Str.{digit_value_digit}
use Rattle.plane_edges.proofs.Truth.{and_left, and_right}
use Rattle.covering.specs.Letters.{is_letter}
use Rattle.covering_check.specs.declared.fault.CoverFault.{CoverFault}
use Rattle.covering_check.specs.declared.fault.CoverFault.TheVariants.{Letter, Short}
use Rattle.covering_check.specs.declared.mark.Mark.{Mark}
use Rattle.covering_check.specs.Checks.{is_spent}
use Rattle.covering_check.specs.Left.{IsAtEnd}
use Rattle.covering_check.specs.Marks.{Marks, ends, goes_on, marks_from, with_mark, with_marks}
use Rattle.covering_check.specs.Visits.{fault_at}
use Rattle.digit_text.proofs.DigitLemmas.{is_below_most}

-- ---- one byte more

pub marks_end : (most digits count place : ℕ) → marks_from most digits count place [] ≡ ends (cond (eqb digits 0) None (Some Short))
unfolding marks_from
marks_end most digits count place = refl

pub marks_letter : (most digits count place byte : ℕ) (bytes : List ℕ) → is_letter byte ≡ true → marks_from most digits count place (byte ∷ bytes) ≡ with_marks (cond (eqb digits 0) 1 count) (record { letter = byte; place = place }) (marks_from most 0 0 (place + 1) bytes)
unfolding marks_from
marks_letter most digits count place byte bytes e = rw e refl

pub marks_digit : (most digits count place byte : ℕ) (bytes : List ℕ) → is_letter byte ≡ false → goes_on most digits byte ≡ true → marks_from most digits count place (byte ∷ bytes) ≡ marks_from most (digits + 1) (count * 10 + digit_value byte) (place + 1) bytes
unfolding marks_from
marks_digit most digits count place byte bytes e g = rw (e, g) refl

pub marks_bad : (most digits count place byte : ℕ) (bytes : List ℕ) → is_letter byte ≡ false → goes_on most digits byte ≡ false → marks_from most digits count place (byte ∷ bytes) ≡ ends (Some (Letter place))
unfolding marks_from
marks_bad most digits count place byte bytes e g = rw (e, g) refl

-- ---- digits that a count may go on with

pub is_digit : (most digits byte : ℕ) → goes_on most digits byte ≡ true → is_ascii_digit byte ≡ true
is_digit most digits byte g = and_left (is_ascii_digit byte) _ g

pub is_fewer : (most digits byte : ℕ) → goes_on most digits byte ≡ true → digits < most
is_fewer most digits byte g =
    let less : nat_lt digits most ≡ true = and_left (nat_lt digits most) _ (and_right (is_ascii_digit byte) _ g) in
    grind (arith, nat_tests)

pub is_small : (most digits byte count : ℕ) → goes_on most digits byte ≡ true → most ≤ 9 → count < 10 ^ digits → count < 100000000
is_small most digits byte count g nine below =
    let less = is_fewer most digits byte g in
    is_below_most count digits 8 below (omega arith)

digit_is : (byte : ℕ) → is_ascii_digit byte ≡ true → digit_value byte + 48 ≡ byte
digit_is byte e =
    let low : 48 ≤ byte = grind (arith, nat_tests) in
    let high : byte ≤ 57 = grind (arith, nat_tests) in
    digit_value_digit byte (low, high)

-- the value of a count isn't 0
pub is_some : (most digits byte count : ℕ) → goes_on most digits byte ≡ true → (0 < digits → 0 < count) → 0 < count * 10 + digit_value byte
is_some most digits byte count g some =
    let is = digit_is byte (is_digit most digits byte g) in
    let first = and_right (nat_lt digits most) _ (and_right (is_ascii_digit byte) _ g) in
    by digits count (eqb digits 0) (eqb byte 48) refl refl is first some
  where
    by : (digits count : ℕ) (none zero' : Bool) → eqb digits 0 ≡ none → eqb byte 48 ≡ zero' → digit_value byte + 48 ≡ byte → not (none && zero') ≡ true → (0 < digits → 0 < count) → 0 < count * 10 + digit_value byte
    by digits count true true e f is first some = absurd (false≢true first)
    by digits count true false e f is first some = let other : byte ≡ 48 → ⊥ = λ k. grind (arith, nat_tests) in let above : 48 < byte = grind (arith, nat_tests) in omega (arith, is)
    by digits count false z e f is first some = let above : 0 < digits = grind (arith, nat_tests) in let more = some above in omega (arith, more)

-- ---- a run

-- what is left, behind the digits so far, is read as all is from the start
abbrev pub IsRead : ℕ → List ℕ → ℕ → ℕ → ℕ → ℕ → Type 0
IsRead most text from at digits count = marks_from most digits count at (drop at text) ≡ marks_from most 0 0 from (drop from text)

at_byte : (most digits count at : ℕ) (text : List ℕ) → at < length text → marks_from most digits count at (drop at text) ≡ marks_from most digits count at (get_or text at 0 ∷ drop (at + 1) text)
at_byte most digits count at text inside = ap (marks_from most digits count at) (drop_more text at 0 inside)

run_here : (most : ℕ) (text : List ℕ) (from at digits count : ℕ) → at < length text → IsRead most text from at digits count → is_letter (get_or text at 0) ≡ true → marks_from most 0 0 from (drop from text) ≡ with_marks (cond (eqb digits 0) 1 count) (record { letter = get_or text at 0; place = at }) (marks_from most 0 0 (at + 1) (drop (at + 1) text))
run_here most text from at digits count inside read letter =
    sym read ∙ (at_byte most digits count at text inside ∙ marks_letter most digits count at (get_or text at 0) (drop (at + 1) text) letter)

-- a letter alone, and one behind a count
pub run_alone : (most : ℕ) (text : List ℕ) (from at digits count : ℕ) → at < length text → IsRead most text from at digits count → is_letter (get_or text at 0) ≡ true → digits ≡ 0 → marks_from most 0 0 from (drop from text) ≡ with_marks 1 (record { letter = get_or text at 0; place = at }) (marks_from most 0 0 (at + 1) (drop (at + 1) text))
run_alone most text from at digits count inside read letter none =
    run_here most text from at digits count inside read letter ∙ ap (λ (n : ℕ). with_marks (cond (eqb n 0) 1 count) (record { letter = get_or text at 0; place = at }) (marks_from most 0 0 (at + 1) (drop (at + 1) text))) none

pub run_counted : (most : ℕ) (text : List ℕ) (from at digits count : ℕ) → at < length text → IsRead most text from at digits count → is_letter (get_or text at 0) ≡ true → (digits ≡ 0 → ⊥) → marks_from most 0 0 from (drop from text) ≡ with_marks count (record { letter = get_or text at 0; place = at }) (marks_from most 0 0 (at + 1) (drop (at + 1) text))
run_counted most text from at digits count inside read letter some =
    let other : eqb digits 0 ≡ false = grind (arith, nat_tests) in
    run_here most text from at digits count inside read letter ∙ ap (λ (b : Bool). with_marks (cond b 1 count) (record { letter = get_or text at 0; place = at }) (marks_from most 0 0 (at + 1) (drop (at + 1) text))) other

at_end_of : (m : Marks) (end : Option CoverFault) (e : CoverFault) → m ≡ ends end → fault_at end ≡ e → IsAtEnd m e
at_end_of m end e is f = record { none = ap (λ (n : Marks). n.marks) is; fault = ap (λ (n : Marks). fault_at n.end) is ∙ f }

pub bad_here : (most : ℕ) (text : List ℕ) (from at digits count : ℕ) → at < length text → IsRead most text from at digits count → is_letter (get_or text at 0) ≡ false → goes_on most digits (get_or text at 0) ≡ false → IsAtEnd (marks_from most 0 0 from (drop from text)) (Letter at)
bad_here most text from at digits count inside read letter bad =
    at_end_of (marks_from most 0 0 from (drop from text)) (Some (Letter at)) (Letter at)
    (sym read ∙ (at_byte most digits count at text inside ∙ marks_bad most digits count at (get_or text at 0) (drop (at + 1) text) letter bad)) refl

short_or : (t : Bool) → fault_at (cond t None (Some Short)) ≡ Short
short_or true = refl
short_or false = refl

pub end_here : (most : ℕ) (text : List ℕ) (from at digits count : ℕ) → length text ≤ at → IsRead most text from at digits count → IsAtEnd (marks_from most 0 0 from (drop from text)) Short
end_here most text from at digits count past read =
    at_end_of (marks_from most 0 0 from (drop from text)) (cond (eqb digits 0) None (Some Short)) Short
    (sym read ∙ (ap (marks_from most digits count at) (drop_all at text past) ∙ marks_end most digits count at)) (short_or (eqb digits 0))

pub digit_here : (most : ℕ) (text : List ℕ) (from at digits count : ℕ) → at < length text → IsRead most text from at digits count → is_letter (get_or text at 0) ≡ false → goes_on most digits (get_or text at 0) ≡ true → IsRead most text from (at + 1) (digits + 1) (count * 10 + digit_value (get_or text at 0))
digit_here most text from at digits count inside read letter more =
    sym (marks_digit most digits count at (get_or text at 0) (drop (at + 1) text) letter more) ∙ (sym (at_byte most digits count at text inside) ∙ read)

pub next_bound : (value count digits : ℕ) → value < count * 10 + 10 → count < 10 ^ digits → value < 10 ^ (digits + 1)
next_bound value count digits below bound =
    let next : 10 ^ (digits + 1) ≡ 10 ^ digits * 10 = simp unary_clauses refl in
    omega (arith, next)

-- one letter of a run is taken
pub one_taken : (n : ℕ) (m : Mark) (rest : Marks) → 0 < n → with_marks n m rest ≡ with_mark m (with_marks (n - 1) m rest)
one_taken zero m rest h = absurd (omega arith)
one_taken (suc n) m rest h = ap (λ (k : ℕ). with_mark m (with_marks k m rest)) (omega arith)

pub first_taken : (n : ℕ) (m : Mark) (before rest : Marks) → 0 < n → before ≡ with_marks n m rest → before ≡ with_mark m (with_marks (n - 1) m rest)
first_taken n m before rest h e = e ∙ one_taken n m rest h

-- ---- what is spent

with_some : (n : ℕ) (m : Mark) (rest : Marks) → 0 < n → is_spent (with_marks n m rest) ≡ false
with_some zero m rest h = absurd (omega arith)
with_some (suc n) m rest h = refl

run_some : (digits count : ℕ) → (0 < digits → 0 < count) → 0 < cond (eqb digits 0) 1 count
run_some digits count some = by (eqb digits 0) refl
  where
    by : (t : Bool) → eqb digits 0 ≡ t → 0 < cond t 1 count
    by true e = omega arith
    by false e = some (grind (arith, nat_tests))

not_spent_by : (most digits count place byte : ℕ) (bytes : List ℕ) → (0 < digits → 0 < count) → ((0 < digits + 1 → 0 < count * 10 + digit_value byte) → is_spent (marks_from most (digits + 1) (count * 10 + digit_value byte) (place + 1) bytes) ≡ false) → (l g : Bool) → is_letter byte ≡ l → goes_on most digits byte ≡ g → is_spent (marks_from most digits count place (byte ∷ bytes)) ≡ false
not_spent_by most digits count place byte bytes some rest true g e f =
    ap is_spent (marks_letter most digits count place byte bytes e) ∙ with_some (cond (eqb digits 0) 1 count) _ _ (run_some digits count some)
not_spent_by most digits count place byte bytes some rest false false e f =
    ap is_spent (marks_bad most digits count place byte bytes e f)
not_spent_by most digits count place byte bytes some rest false true e f =
    ap is_spent (marks_digit most digits count place byte bytes e f) ∙ rest (λ h. is_some most digits byte count f some)

cut_not_spent : (most digits count place : ℕ) → is_spent (marks_from most (digits + 1) count place []) ≡ false
cut_not_spent most digits count place =
    let more : eqb (digits + 1) 0 ≡ false = grind (arith, nat_tests) in
    ap is_spent (marks_end most (digits + 1) count place) ∙ rw more refl

pub not_spent : (most digits count place byte : ℕ) (bytes : List ℕ) → (0 < digits → 0 < count) → is_spent (marks_from most digits count place (byte ∷ bytes)) ≡ false
not_spent most digits count place byte [] some =
    not_spent_by most digits count place byte [] some (λ h. cut_not_spent most digits (count * 10 + digit_value byte) (place + 1)) (is_letter byte) (goes_on most digits byte) refl refl
not_spent most digits count place byte (next ∷ bytes) some =
    not_spent_by most digits count place byte (next ∷ bytes) some (λ h. not_spent most (digits + 1) (count * 10 + digit_value byte) (place + 1) next bytes h) (is_letter byte) (goes_on most digits byte) refl refl

-- nothing is left exactly at the text's end
pub spent_at : (most at : ℕ) (text : List ℕ) → leb (length text) at ≡ is_spent (marks_from most 0 0 at (drop at text))
spent_at most at text =
    elim (cases_lt at (length text)) [
      | inl before ↦
          let not_end : leb (length text) at ≡ false = grind (arith, nat_tests) in
          not_end ∙ (sym (not_spent most 0 0 at (get_or text at 0) (drop (at + 1) text) (λ h. absurd (omega arith))) ∙ ap (λ (bs : List ℕ). is_spent (marks_from most 0 0 at bs)) (sym (drop_more text at 0 before)))
      | inr past ↦
          let end : leb (length text) at ≡ true = grind (arith, nat_tests) in
          end ∙ (ap is_spent (sym (marks_end most 0 0 at)) ∙ ap (λ (bs : List ℕ). is_spent (marks_from most 0 0 at bs)) (sym (drop_all at text past)))
    ]
