-- Letters in runs are read again, one by one.
use Rattle.std.proofs.Common.{◌≡◌, ℕ, zero, suc, ◌+◌, ◌*◌, ◌/◌, ◌%◌, ◌^◌, ◌<◌, ◌≤◌, Bool, true, false, cond, eqb, List, [], ◌∷◌, ◌++◌, append_assoc, length, map, None, inl, inr, decimal, refl, sym, ap, ◌∙◌, subst, arith}
use Rattle.std.specs.Prelude.{◌&&◌, not, nat_lt}
use Rattle.std.specs.Char.{is_ascii_digit}
use Rattle.std.specs.List.{flat_map}
use native.Mathlib.Numerals.{unary_clauses}
use Rattle.std.proofs.lemmas.Bool.{cases_lt}
use Rattle.std.proofs.lemmas.Bool.Decides.{nat_tests}
use Rattle.std.proofs.lemmas.Fmt.{decimal_digit, decimal_step}
use Rattle.std.proofs.lemmas.List.{length-append}
use Rattle.std.proofs.lemmas.Str.{digit_value_digit}
use Rattle.plane_edges.proofs.Truth.{and_true}
use Rattle.cell_split.proofs.Every.{Every}
use Rattle.covering.specs.Letters.{is_letter}
use Rattle.covering.specs.Runs.{run_text, runs_in, with_run}
use Rattle.covering_check.specs.Marks.{Marks, goes_on, marks_from, with_marks}
use Rattle.digit_text.proofs.DigitLemmas.{is_below_most}
use Rattle.covering_check.proofs.Reading.{marks_digit, marks_end, marks_letter}

-- ---- counts

no_letter : (d : ℕ) → d < 10 → is_letter (48 + d) ≡ false
no_letter d h = grind (arith, nat_tests)

is_digit : (d : ℕ) → d < 10 → is_ascii_digit (48 + d) ≡ true
is_digit d h = grind (arith, nat_tests)

is_first : (digits d : ℕ) → (digits ≡ 0 → 0 < d) → not ((eqb digits 0) && (eqb (48 + d) 48)) ≡ true
is_first zero zero h = let k = h refl in absurd (omega arith)
is_first zero (suc d) h = grind (arith, nat_tests)
is_first (suc digits) d h = grind (arith, nat_tests)

-- a digit more of a count
digit_read : (digits count d place : ℕ) (tail : List ℕ) → d < 10 → digits < 9 → (digits ≡ 0 → 0 < d) → marks_from 9 digits count place ((48 + d) ∷ tail) ≡ marks_from 9 (digits + 1) (count * 10 + d) (place + 1) tail
digit_read digits count d place tail small few first =
    let fewer : nat_lt digits 9 ≡ true = grind (arith, nat_tests) in
    let goes : goes_on 9 digits (48 + d) ≡ true = and_true (is_ascii_digit (48 + d)) (nat_lt digits 9 && not ((eqb digits 0) && (eqb (48 + d) 48))) (is_digit d small) (and_true (nat_lt digits 9) (not ((eqb digits 0) && (eqb (48 + d) 48))) fewer (is_first digits d first)) in
    let value = digit_value_digit (48 + d) (omega arith, omega arith) in
    marks_digit 9 digits count place (48 + d) tail (no_letter d small) goes
    ∙ ap (λ (n : ℕ). marks_from 9 (digits + 1) n (place + 1) tail) (omega (arith, value))

-- the digits of a number are read as its count
abbrev IsCount : ℕ → List ℕ → Type 0
IsCount n ds = (0 < length ds) × ((place : ℕ) (tail : List ℕ) → marks_from 9 0 0 place (ds ++ tail) ≡ marks_from 9 (length ds) n (place + length ds) tail)

count_digit : (n : ℕ) → 0 < n → n < 10 → IsCount n ((48 + n) ∷ [])
count_digit n some small = (omega arith, λ place tail. digit_read 0 0 n place tail small (omega arith) (λ e. some) ∙ ap (λ (m : ℕ). marks_from 9 1 m (place + 1) tail) (omega arith))

count_more : (n : ℕ) (ds : List ℕ) → length ds < 9 → IsCount (n / 10) ds → IsCount n (ds ++ ((48 + n % 10) ∷ []))
count_more n ds few h =
    let long : length (ds ++ ((48 + n % 10) ∷ [])) ≡ length ds + 1 = length-append ds ((48 + n % 10) ∷ []) in (
      omega (arith, long),
      λ place tail.
          ap (marks_from 9 0 0 place) (append_assoc ds ((48 + n % 10) ∷ []) tail)
          ∙ (h.1 place ((48 + n % 10) ∷ tail)
          ∙ (digit_read (length ds) (n / 10) (n % 10) (place + length ds) tail (omega arith) few (λ e. let some = h.0 in absurd (omega (arith, e)))
          ∙ (ap (λ (m : ℕ). marks_from 9 (length ds + 1) m (place + length ds + 1) tail) (omega arith)
          ∙ (ap (λ (m : ℕ). marks_from 9 (length ds + 1) n m tail) (omega (arith, long))
          ∙ ap (λ (m : ℕ). marks_from 9 m n (place + length (ds ++ ((48 + n % 10) ∷ []))) tail) (sym long))))),
    )

pow_bound : (k n : ℕ) → n < 10 ^ k → k ≤ 9 → n < 2 ^ 64
pow_bound k n below few = let h = is_below_most n k 9 below few in omega arith

count_read : (k n : ℕ) → n < 10 ^ k → k ≤ 9 → 0 < n → (length (decimal n) ≤ k) × IsCount n (decimal n)
count_read zero n below few some = absurd (omega arith)
count_read (suc k) n below few some = elim (cases_lt n 10) [
  | inl small ↦
      let is = decimal_digit n small in
      subst (λ (ds : List ℕ). (length ds ≤ suc k) × IsCount n ds) (sym is) (omega arith, count_digit n some small)
  | inr large ↦
      let next : 10 ^ (k + 1) ≡ 10 ^ k * 10 = simp unary_clauses refl in
      let front = count_read k (n / 10) (omega (arith, next)) (omega arith) (omega arith) in
      let is = decimal_step n large (pow_bound (suc k) n below few) in
      let long : length (decimal (n / 10) ++ ((48 + n % 10) ∷ [])) ≡ length (decimal (n / 10)) + 1 = length-append (decimal (n / 10)) ((48 + n % 10) ∷ []) in
      subst (λ (ds : List ℕ). (length ds ≤ suc k) × IsCount n ds) (sym is) (omega (arith, long, front.0), count_more n (decimal (n / 10)) (omega (arith, front.0)) front.1)
]

-- ---- runs

-- a count of one to nine digits, and a letter
abbrev pub IsRun : ℕ × ℕ → Type 0
IsRun run = (0 < run.0) × (run.0 < 10 ^ 9) × (is_letter run.1 ≡ true)

run_read : (n letter place : ℕ) (tail : List ℕ) → IsRun (n, letter) → (at : ℕ) × (marks_from 9 0 0 place (run_text (n, letter) ++ tail) ≡ with_marks n (record { letter = letter; place = at }) (marks_from 9 0 0 (at + 1) tail))
run_read n letter place tail h = by (eqb n 1) refl
  where
    by : (t : Bool) → eqb n 1 ≡ t → (at : ℕ) × (marks_from 9 0 0 place ((cond t [] (decimal n) ++ letter ∷ []) ++ tail) ≡ with_marks n (record { letter = letter; place = at }) (marks_from 9 0 0 (at + 1) tail))
    by true e =
        let one : 1 ≡ n = grind (arith, nat_tests) in
        (place, marks_letter 9 0 0 place letter tail h.2 ∙ ap (λ (m : ℕ). with_marks m (record { letter = letter; place = place }) (marks_from 9 0 0 (place + 1) tail)) one)
    by false e =
        let count = (count_read 9 n h.1 (omega arith) h.0).1 in
        let ds = decimal n in
        let at = place + length ds in
        let counted : eqb (length ds) 0 ≡ false = let some = count.0 in grind (arith, nat_tests) in (
          at,
          ap (marks_from 9 0 0 place) (append_assoc ds (letter ∷ []) tail)
              ∙ (count.1 place (letter ∷ tail)
              ∙ (marks_letter 9 (length ds) n at letter tail h.2
              ∙ ap (λ (b : Bool). with_marks (cond b 1 n) (record { letter = letter; place = at }) (marks_from 9 0 0 (at + 1) tail)) counted)),
        )

-- so many equal letters first
abbrev many : ℕ → ℕ → List ℕ → List ℕ
many zero b bs = bs
many (suc n) b bs = b ∷ many n b bs

abbrev expanded : List (ℕ × ℕ) → List ℕ
expanded [] = []
expanded (run ∷ runs) = many run.0 run.1 (expanded runs)

many_both : (n m b : ℕ) (bs : List ℕ) → many (n + m) b bs ≡ many n b (many m b bs)
many_both zero m b bs = ap (λ (k : ℕ). many k b bs) (omega arith)
many_both (suc n) m b bs =
    let next : suc n + m ≡ suc (n + m) = omega arith in
    ap (λ (k : ℕ). many k b bs) next ∙ ap (λ (ls : List ℕ). b ∷ ls) (many_both n m b bs)

expanded_with : (n b : ℕ) (runs : List (ℕ × ℕ)) → expanded (with_run n b runs) ≡ many n b (expanded runs)
expanded_with n b [] = refl
expanded_with n b (run ∷ runs) = by (eqb b run.1) refl
  where
    by : (t : Bool) → eqb b run.1 ≡ t → expanded (cond t ((n + run.0, b) ∷ runs) ((n, b) ∷ run ∷ runs)) ≡ many n b (many run.0 run.1 (expanded runs))
    by true e =
        let same : b ≡ run.1 = grind (arith, nat_tests) in
        many_both n run.0 b (expanded runs) ∙ ap (λ (c : ℕ). many n b (many run.0 c (expanded runs))) same
    by false e = refl

expanded_all : (letters : List ℕ) → expanded (runs_in letters) ≡ letters
expanded_all [] = refl
expanded_all (b ∷ bs) = expanded_with 1 b (runs_in bs) ∙ ap (λ (ls : List ℕ). b ∷ ls) (expanded_all bs)

letters_many : (n : ℕ) (m : _) (rest : Marks) → (map (λ x. x.letter) (with_marks n m rest).marks ≡ many n m.letter (map (λ x. x.letter) rest.marks)) × ((with_marks n m rest).end ≡ rest.end)
letters_many zero m rest = (refl, refl)
letters_many (suc n) m rest = let h = letters_many n m rest in (ap (λ (ls : List ℕ). m.letter ∷ ls) h.0, h.1)

-- the marks are these letters, and nothing behind them
abbrev pub Spell : Marks → List ℕ → Type 0
Spell m letters = (map (λ x. x.letter) m.marks ≡ letters) × (m.end ≡ None)

spell_runs : (runs : List (ℕ × ℕ)) (place : ℕ) → Every IsRun runs → Spell (marks_from 9 0 0 place (flat_map run_text runs)) (expanded runs)
spell_runs [] place h =
    let e = marks_end 9 0 0 place in
    (ap (λ (m : Marks). map (λ x. x.letter) m.marks) e, ap (λ (m : Marks). m.end) e)
spell_runs ((n, b) ∷ runs) place h =
    let first = run_read n b place (flat_map run_text runs) h.0 in
    let rest = spell_runs runs (first.0 + 1) h.1 in
    let marks = letters_many n (record { letter = b; place = first.0 }) (marks_from 9 0 0 (first.0 + 1) (flat_map run_text runs)) in
    (ap (λ (m : Marks). map (λ x. x.letter) m.marks) first.1 ∙ (marks.0 ∙ ap (many n b) rest.0), ap (λ (m : Marks). m.end) first.1 ∙ (marks.1 ∙ rest.1))

-- the letters of runs whose counts have at most nine digits
pub runs_again : (letters : List ℕ) → Every IsRun (runs_in letters) → Spell (marks_from 9 0 0 0 (flat_map run_text (runs_in letters))) letters
runs_again letters h =
    let all' = spell_runs (runs_in letters) 0 h in
    (all'.0 ∙ expanded_all letters, all'.1)
