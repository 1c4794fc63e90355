-- Runs of letters, written one after another.
use Rattle.std.proofs.Common.{◌≡◌, ℕ, zero, suc, ◌+◌, ◌<◌, ◌≤◌, Bool, true, false, cond, eqb, List, [], ◌∷◌, ◌++◌, append-nil, append_assoc, get_or, length, drop, Some, refl, sym, ap, ◌∙◌, subst, arith, IsUtf8}
use Rattle.std.specs.Prelude.{nat_lt, ◌&&◌}
use Rattle.std.specs.List.{flat_map, list_all, slice_get}
use Rattle.std.proofs.lemmas.Bool.{false≢true}
use Rattle.std.proofs.lemmas.List.{drop_more, drop_all}
use Rattle.std.proofs.lemmas.Bool.Decides.{nat_tests}
use Rattle.json.proofs.Printed.Utf8.{IsUtf8-are_ascii, are_ascii}
use Rattle.covering.specs.Letters.{is_letter}
use Rattle.covering.specs.Runs.{run_text, runs_in, runs_text, with_run}

-- a letter is in ASCII
letter_small : (b : ℕ) → is_letter b ≡ true → nat_lt b 128 ≡ true
letter_small b e = grind (arith, nat_tests)

and_parts : (a b : Bool) → (a && b) ≡ true → (a ≡ true) × (b ≡ true)
and_parts true b h = (refl, h)
and_parts false b h = absurd (false≢true h)

and_true : (a b : Bool) → a ≡ true → b ≡ true → (a && b) ≡ true
and_true true b e k = k
and_true false b e k = e

letters_ascii : (bs : List ℕ) → list_all is_letter bs ≡ true → are_ascii bs ≡ true
letters_ascii [] h = refl
letters_ascii (b ∷ bs) h =
    let parts = and_parts (is_letter b) (list_all is_letter bs) h in
    and_true (nat_lt b 128) (are_ascii bs) (letter_small b parts.0) (letters_ascii bs parts.1)

-- letters are a text
pub letters_utf8 : (bs : List ℕ) → list_all is_letter bs ≡ true → IsUtf8 bs
letters_utf8 bs h = IsUtf8-are_ascii bs (letters_ascii bs h)

pub letter_at : (bs : List ℕ) (i b : ℕ) → list_all is_letter bs ≡ true → slice_get bs i ≡ Some b → b < 128
letter_at [] i b h e = absurd (cc)
letter_at (x ∷ xs) zero b h e = let parts = and_parts (is_letter x) (list_all is_letter xs) h in let same : x ≡ b = cc in let small = letter_small x parts.0 in grind (arith, nat_tests)
letter_at (x ∷ xs) (suc i) b h e = let parts = and_parts (is_letter x) (list_all is_letter xs) h in letter_at xs i b parts.1 e

letter_in : (bs : List ℕ) (i d : ℕ) → list_all is_letter bs ≡ true → i < length bs → get_or bs i d < 128
letter_in [] i d h inside = absurd (omega arith)
letter_in (x ∷ xs) zero d h inside = let parts = and_parts (is_letter x) (list_all is_letter xs) h in let small = letter_small x parts.0 in grind (arith, nat_tests)
letter_in (x ∷ xs) (suc i) d h inside = letter_in xs i d (and_parts (is_letter x) (list_all is_letter xs) h).1 (omega arith)

drop_letters : (bs : List ℕ) → list_all is_letter bs ≡ true → list_all is_letter (drop 1 bs) ≡ true
drop_letters [] h = refl
drop_letters (x ∷ xs) h = (and_parts (is_letter x) (list_all is_letter xs) h).1

-- so is each later one
pub letter_after : (bs items : List ℕ) (i d : ℕ) → list_all is_letter bs ≡ true → items ≡ drop 1 bs → i < length items → get_or items i d < 128
letter_after bs items i d h same inside =
    letter_in items i d (subst (λ ls. list_all is_letter ls ≡ true) (sym same) (drop_letters bs h)) inside

-- the first letter begins a run
pub runs_begin : (bs : List ℕ) (b : ℕ) → slice_get bs 0 ≡ Some b → runs_text bs ≡ flat_map run_text (with_run 1 b (runs_in (drop 1 bs)))
runs_begin [] b e = absurd (cc)
runs_begin (x ∷ xs) b e = let same : x ≡ b = cc in ap (λ (c : ℕ). flat_map run_text (with_run 1 c (runs_in xs))) same

same_is : (a b : ℕ) → a ≡ b → eqb a b ≡ true
same_is a b h = grind (arith, nat_tests)

other_is : (a b : ℕ) → (a ≡ b → ⊥) → eqb a b ≡ false
other_is a b h = grind (arith, nat_tests)

-- one letter more of a run
run_more : (n b : ℕ) (runs : List (ℕ × ℕ)) → with_run n b (with_run 1 b runs) ≡ with_run (n + 1) b runs
run_more n b [] = rw (same_is b b refl) refl
run_more n b (run ∷ runs) = step (eqb b run.1) refl
  where
    step : (t : Bool) → eqb b run.1 ≡ t → with_run n b (cond t ((1 + run.0, b) ∷ runs) ((1, b) ∷ run ∷ runs)) ≡ cond t ((n + 1 + run.0, b) ∷ runs) ((n + 1, b) ∷ run ∷ runs)
    step true e = rw (same_is b b refl) (ap (λ (m : ℕ). (m, b) ∷ runs) (omega arith))
    step false e = rw (same_is b b refl) refl

-- a run ends where another letter comes
run_ends : (n b c : ℕ) (runs : List (ℕ × ℕ)) → (c ≡ b → ⊥) → with_run n b (with_run 1 c runs) ≡ (n, b) ∷ with_run 1 c runs
run_ends n b c [] other = rw (other_is b c (λ e. other (sym e))) refl
run_ends n b c (run ∷ runs) other = step (eqb c run.1)
  where
    step : (t : Bool) → with_run n b (cond t ((1 + run.0, c) ∷ runs) ((1, c) ∷ run ∷ runs)) ≡ (n, b) ∷ cond t ((1 + run.0, c) ∷ runs) ((1, c) ∷ run ∷ runs)
    step true = rw (other_is b c (λ e. other (sym e))) refl
    step false = rw (other_is b c (λ e. other (sym e))) refl

-- what is written of these letters where a run is in use
abbrev pub AreInRuns : List ℕ → List ℕ → ℕ → ℕ → List ℕ → Type 0
AreInRuns letters text n b rest = text ++ flat_map run_text (with_run n b (runs_in rest)) ≡ runs_text letters

pub one_more : (letters text rest : List ℕ) (n b d i : ℕ) → i < length rest → get_or rest i d ≡ b → AreInRuns letters text n b (drop i rest) → AreInRuns letters text (n + 1) b (drop (i + 1) rest)
one_more letters text rest n b d i inside same h =
    ap (λ (rs : List (ℕ × ℕ)). text ++ flat_map run_text rs) (sym (run_more n b (runs_in (drop (i + 1) rest))) ∙ (ap (λ (c : ℕ). with_run n b (with_run 1 c (runs_in (drop (i + 1) rest)))) (sym same) ∙ ap (λ (ls : List ℕ). with_run n b (runs_in ls)) (sym (drop_more rest i d inside)))) ∙ h

pub next_run : (letters text after rest : List ℕ) (n b c d i : ℕ) → i < length rest → get_or rest i d ≡ c → (c ≡ b → ⊥) → after ≡ text ++ run_text (n, b) → AreInRuns letters text n b (drop i rest) → AreInRuns letters after 1 c (drop (i + 1) rest)
next_run letters text after rest n b c d i inside here other written h =
    let runs = with_run 1 c (runs_in (drop (i + 1) rest)) in
    ap (λ (t : List ℕ). t ++ flat_map run_text runs) written ∙ (append_assoc text (run_text (n, b)) (flat_map run_text runs)
    ∙ (ap (λ (rs : List (ℕ × ℕ)). text ++ flat_map run_text rs) (sym (run_ends n b c (runs_in (drop (i + 1) rest)) other) ∙ (ap (λ (d : ℕ). with_run n b (with_run 1 d (runs_in (drop (i + 1) rest)))) (sym here) ∙ ap (λ (ls : List ℕ). with_run n b (runs_in ls)) (sym (drop_more rest i d inside)))) ∙ h))

pub last_run : (letters text after rest : List ℕ) (n b i : ℕ) → length rest ≤ i → after ≡ text ++ run_text (n, b) → AreInRuns letters text n b (drop i rest) → after ≡ runs_text letters
last_run letters text after rest n b i end written h =
    written ∙ (ap (λ (ls : List ℕ). text ++ ls) (sym (append-nil (run_text (n, b))) ∙ ap (λ (ls : List ℕ). flat_map run_text (with_run n b (runs_in ls))) (sym (drop_all i rest end))) ∙ h)
