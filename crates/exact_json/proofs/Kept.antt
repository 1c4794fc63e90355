-- What a run within the limits keeps, and what a text within the limits makes the machine keep.
use Rattle.std.proofs.Common.{◌≡◌, ℕ, ◌+◌, ◌-◌, ◌≤◌, Bool, true, false, cond, List, [], ◌∷◌, ◌++◌, length, Option, Some, None, option_and_then, refl, sym, ap, subst, ◌∙◌, inl, inr, max, nat_le, arith, length-append}
use Rattle.std.proofs.lemmas.Bool.{leb-true, le-leb}
use Rattle.exact_json.specs.Grammar.{Fraction, Exponent, Sign}
use Rattle.exact_json.specs.Limits.{no_limits, limits_before}
use Rattle.json_value.specs.Machine.{State, start, mark, value, first_item, first_name, name, colon, after_item, after_member, word, numeral, characters, done, step}
use Rattle.exact_json.specs.Runs.{run, run_within, is_within}
use Rattle.exact_json.proofs.States.{Numeral, Phase, after_minus, after_zero, in_whole, after_point, in_fraction, after_letter, after_sign, in_exponent}
use Rattle.json_character.specs.Pieces.{Is, Digits}
use Rattle.json_value.specs.Tree.{Tree}
use Rattle.exact_decimal.specs.declared.decimal.Decimal.{Decimal}
use Rattle.exact_json.proofs.Ends.{FitsEnd}
use Rattle.exact_json.proofs.Left.{Completes, NumeralTo}
use Rattle.exact_json.proofs.NumberSteps.{MayEnd}
use Rattle.exact_json.proofs.Runs.{AllFit}
use Rattle.exact_json.proofs.Sound.{IsSound, formed, step-sound}
use Rattle.exact_json.proofs.Steps.{Fits, goes-step}

-- What follows a number is no longer than the bytes that begin it.

Shorter : ℕ → (List ℕ → Type 0) → Type 0
Shorter k K = (zs : List ℕ) → K zs → k ≤ length zs

digits_shorter : (ds : List ℕ) (K : List ℕ → Type 0) (k : ℕ) → Shorter k K → Shorter k (Digits ds K)
unfolding Shorter
digits_shorter [] K k f zs h = f zs h
digits_shorter (d ∷ ds) K k f [] h = absurd h
digits_shorter (d ∷ ds) K k f (z ∷ zs) h = omega (arith, digits_shorter ds K k f zs h.2)

sign_shorter : (m : Bool) (K : List ℕ → Type 0) (k : ℕ) → Shorter k K → Shorter k (Sign m K)
unfolding Shorter
sign_shorter true K k f [] h = absurd h
sign_shorter true K k f (z ∷ zs) h = omega (arith, f zs h.1)
sign_shorter false K k f [] (inl h) = absurd h
sign_shorter false K k f [] (inr h) = f [] h
sign_shorter false K k f (z ∷ zs) (inl h) = omega (arith, f zs h.1)
sign_shorter false K k f (z ∷ zs) (inr h) = f (z ∷ zs) h

exponent_shorter : (m : Bool) (e : List ℕ) (K : List ℕ → Type 0) (k : ℕ) → Shorter k K → Shorter k (Exponent m e K)
unfolding Shorter
exponent_shorter m [] K k f zs h = f zs h.1
exponent_shorter m (x ∷ e) K k f [] h = absurd h
exponent_shorter m (x ∷ e) K k f (z ∷ zs) h = omega (arith, sign_shorter m (Digits (x ∷ e) K) k (digits_shorter (x ∷ e) K k f) zs h.1)

fraction_shorter : (p : List ℕ) (K : List ℕ → Type 0) (k : ℕ) → Shorter k K → Shorter k (Fraction p K)
unfolding Shorter
fraction_shorter [] K k f zs h = f zs h
fraction_shorter (x ∷ p) K k f [] h = absurd h
fraction_shorter (x ∷ p) K k f (z ∷ zs) h = omega (arith, digits_shorter (x ∷ p) K k f zs h.1)

is_shorter : (ys : List ℕ) → Shorter (length ys) (Is ys)
unfolding Shorter
is_shorter ys zs h = omega (arith, ap length h)

numeral_shorter : (phase : Phase) (n : Numeral) (d : Decimal) (xs ys : List ℕ) → NumeralTo phase n d xs ys → length ys ≤ length xs
unfolding Shorter
numeral_shorter after_minus n d xs ys (w, f, m, e, whole, h, is) = digits_shorter w _ (length ys) (fraction_shorter f _ (length ys) (exponent_shorter m e _ (length ys) (is_shorter ys))) xs h
numeral_shorter after_zero n d xs ys (f, m, e, h, is) = fraction_shorter f _ (length ys) (exponent_shorter m e _ (length ys) (is_shorter ys)) xs h
numeral_shorter in_whole n d xs ys (w, f, m, e, h, is) = digits_shorter w _ (length ys) (fraction_shorter f _ (length ys) (exponent_shorter m e _ (length ys) (is_shorter ys))) xs h
numeral_shorter after_point n d xs ys (x, f, m, e, h, is) = digits_shorter (x ∷ f) _ (length ys) (exponent_shorter m e _ (length ys) (is_shorter ys)) xs h
numeral_shorter in_fraction n d xs ys (f, m, e, h, is) = digits_shorter f _ (length ys) (exponent_shorter m e _ (length ys) (is_shorter ys)) xs h
numeral_shorter after_letter n d xs ys (m, x, e, h, is) = sign_shorter m _ (length ys) (digits_shorter (x ∷ e) _ (length ys) (is_shorter ys)) xs h
numeral_shorter after_sign n d xs ys (x, e, h, is) = digits_shorter (x ∷ e) _ (length ys) (is_shorter ys) xs h
numeral_shorter in_exponent n d xs ys (e, h, is) = digits_shorter e _ (length ys) (is_shorter ys) xs h

-- a number whose bytes before the last ones are at most 64 is no longer so far
pub short_number : (phase : Phase) (n : Numeral) (d : Decimal) (xs ys : List ℕ) (after : ℕ) → after ≤ length xs → NumeralTo phase n d xs ys → nat_le (n.length + length xs - max (length ys) after) 64 ≡ true → nat_le n.length 64 ≡ true
short_number phase n d xs ys after few h e =
    let shorter = numeral_shorter phase n d xs ys h in
    let reach : n.length + length xs - max (length ys) after ≤ 64 = leb-true _ _ e in
    let small : n.length ≤ 64 = omega (arith, shorter) in
    le-leb n.length 64 small

kept : (after : ℕ) (t : Tree) (m : State) (xs : List ℕ) → after ≤ length xs → Completes (limits_before after) m t xs → is_within m ≡ true
kept after t start xs few h = refl
kept after t (mark ms) xs few h = refl
kept after t (value frames) xs few h = refl
kept after t (first_item frames) xs few h = h.0
kept after t (first_name frames) xs few h = h.0
kept after t (name es frames) xs few h = refl
kept after t (colon es n frames) xs few h = refl
kept after t (after_item ts frames) xs few h = refl
kept after t (after_member es frames) xs few h = refl
kept after t (word cs v frames) xs few h = refl
kept after t (numeral phase n frames) xs few (d, ys, h, reach, closes) = short_number phase n d xs ys after few h reach
kept after t (characters role s w frames) xs few h = refl
kept after t (done v) xs few h = refl

-- the machine goes on within the limits wherever the grammar does
pub run_goes_within : (after : ℕ) (t : Tree) (m : State) (p more : List ℕ) → after ≤ length more → IsSound m → Completes (limits_before after) m t (p ++ more) → (n : State) × (run_within m p ≡ Some n) × Completes (limits_before after) n t more
run_goes_within after t m [] more few sound h = (m, refl, h)
run_goes_within after t m (b ∷ p) more few sound h =
    let g = goes-step (limits_before after) t m b (p ++ more) (formed (limits_before after) t m sound) h in
    let room : after ≤ length (p ++ more) = omega (arith, length-append p more) in
    let r = run_goes_within after t g.0 p more few (step-sound m b g.0 sound g.1) g.2 in
    (r.0, ap (option_and_then (λ n. cond (is_within n) (run_within n p) None)) g.1 ∙ (ap (λ c. cond c (run_within g.0 p) None) (kept after t g.0 (p ++ more) room g.2) ∙ r.1), r.2)

-- A run within the limits.

-- the first step and the rest of a run within the limits
pub first_step : (m n : State) (b : ℕ) (p : List ℕ) → run_within m (b ∷ p) ≡ Some n → (k : State) × (step m b ≡ Some k) × (is_within k ≡ true) × (run_within k p ≡ Some n)
first_step m n b p e = by (step m b) refl e
  where
    kept_within : (k : State) (c : Bool) → is_within k ≡ c → step m b ≡ Some k → cond c (run_within k p) None ≡ Some n → (k : State) × (step m b ≡ Some k) × (is_within k ≡ true) × (run_within k p ≡ Some n)
    kept_within k true within is e = (k, is, within, e)
    kept_within k false within is e = absurd (cc)

    by : (o : Option State) → step m b ≡ o → option_and_then (λ n. cond (is_within n) (run_within n p) None) o ≡ Some n → (k : State) × (step m b ≡ Some k) × (is_within k ≡ true) × (run_within k p ≡ Some n)
    by None is e = absurd (cc)
    by (Some k) is e = kept_within k (is_within k) refl is e

pub within-run : (m n : State) (p : List ℕ) → run_within m p ≡ Some n → run m p ≡ Some n
within-run m n [] e = e
within-run m n (b ∷ p) e = let s = first_step m n b p e in ap (option_and_then (λ k. run k p)) s.1 ∙ within-run s.0 n p s.3

pub within-last : (m n : State) (p : List ℕ) → is_within m ≡ true → run_within m p ≡ Some n → is_within n ≡ true
within-last m n [] within e = let same : m ≡ n = cc in subst (λ s. is_within s ≡ true) same within
within-last m n (b ∷ p) within e = let s = first_step m n b p e in within-last s.0 n p s.2 s.3

pub run-sound : (m n : State) (p : List ℕ) → IsSound m → run_within m p ≡ Some n → IsSound n
run-sound m n [] sound e = let same : m ≡ n = cc in subst IsSound same sound
run-sound m n (b ∷ p) sound e = let s = first_step m n b p e in run-sound s.0 n p (step-sound m b s.0 sound s.1) s.3

-- a state within the limits fits them, however many bytes come after
pub fits_within : (after : ℕ) (t : Tree) (m : State) → is_within m ≡ true → Fits (limits_before after) t m
unfolding Fits MayEnd
fits_within after t start e = tt
fits_within after t (mark ms) e = tt
fits_within after t (value frames) e = tt
fits_within after t (first_item frames) e = e
fits_within after t (first_name frames) e = e
fits_within after t (name es frames) e = tt
fits_within after t (colon es n frames) e = tt
fits_within after t (after_item ts frames) e = tt
fits_within after t (after_member es frames) e = tt
fits_within after t (word cs v frames) e = tt
fits_within after t (numeral phase n frames) e = λ k. let small : n.length ≤ 64 = leb-true n.length 64 e in let reach : n.length + k - max k after ≤ 64 = omega arith in le-leb _ 64 reach
fits_within after t (characters role s w frames) e = tt
fits_within after t (done v) e = tt

pub all_fit_within : (after : ℕ) (t : Tree) (m n : State) (p : List ℕ) → is_within m ≡ true → run_within m p ≡ Some n → AllFit (limits_before after) t m p
all_fit_within after t m n [] within e = tt
all_fit_within after t m n (b ∷ p) within e =
    let s = first_step m n b p e in
    (fits_within after t m within, λ k is. moved s.0 k (sym s.1 ∙ is) (all_fit_within after t s.0 n p s.2 s.3))
  where
    moved : (j k : State) → Some j ≡ Some k → AllFit (limits_before after) t j p → AllFit (limits_before after) t k p
    moved j k e h = let same : j ≡ k = cc in subst (λ s. AllFit (limits_before after) t s p) same h

-- no limit at all
pub fits_none : (t : Tree) (m : State) → Fits no_limits t m
unfolding Fits MayEnd
fits_none t start = tt
fits_none t (mark ms) = tt
fits_none t (value frames) = tt
fits_none t (first_item frames) = refl
fits_none t (first_name frames) = refl
fits_none t (name es frames) = tt
fits_none t (colon es n frames) = tt
fits_none t (after_item ts frames) = tt
fits_none t (after_member es frames) = tt
fits_none t (word cs v frames) = tt
fits_none t (numeral phase n frames) = λ k. refl
fits_none t (characters role s w frames) = tt
fits_none t (done v) = tt

pub all_fit_none : (t : Tree) (m : State) (p : List ℕ) → AllFit no_limits t m p
all_fit_none t m [] = tt
all_fit_none t m (b ∷ p) = (fits_none t m, λ n is. all_fit_none t n p)

-- with the bytes that complete the text
pub fits_end_none : (m : State) (k : ℕ) → FitsEnd no_limits m k
fits_end_none start k = tt
fits_end_none (mark ms) k = tt
fits_end_none (value frames) k = tt
fits_end_none (first_item frames) k = refl
fits_end_none (first_name frames) k = refl
fits_end_none (name es frames) k = tt
fits_end_none (colon es n frames) k = tt
fits_end_none (after_item ts frames) k = tt
fits_end_none (after_member es frames) k = tt
fits_end_none (word cs v frames) k = tt
fits_end_none (numeral phase n frames) k = λ e h. refl
fits_end_none (characters role s w frames) k = tt
fits_end_none (done v) k = tt

pub fits_end_within : (m : State) (k : ℕ) → is_within m ≡ true → FitsEnd (limits_before k) m k
fits_end_within start k e = tt
fits_end_within (mark ms) k e = tt
fits_end_within (value frames) k e = tt
fits_end_within (first_item frames) k e = e
fits_end_within (first_name frames) k e = e
fits_end_within (name es frames) k e = tt
fits_end_within (colon es n frames) k e = tt
fits_end_within (after_item ts frames) k e = tt
fits_end_within (after_member es frames) k e = tt
fits_end_within (word cs v frames) k e = tt
fits_end_within (numeral phase n frames) k e = λ end h. let small : n.length ≤ 64 = leb-true n.length 64 e in let reach : n.length + k - max end k ≤ 64 = omega arith in le-leb _ 64 reach
fits_end_within (characters role s w frames) k e = tt
fits_end_within (done v) k e = tt
