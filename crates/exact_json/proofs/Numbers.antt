-- A byte within a number.
use Rattle.std.proofs.Common.{◌≡◌, ℕ, suc, ◌+◌, ◌-◌, Bool, true, false, cond, ◌||◌, List, [], ◌∷◌, ◌++◌, length, refl, sym, ap, subst, ◌∙◌, inl, inr, ◌==◌, append_assoc, append-nil, arith, pos, ◌-ℤ◌}
use Rattle.std.proofs.lemmas.Bool.{eqb-true}
use Rattle.std.specs.Int.Digits.{number_from_digits}
use Rattle.json_character.specs.Ascii as ascii
use Rattle.json_character.specs.Ascii.{is_blank, is_digit, is_exponent_letter}
use Rattle.exact_decimal.specs.Digits.{with_digit}
use Rattle.exact_decimal.specs.Decimals.{held, signed, significant}
use Rattle.exact_json.specs.Limits.{Limits}
use Rattle.json_value.specs.Machine.{Frame, in_list, in_table, with_whole, with_fraction, with_exponent, with_minus, decimal_so_far}
use Rattle.exact_json.proofs.States.{Numeral}
use Rattle.json_value.specs.Tree.{Tree, no_item, item, no_pair, pair}
use Rattle.exact_decimal.specs.declared.decimal.Decimal.{Decimal}
use Rattle.exact_json.proofs.Left.{Closes, joined, finished}

-- Which bytes pass a test.

pub along_blank : (p : ℕ → Bool) (r : Bool) (b : ℕ) → is_blank b ≡ true → p 0x20 ≡ r → p 0x09 ≡ r → p 0x0A ≡ r → p 0x0D ≡ r → p b ≡ r
along_blank p r b blank e1 e2 e3 e4 = by (b == 0x20) (b == 0x09) (b == 0x0A) (b == 0x0D) refl refl refl refl blank
  where
    at : (k : ℕ) → (b == k) ≡ true → p k ≡ r → p b ≡ r
    at k is e = subst (λ x. p x ≡ r) (sym (eqb-true b k is)) e

    by : (t1 t2 t3 t4 : Bool) → (b == 0x20) ≡ t1 → (b == 0x09) ≡ t2 → (b == 0x0A) ≡ t3 → (b == 0x0D) ≡ t4 → ((t1 || t2) || (t3 || t4)) ≡ true → p b ≡ r
    by true t2 t3 t4 is1 is2 is3 is4 e = at 0x20 is1 e1
    by false true t3 t4 is1 is2 is3 is4 e = at 0x09 is2 e2
    by false false true t4 is1 is2 is3 is4 e = at 0x0A is3 e3
    by false false false true is1 is2 is3 is4 e = at 0x0D is4 e4
    by false false false false is1 is2 is3 is4 e = absurd (cc)

pub along_letter : (p : ℕ → Bool) (r : Bool) (b : ℕ) → is_exponent_letter b ≡ true → p 0x65 ≡ r → p 0x45 ≡ r → p b ≡ r
along_letter p r b letter e1 e2 = by (b == 0x65) (b == 0x45) refl refl letter
  where
    at : (k : ℕ) → (b == k) ≡ true → p k ≡ r → p b ≡ r
    at k is e = subst (λ x. p x ≡ r) (sym (eqb-true b k is)) e

    by : (t1 t2 : Bool) → (b == 0x65) ≡ t1 → (b == 0x45) ≡ t2 → (t1 || t2) ≡ true → p b ≡ r
    by true t2 is1 is2 e = at 0x65 is1 e1
    by false true is1 is2 e = at 0x45 is2 e2
    by false false is1 is2 e = absurd (cc)

-- no number goes on with this byte
pub record Stops (b : ℕ) : Type 0 where
  pub digit : is_digit b ≡ false
  pub point : (b == ascii.point) ≡ false
  pub letter : is_exponent_letter b ≡ false

stops_at : (b k : ℕ) → b ≡ k → Stops k → Stops b
stops_at b k e s = subst Stops (sym e) s

stops_blank : (b : ℕ) → is_blank b ≡ true → Stops b
stops_blank b e = record {
  digit = along_blank is_digit false b e refl refl refl refl;
  point = along_blank (λ x. x == ascii.point) false b e refl refl refl refl;
  letter = along_blank is_exponent_letter false b e refl refl refl refl;
}

stops_comma : Stops ascii.comma
stops_comma = record { digit = refl; point = refl; letter = refl }

stops_bracket : Stops ascii.close_bracket
stops_bracket = record { digit = refl; point = refl; letter = refl }

stops_brace : Stops ascii.close_brace
stops_brace = record { digit = refl; point = refl; letter = refl }

pub Closes-stops : (limits : Limits) (frames : List Frame) (v t : Tree) (b : ℕ) (xs : List ℕ) → Closes limits frames v t (b ∷ xs) → Stops b
Closes-stops limits [] v t b xs (e, inr h) = stops_blank b h.0
Closes-stops limits [] v t b xs (e, inl h) = absurd h
Closes-stops limits (in_list ts ∷ frames) v t b xs (no_item, ys, inr h, k) = stops_blank b h.0
Closes-stops limits (in_list ts ∷ frames) v t b xs (no_item, ys, inl h, k) = stops_at b _ h.0 stops_bracket
Closes-stops limits (in_list ts ∷ frames) v t b xs (item w more, ys, (zs, inr h, m), k) = stops_blank b h.0
Closes-stops limits (in_list ts ∷ frames) v t b xs (item w more, ys, (zs, inl h, m), k) = stops_at b _ h.0 stops_comma
Closes-stops limits (in_table es n ∷ frames) v t b xs (no_pair, ys, inr h, k) = stops_blank b h.0
Closes-stops limits (in_table es n ∷ frames) v t b xs (no_pair, ys, inl h, k) = stops_at b _ h.0 stops_brace
Closes-stops limits (in_table es n ∷ frames) v t b xs (pair w u more, ys, (ns, zs, inr h, g, m), k) = stops_blank b h.0
Closes-stops limits (in_table es n ∷ frames) v t b xs (pair w u more, ys, (ns, zs, inl h, g, m), k) = stops_at b _ h.0 stops_comma

-- The decimal that a number so far goes on to.

pub joined-with_digit : (ds : List ℕ) (d : ℕ) (es : List ℕ) → joined (with_digit ds d) es ≡ joined ds (d ∷ es)
joined-with_digit [] d es = by (d == 0)
  where
    by : (c : Bool) → joined (cond c [] (d ∷ [])) es ≡ cond c (significant es) (d ∷ es)
    by true = refl
    by false = refl
joined-with_digit (x ∷ xs) d es = append_assoc (x ∷ xs) (d ∷ []) es

joined-nil : (ds : List ℕ) → joined ds [] ≡ ds
joined-nil [] = refl
joined-nil (x ∷ xs) = append-nil (x ∷ xs)

decimal : Bool → List ℕ → Bool → List ℕ → ℕ → Decimal
decimal negative digits minus exponent places =
    record { negative = negative; digits = digits; exponent = held (signed minus (number_from_digits 10 exponent) -ℤ pos places) }

pub finished-with_whole : (n : Numeral) (b : ℕ) (w f : List ℕ) (m : Bool) (e : List ℕ) → finished (with_whole n b) w f m e ≡ finished n ((b - 48) ∷ w) f m e
unfolding decimal
finished-with_whole n b w f m e = ap (λ ds. decimal n.negative ds (n.exponent_negative || m) (n.exponent ++ e) (n.places + length f)) (joined-with_digit n.digits (b - 48) (w ++ f))

pub finished-with_fraction : (n : Numeral) (b : ℕ) (f : List ℕ) (m : Bool) (e : List ℕ) → finished (with_fraction n b) [] f m e ≡ finished n [] ((b - 48) ∷ f) m e
unfolding decimal
finished-with_fraction n b f m e =
    let places : n.places + 1 + length f ≡ n.places + suc (length f) = omega arith in
    ap (λ ds. decimal n.negative ds (n.exponent_negative || m) (n.exponent ++ e) (n.places + 1 + length f)) (joined-with_digit n.digits (b - 48) f)
    ∙ ap (λ p. decimal n.negative (joined n.digits ((b - 48) ∷ f)) (n.exponent_negative || m) (n.exponent ++ e) p) places

pub finished-with_exponent : (n : Numeral) (b : ℕ) (e : List ℕ) → finished (with_exponent n b) [] [] false e ≡ finished n [] [] false ((b - 48) ∷ e)
unfolding decimal
finished-with_exponent n b e = ap (λ es. decimal n.negative (joined n.digits []) (n.exponent_negative || false) es (n.places + 0)) (append_assoc n.exponent ((b - 48) ∷ []) e)

or_true : (c : Bool) → true ≡ (c || true)
or_true true = refl
or_true false = refl

or_false : (c : Bool) → (c || false) ≡ c
or_false true = refl
or_false false = refl

pub finished-with_minus : (n : Numeral) (e : List ℕ) → finished (with_minus n) [] [] false e ≡ finished n [] [] true e
unfolding decimal
finished-with_minus n e = ap (λ m. decimal n.negative (joined n.digits []) m (n.exponent ++ e) (n.places + 0)) (or_true n.exponent_negative)

pub finished-nil : (n : Numeral) → finished n [] [] false [] ≡ decimal_so_far n
unfolding decimal
finished-nil n =
    let places : n.places + 0 ≡ n.places = omega arith in
    ap (λ ds. decimal n.negative ds (n.exponent_negative || false) (n.exponent ++ []) (n.places + 0)) (joined-nil n.digits)
    ∙ (ap (λ m. decimal n.negative n.digits m (n.exponent ++ []) (n.places + 0)) (or_false n.exponent_negative)
    ∙ (ap (λ es. decimal n.negative n.digits n.exponent_negative es (n.places + 0)) (append-nil n.exponent)
    ∙ ap (λ p. decimal n.negative n.digits n.exponent_negative n.exponent p) places))

-- one byte more of a number
pub one_more : (k : ℕ) (b : ℕ) (xs : List ℕ) → k + length (b ∷ xs) ≡ k + 1 + length xs
one_more k b xs = omega arith
