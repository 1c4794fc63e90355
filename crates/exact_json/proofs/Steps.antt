-- Every step: the machine goes on wherever the grammar does, and the other way round.
use Rattle.std.proofs.Common.{◌≡◌, ℕ, ◌+◌, Bool, true, false, List, [], ◌∷◌, ◌++◌, length, Option, refl, sym, ap, subst, ◌∙◌, inl, inr, ◌==◌, codes, zero-add, eq-eqb, pos, ◌-ℤ◌}
use Rattle.std.specs.Int.Digits.{number_from_digits}
use Rattle.std.proofs.lemmas.Bool.{eqb-true}
use Rattle.json_character.specs.Ascii as ascii
use Rattle.json_character.specs.Ascii.{is_blank, is_digit}
use Rattle.exact_decimal.specs.Decimals.{significant, held, signed}
use Rattle.exact_json.specs.Grammar.{Value, Parts, decimal_of_parts, IsWhole, Fraction, Exponent, Minus, Unmarked}
use Rattle.exact_json.specs.Limits.{Limits}
use Rattle.json_value.specs.Machine.{Frame, in_list, in_table, State, start, mark, value, first_item, first_name, name, colon, after_item, after_member, word, numeral, characters, done, as_value, as_name, ended, no_numeral, step_ended, step_first_digit, step_begin, step_name, step_value, step}
use Rattle.exact_json.proofs.States.{after_minus, plain}
use Rattle.json_character.specs.Pieces.{Is, Digits, Blanks}
use Rattle.json_character.specs.Texts.{Quoted}
use Rattle.json_value.specs.Tree.{Tree, null, flag, number, text, list, table, item, no_item, pair, no_pair, Entry, list_of, table_of}
use Rattle.json_character.specs.Within.{is_begun}
use Rattle.exact_decimal.specs.declared.decimal.Decimal.{Decimal}
use Rattle.exact_json.proofs.Ended.{comes_cond, comes_some, comes_none, goes_true, goes_false, ended-Closes, Closes-ended, goes-ended, comes-ended, goes-after_item, comes-after_item, goes-after_member, comes-after_member}
use Rattle.exact_json.proofs.Left.{Closes, AfterName, Completes, Goes, Comes, NumeralTo, finished}
use Rattle.exact_json.proofs.NumberSteps.{Owes, MayEnd, goes_first, comes_first, goes-numeral, comes-numeral}
use Rattle.exact_json.proofs.Numbers.{along_blank, one_more}
use Rattle.exact_json.proofs.TextSteps.{goes-characters, comes-characters}

-- a digit is no blank, and no other byte of those that are tested first
digit_not : (k b : ℕ) → is_digit k ≡ false → is_digit b ≡ true → (b == k) ≡ false
digit_not k b other digit = by (b == k) refl
  where
    by : (c : Bool) → (b == k) ≡ c → c ≡ false
    by false e = refl
    by true e = absurd (let same : b ≡ k = eqb-true b k e in let no : is_digit k ≡ true = subst (λ c. is_digit c ≡ true) same digit in cc)

digit_not_blank : (b : ℕ) → is_digit b ≡ true → is_blank b ≡ false
digit_not_blank b digit = by (is_blank b) refl
  where
    by : (c : Bool) → is_blank b ≡ c → c ≡ false
    by false e = refl
    by true e = absurd (let no : is_digit b ≡ false = along_blank is_digit false b e refl refl refl refl in cc)

-- the first byte of a value
pub record Heads (b : ℕ) : Type 0 where
  pub blank : is_blank b ≡ false
  pub bracket : (b == ascii.close_bracket) ≡ false
  pub mark : (b == 0xEF) ≡ false

heads_at : (b k : ℕ) → b ≡ k → Heads k → Heads b
heads_at b k e h = subst Heads (sym e) h

heads_digit : (b : ℕ) → is_digit b ≡ true → Heads b
heads_digit b e = record { blank = digit_not_blank b e; bracket = digit_not ascii.close_bracket b refl e; mark = digit_not 0xEF b refl e }

-- a number without a digit yet, and all its parts
decimal_at : Parts → ℕ → Decimal
decimal_at n places =
    record { negative = n.negative; digits = significant (n.whole ++ n.fraction); exponent = held (signed n.exponent_negative (number_from_digits 10 n.exponent) -ℤ pos places) }

finished-parts : (n : Parts) → finished (record no_numeral { negative = n.negative }) n.whole n.fraction n.exponent_negative n.exponent ≡ decimal_of_parts n
unfolding decimal_at
finished-parts n = ap (decimal_at n) (zero-add (length n.fraction))

module _ (limits : Limits) (t : Tree) where
  -- a value that begins here
  BeginsValue : List Frame → List ℕ → Type 0
  BeginsValue frames xs = (v : Tree) × (ys : List ℕ) × Value limits (length frames) v xs ys × Closes limits frames v t ys

  goes_at : (frames : List Frame) (b k : ℕ) (xs : List ℕ) → b ≡ k → Heads k → Goes limits (step_begin frames k) t xs → Heads b × Goes limits (step_begin frames b) t xs
  goes_at frames b k xs e h g = (heads_at b k e h, subst (λ x. Goes limits (step_begin frames x) t xs) (sym e) g)

  goes_number : (frames : List Frame) (d : Decimal) (b : ℕ) (xs ys : List ℕ) (n : Parts) → IsWhole n.whole → Minus n.negative (Digits n.whole (Fraction n.fraction (Exponent n.exponent_negative n.exponent (Is ys)))) (b ∷ xs)
      → finished (record no_numeral { negative = n.negative }) n.whole n.fraction n.exponent_negative n.exponent ≡ d → limits.may_reach (length (b ∷ xs)) (length ys) ≡ true → Closes limits frames (number d) t ys → Heads b × Goes limits (step_begin frames b) t xs
  goes_number frames d b xs ys n whole h is reach closes = by n.negative h is
    where
      reach_0 : limits.may_reach (0 + length (b ∷ xs)) (length ys) ≡ true
      reach_0 = subst (λ k. limits.may_reach k (length ys) ≡ true) (sym (zero-add (length (b ∷ xs)))) reach

      by : (negative : Bool) → Minus negative (Digits n.whole (Fraction n.fraction (Exponent n.exponent_negative n.exponent (Is ys)))) (b ∷ xs) → finished (record no_numeral { negative = negative }) n.whole n.fraction n.exponent_negative n.exponent ≡ d → Heads b × Goes limits (step_begin frames b) t xs
      by true h is =
          goes_at frames b ascii.minus xs h.0 (record { blank = refl; bracket = refl; mark = refl }) (
            numeral after_minus (record no_numeral { negative = true; length = 1 }) frames,
            refl,
            (d, ys, (n.whole, n.fraction, n.exponent_negative, n.exponent, whole, h.1, is), subst (λ k. limits.may_reach k (length ys) ≡ true) (one_more 0 b xs) reach_0, closes),
          )
      by false h is =
          let first = goes_first limits frames t no_numeral d b xs ys n.whole n.fraction n.exponent_negative n.exponent whole h is (record { reach = reach_0; closes = closes }) in
          (heads_digit b first.0, goes_true limits _ _ _ t xs first.0 first.1)

  goes_begin : (frames : List Frame) (v : Tree) (b : ℕ) (xs ys : List ℕ) → Value limits (length frames) v (b ∷ xs) ys → Closes limits frames v t ys → Heads b × Goes limits (step_begin frames b) t xs
  goes_begin frames null b xs ys h k = goes_at frames b 0x6E xs h.0 (record { blank = refl; bracket = refl; mark = refl }) (word (codes "ull") null frames, refl, (ys, h.1, k))
  goes_begin frames (flag true) b xs ys h k = goes_at frames b 0x74 xs h.0 (record { blank = refl; bracket = refl; mark = refl }) (word (codes "rue") (flag true) frames, refl, (ys, h.1, k))
  goes_begin frames (flag false) b xs ys h k = goes_at frames b 0x66 xs h.0 (record { blank = refl; bracket = refl; mark = refl }) (word (codes "alse") (flag false) frames, refl, (ys, h.1, k))
  goes_begin frames (number d) b xs ys (n, whole, h, is, reach) k = goes_number frames d b xs ys n whole h (finished-parts n ∙ is) reach k
  goes_begin frames (text s) b xs ys (cs, is, h) k =
      goes_at frames b ascii.quote xs h.0 (record { blank = refl; bracket = refl; mark = refl })
      (characters as_value [] plain frames, refl, (cs, ys, h.1, subst (λ z. Closes limits frames (text z) t ys) (sym is) k))
  goes_begin frames (list ts) b xs ys (may, h) k = goes_at frames b ascii.open_bracket xs h.0 (record { blank = refl; bracket = refl; mark = refl }) (first_item frames, refl, (may, (ts, ys, h.1, k)))
  goes_begin frames (table ps) b xs ys (may, h) k = goes_at frames b ascii.open_brace xs h.0 (record { blank = refl; bracket = refl; mark = refl }) (first_name frames, refl, (may, (ps, ys, h.1, k)))

  goes_value : (frames : List Frame) (b : ℕ) (xs : List ℕ) → Completes limits (value frames) t (b ∷ xs) → ((b == 0xEF) ≡ false) × Goes limits (step_value frames b) t xs
  goes_value frames b xs (v, ys, inl h, k) =
      let r = goes_begin frames v b xs ys h k in
      (r.0.mark, goes_false limits _ _ _ t xs r.0.blank r.1)
  goes_value frames b xs (v, ys, inr h, k) = (along_blank (λ x. x == 0xEF) false b h.0 refl refl refl refl, goes_true limits _ _ _ t xs h.0 (value frames, refl, (v, ys, h.1, k)))

  goes_unmarked : (b : ℕ) (xs : List ℕ) → Unmarked limits t (b ∷ xs) → ((b == 0xEF) ≡ false) × Goes limits (step_value [] b) t xs
  goes_unmarked b xs (zs, h, e) = goes_value [] b xs (t, zs, h, (refl, e))

  goes_name : (es : List Entry) (frames : List Frame) (n : List ℕ) (b : ℕ) (xs ys : List ℕ) → Quoted n (b ∷ xs) ys → AfterName limits es n frames t ys → (is_blank b ≡ false) × (((b == ascii.close_brace) ≡ false) × Goes limits (step_name es frames b) t xs)
  goes_name es frames n b xs ys (cs, is, h) k = (
    subst (λ x. is_blank x ≡ false) (sym h.0) refl,
    (
      subst (λ x. (x == ascii.close_brace) ≡ false) (sym h.0) refl,
      subst (λ x. Goes limits (step_name es frames x) t xs) (sym h.0)
          (characters (as_name es) [] plain frames, refl, (cs, ys, h.1, subst (λ z. AfterName limits es z frames t ys) (sym is) k)),
    ),
  )

  -- a text can be read on from here
  unfoldable pub IsFormed : State → Type 0
  IsFormed (characters role s w frames) = is_begun w ≡ true
  IsFormed _ = Unit {0}

  pub goes-step : (m : State) (b : ℕ) (xs : List ℕ) → IsFormed m → Completes limits m t (b ∷ xs) → Goes limits (step m b) t xs
  unfolding IsFormed
  goes-step start b xs formed (inl h) = let r = goes_unmarked b xs h in goes_false limits _ _ _ t xs r.0 r.1
  goes-step start b xs formed (inr h) = goes_true limits _ _ _ t xs (eq-eqb b 0xEF h.0) (mark (0xBB ∷ 0xBF ∷ []), refl, h.1)
  goes-step (mark []) b xs formed h = (goes_unmarked b xs h).1
  goes-step (mark (m ∷ ms)) b xs formed h = goes_true limits _ _ _ t xs (eq-eqb b m h.0) (mark ms, refl, h.1)
  goes-step (value frames) b xs formed h = (goes_value frames b xs h).1
  goes-step (first_item frames) b xs formed (may, (no_item, ys, inr h, k)) = goes_true limits _ _ _ t xs h.0 (first_item frames, refl, (may, (no_item, ys, h.1, k)))
  goes-step (first_item frames) b xs formed (may, (no_item, ys, inl h, k)) =
      subst (λ x. Goes limits (step (first_item frames) x) t xs) (sym h.0)
      (ended frames (list_of []), refl, ended-Closes limits frames (list_of []) t xs (subst (λ z. Closes limits frames (list_of []) t z) (sym h.1) k))
  goes-step (first_item frames) b xs formed (may, (item v ts, ys, (zs, inr h, m), k)) = goes_true limits _ _ _ t xs h.0 (first_item frames, refl, (may, (item v ts, ys, (zs, h.1, m), k)))
  goes-step (first_item frames) b xs formed (may, (item v ts, ys, (zs, inl h, m), k)) =
      let r = goes_begin (in_list [] ∷ frames) v b xs zs h (ts, ys, m, k) in
      goes_false limits _ _ _ t xs r.0.blank (goes_false limits _ _ _ t xs r.0.bracket r.1)
  goes-step (first_name frames) b xs formed (may, (no_pair, ys, inr h, k)) = goes_true limits _ _ _ t xs h.0 (first_name frames, refl, (may, (no_pair, ys, h.1, k)))
  goes-step (first_name frames) b xs formed (may, (no_pair, ys, inl h, k)) =
      subst (λ x. Goes limits (step (first_name frames) x) t xs) (sym h.0)
      (ended frames (table_of []), refl, ended-Closes limits frames (table_of []) t xs (subst (λ z. Closes limits frames (table_of []) t z) (sym h.1) k))
  goes-step (first_name frames) b xs formed (may, (pair n v ps, ys, (ns, zs, inr h, g, m), k)) = goes_true limits _ _ _ t xs h.0 (first_name frames, refl, (may, (pair n v ps, ys, (ns, zs, h.1, g, m), k)))
  goes-step (first_name frames) b xs formed (may, (pair n v ps, ys, (ns, zs, inl h, g, m), k)) =
      let r = goes_name [] frames n b xs ns h (v, zs, g, (ps, ys, m, k)) in
      goes_false limits _ _ _ t xs r.0 (goes_false limits _ _ _ t xs r.1.0 r.1.1)
  goes-step (name es frames) b xs formed (n, ys, inr h, k) = goes_true limits _ _ _ t xs h.0 (name es frames, refl, (n, ys, h.1, k))
  goes-step (name es frames) b xs formed (n, ys, inl h, k) =
      let r = goes_name es frames n b xs ys h k in
      goes_false limits _ _ _ t xs r.0 r.1.1
  goes-step (colon es n frames) b xs formed (v, ys, inr h, k) = goes_true limits _ _ _ t xs h.0 (colon es n frames, refl, (v, ys, h.1, k))
  goes-step (colon es n frames) b xs formed (v, ys, inl h, k) =
      subst (λ x. Goes limits (step (colon es n frames) x) t xs) (sym h.0) (value (in_table es n ∷ frames), refl, (v, ys, h.1, k))
  goes-step (after_item ts frames) b xs formed h = goes-after_item limits ts frames t b xs h
  goes-step (after_member es frames) b xs formed h = goes-after_member limits es frames t b xs h
  goes-step (word [] v frames) b xs formed (ys, h, k) = goes-ended limits frames v t b xs (subst (λ z. Closes limits frames v t z) (sym h) k)
  goes-step (word (c ∷ cs) v frames) b xs formed (ys, h, k) = goes_true limits _ _ _ t xs (eq-eqb b c h.0) (word cs v frames, refl, (ys, h.1, k))
  goes-step (numeral phase n frames) b xs formed h = goes-numeral limits frames t phase n b xs h
  goes-step (characters role s w frames) b xs formed h = goes-characters limits role s frames t w b xs formed h
  goes-step (done v) b xs formed h = goes-ended limits [] v t b xs h

  -- The grammar goes on.

  comes_map : (o : Option State) (xs : List ℕ) (A B : Type 0) → (A → B) → Comes limits o t xs A → Comes limits o t xs B
  comes_map o xs A B f g n e h = f (g n e h)

  comes_begin : (frames : List Frame) (b : ℕ) (xs : List ℕ) → Comes limits (step_begin frames b) t xs (BeginsValue frames (b ∷ xs))
  unfolding BeginsValue
  comes_begin frames b xs =
      comes_cond limits (is_digit b) _ _ t xs _
      (λ digit. comes_map (step_first_digit no_numeral frames b) xs _ _ (λ h. from_number h.0 h.1 h.2 h.3) (comes_first limits frames t no_numeral b xs digit))
      (λ _. comes_cond limits (b == ascii.minus) _ _ t xs _
      (λ is. comes_some limits (numeral after_minus (record no_numeral { negative = true; length = 1 }) frames) t xs _ (λ h. from_minus (eqb-true b ascii.minus is) h))
      (λ _. comes_cond limits (b == ascii.quote) _ _ t xs _
      (λ is. comes_some limits (characters as_value [] plain frames) t xs _ (λ h. (text _, h.1, (h.0, refl, (eqb-true b ascii.quote is, h.2)), h.3)))
      (λ _. comes_cond limits (b == ascii.open_bracket) _ _ t xs _
      (λ is. comes_some limits (first_item frames) t xs _ (λ h. (list h.1.0, h.1.1, (h.0, (eqb-true b ascii.open_bracket is, h.1.2)), h.1.3)))
      (λ _. comes_cond limits (b == ascii.open_brace) _ _ t xs _
      (λ is. comes_some limits (first_name frames) t xs _ (λ h. (table h.1.0, h.1.1, (h.0, (eqb-true b ascii.open_brace is, h.1.2)), h.1.3)))
      (λ _. comes_cond limits (b == 0x6E) _ _ t xs _
      (λ is. comes_some limits (word (codes "ull") null frames) t xs _ (λ h. (null, h.0, (eqb-true b 0x6E is, h.1), h.2)))
      (λ _. comes_cond limits (b == 0x74) _ _ t xs _
      (λ is. comes_some limits (word (codes "rue") (flag true) frames) t xs _ (λ h. (flag true, h.0, (eqb-true b 0x74 is, h.1), h.2)))
      (λ _. comes_cond limits (b == 0x66) _ _ t xs _
      (λ is. comes_some limits (word (codes "alse") (flag false) frames) t xs _ (λ h. (flag false, h.0, (eqb-true b 0x66 is, h.1), h.2)))
      (λ _. comes_none limits t xs _))))))))
    where
      from_number : (d : Decimal) (ys : List ℕ) → NumeralTo after_minus no_numeral d (b ∷ xs) ys → Owes limits frames t d 0 (b ∷ xs) ys → BeginsValue frames (b ∷ xs)
      from_number d ys (w, f, m, e, whole, h, is) o = (
        number d,
        ys,
        (
          record { negative = false; whole = w; fraction = f; exponent_negative = m; exponent = e },
          whole,
          h,
          sym (finished-parts (record { negative = false; whole = w; fraction = f; exponent_negative = m; exponent = e })) ∙ is,
          subst (λ k. limits.may_reach k (length ys) ≡ true) (zero-add (length (b ∷ xs))) o.reach,
        ),
        o.closes,
      )

      from_minus : b ≡ ascii.minus → Completes limits (numeral after_minus (record no_numeral { negative = true; length = 1 }) frames) t xs → BeginsValue frames (b ∷ xs)
      from_minus at (d, ys, (w, f, m, e, whole, h, is), reach, closes) = (
        number d,
        ys,
        (
          record { negative = true; whole = w; fraction = f; exponent_negative = m; exponent = e },
          whole,
          (at, h),
          sym (finished-parts (record { negative = true; whole = w; fraction = f; exponent_negative = m; exponent = e })) ∙ is,
          subst (λ k. limits.may_reach k (length ys) ≡ true) (sym (one_more 0 b xs) ∙ zero-add (length (b ∷ xs))) reach,
        ),
        closes,
      )

  comes_value : (frames : List Frame) (b : ℕ) (xs : List ℕ) → Comes limits (step_value frames b) t xs (Completes limits (value frames) t (b ∷ xs))
  unfolding BeginsValue
  comes_value frames b xs =
      comes_cond limits (is_blank b) _ _ t xs _
      (λ blank. comes_some limits (value frames) t xs _ (λ h. (h.0, h.1, inr (blank, h.2), h.3)))
      (λ _. comes_map (step_begin frames b) xs (BeginsValue frames (b ∷ xs)) _ (λ h. (h.0, h.1, inl h.2, h.3)) (comes_begin frames b xs))

  comes_unmarked : (b : ℕ) (xs : List ℕ) → Comes limits (step_value [] b) t xs (Unmarked limits t (b ∷ xs))
  comes_unmarked b xs = comes_map (step_value [] b) xs (Completes limits (value []) t (b ∷ xs)) _ whole (comes_value [] b xs)
    where
      whole : Completes limits (value []) t (b ∷ xs) → Unmarked limits t (b ∷ xs)
      whole (v, zs, h, (same, end)) = (zs, subst (λ x. Blanks (λ rest. Value limits 0 x rest zs) (b ∷ xs)) same h, end)

  comes_name : (es : List Entry) (frames : List Frame) (b : ℕ) (xs : List ℕ) → Comes limits (step_name es frames b) t xs ((n ys : List ℕ) × Quoted n (b ∷ xs) ys × AfterName limits es n frames t ys)
  comes_name es frames b xs =
      comes_cond limits (b == ascii.quote) _ _ t xs _
      (λ is. comes_some limits (characters (as_name es) [] plain frames) t xs _ (λ h. (_, h.1, (h.0, refl, (eqb-true b ascii.quote is, h.2)), h.3)))
      (λ _. comes_none limits t xs _)

  -- the limits that a state has kept
  unfoldable pub Fits : State → Type 0
  Fits (first_item frames) = limits.may_open (length frames) ≡ true
  Fits (first_name frames) = limits.may_open (length frames) ≡ true
  Fits (numeral phase n frames) = MayEnd limits frames t n
  Fits _ = Unit {0}

  pub comes-step : (m : State) (b : ℕ) (xs : List ℕ) → IsFormed m → Fits m → Comes limits (step m b) t xs (Completes limits m t (b ∷ xs))
  unfolding IsFormed Fits BeginsValue
  comes-step start b xs formed fits =
      comes_cond limits (b == 0xEF) _ _ t xs _
      (λ is. comes_some limits (mark (0xBB ∷ 0xBF ∷ [])) t xs _ (λ h. inr (eqb-true b 0xEF is, h)))
      (λ _. comes_map (step_value [] b) xs (Unmarked limits t (b ∷ xs)) _ (λ h. inl h) (comes_unmarked b xs))
  comes-step (mark []) b xs formed fits = comes_unmarked b xs
  comes-step (mark (m ∷ ms)) b xs formed fits =
      comes_cond limits (b == m) _ _ t xs _
      (λ is. comes_some limits (mark ms) t xs _ (λ h. (eqb-true b m is, h)))
      (λ _. comes_none limits t xs _)
  comes-step (value frames) b xs formed fits = comes_value frames b xs
  comes-step (first_item frames) b xs formed fits =
      comes_cond limits (is_blank b) _ _ t xs _
      (λ blank. comes_some limits (first_item frames) t xs _ (λ h. blanked blank h))
      (λ _. comes_cond limits (b == ascii.close_bracket) _ _ t xs _
      (λ is. comes_some limits (ended frames (list_of [])) t xs _ (λ h. (fits, (no_item, xs, inl (eqb-true b ascii.close_bracket is, refl), Closes-ended limits frames (list_of []) t xs h))))
      (λ _. comes_map (step_begin (in_list [] ∷ frames) b) xs (BeginsValue (in_list [] ∷ frames) (b ∷ xs)) _ begun (comes_begin (in_list [] ∷ frames) b xs)))
    where
      blanked : is_blank b ≡ true → Completes limits (first_item frames) t xs → Completes limits (first_item frames) t (b ∷ xs)
      blanked blank (may, (no_item, ys, m, k)) = (may, (no_item, ys, inr (blank, m), k))
      blanked blank (may, (item v more, ys, (zs, m, r), k)) = (may, (item v more, ys, (zs, inr (blank, m), r), k))

      begun : BeginsValue (in_list [] ∷ frames) (b ∷ xs) → Completes limits (first_item frames) t (b ∷ xs)
      begun (v, zs, h, (more, ys, m, k)) = (fits, (item v more, ys, (zs, inl h, m), k))
  comes-step (first_name frames) b xs formed fits =
      comes_cond limits (is_blank b) _ _ t xs _
      (λ blank. comes_some limits (first_name frames) t xs _ (λ h. blanked blank h))
      (λ _. comes_cond limits (b == ascii.close_brace) _ _ t xs _
      (λ is. comes_some limits (ended frames (table_of [])) t xs _ (λ h. (fits, (no_pair, xs, inl (eqb-true b ascii.close_brace is, refl), Closes-ended limits frames (table_of []) t xs h))))
      (λ _. comes_map (step_name [] frames b) xs _ _ begun (comes_name [] frames b xs)))
    where
      blanked : is_blank b ≡ true → Completes limits (first_name frames) t xs → Completes limits (first_name frames) t (b ∷ xs)
      blanked blank (may, (no_pair, ys, m, k)) = (may, (no_pair, ys, inr (blank, m), k))
      blanked blank (may, (pair n v more, ys, (ns, zs, m, g, r), k)) = (may, (pair n v more, ys, (ns, zs, inr (blank, m), g, r), k))

      begun : (n ns : List ℕ) × Quoted n (b ∷ xs) ns × AfterName limits [] n frames t ns → Completes limits (first_name frames) t (b ∷ xs)
      begun (n, ns, q, (v, zs, g, (more, ys, m, k))) = (fits, (pair n v more, ys, (ns, zs, inl q, g, m), k))
  comes-step (name es frames) b xs formed fits =
      comes_cond limits (is_blank b) _ _ t xs _
      (λ blank. comes_some limits (name es frames) t xs _ (λ h. (h.0, h.1, inr (blank, h.2), h.3)))
      (λ _. comes_map (step_name es frames b) xs _ _ (λ h. (h.0, h.1, inl h.2, h.3)) (comes_name es frames b xs))
  comes-step (colon es n frames) b xs formed fits =
      comes_cond limits (is_blank b) _ _ t xs _
      (λ blank. comes_some limits (colon es n frames) t xs _ (λ h. (h.0, h.1, inr (blank, h.2), h.3)))
      (λ _. comes_cond limits (b == ascii.colon) _ _ t xs _
      (λ is. comes_some limits (value (in_table es n ∷ frames)) t xs _ (λ h. (h.0, h.1, inl (eqb-true b ascii.colon is, h.2), h.3)))
      (λ _. comes_none limits t xs _))
  comes-step (after_item ts frames) b xs formed fits = comes-after_item limits ts frames t b xs
  comes-step (after_member es frames) b xs formed fits = comes-after_member limits es frames t b xs
  comes-step (word [] v frames) b xs formed fits = comes_map (step_ended (ended frames v) b) xs (Closes limits frames v t (b ∷ xs)) _ (λ h. (b ∷ xs, refl, h)) (comes-ended limits frames v t b xs)
  comes-step (word (c ∷ cs) v frames) b xs formed fits =
      comes_cond limits (b == c) _ _ t xs _
      (λ is. comes_some limits (word cs v frames) t xs _ (λ h. (h.0, (eqb-true b c is, h.1), h.2)))
      (λ _. comes_none limits t xs _)
  comes-step (numeral phase n frames) b xs formed fits = comes-numeral limits frames t phase n b xs fits
  comes-step (characters role s w frames) b xs formed fits = comes-characters limits role s frames t w b xs formed
  comes-step (done v) b xs formed fits = comes-ended limits [] v t b xs
