-- The steps of a number: the machine goes on wherever the grammar does, and the other way round.
use Rattle.std.proofs.Common.{◌≡◌, ℕ, ◌+◌, ◌-◌, Bool, true, false, cond, List, [], ◌∷◌, length, Option, Some, None, refl, sym, ap, subst, ◌∙◌, inl, inr, ◌==◌, arith}
use Rattle.std.proofs.lemmas.Bool.{eqb-true}
use Rattle.std.proofs.lemmas.Bool.Decides.{nat_tests}
use Rattle.json_character.specs.Ascii as ascii
use Rattle.json_character.specs.Ascii.{is_digit, is_exponent_letter}
use Rattle.exact_json.specs.Grammar.{Fraction, Exponent, IsWhole}
use Rattle.exact_json.specs.Limits.{Limits}
use Rattle.json_value.specs.Machine.{Frame, State, numeral, counted, with_whole, with_fraction, with_exponent, with_minus, decimal_so_far, step_first_digit, step_end, step_letter, step_point, step_exponent, step_numeral}
use Rattle.exact_json.proofs.States.{Numeral, Phase, after_minus, after_zero, in_whole, after_point, in_fraction, after_letter, after_sign, in_exponent}
use Rattle.json_character.specs.Pieces.{Is, Digits}
use Rattle.json_value.specs.Tree.{Tree, number}
use Rattle.exact_decimal.specs.declared.decimal.Decimal.{Decimal}
use Rattle.exact_json.proofs.Ended.{comes_cond, comes_some, comes_none, goes_true, goes_false, goes-ended, comes-ended}
use Rattle.exact_json.proofs.Left.{Closes, Completes, Goes, Comes, finished, NumeralTo}
use Rattle.exact_json.proofs.Numbers.{along_letter, Closes-stops, finished-with_whole, finished-with_fraction, finished-with_exponent, finished-with_minus, finished-nil, one_more}

-- a digit that is not 0 has a value that is not
nonzero_digit : (b : ℕ) → is_digit b ≡ true → (b == ascii.zero_digit) ≡ false → (b - 48 == 0) ≡ false
nonzero_digit b digit not_zero = grind (arith, nat_tests)

module _ (limits : Limits) (frames : List Frame) (t : Tree) where
  -- what a number of so many bytes owes beside its bytes
  pub record Owes (d : Decimal) (k : ℕ) (xs ys : List ℕ) : Type 0 where
    pub reach : limits.may_reach (k + length xs) (length ys) ≡ true
    pub closes : Closes limits frames (number d) t ys

  next_owes : (d : Decimal) (k b : ℕ) (xs ys : List ℕ) → Owes d k (b ∷ xs) ys → Owes d (k + 1) xs ys
  next_owes d k b xs ys o = record { reach = subst (λ i. limits.may_reach i (length ys) ≡ true) (one_more k b xs) o.reach; closes = o.closes }

  last_owes : (d : Decimal) (k b : ℕ) (xs ys : List ℕ) → Owes d (k + 1) xs ys → Owes d k (b ∷ xs) ys
  last_owes d k b xs ys o = record { reach = subst (λ i. limits.may_reach i (length ys) ≡ true) (sym (one_more k b xs)) o.reach; closes = o.closes }

  -- the number goes on
  goes_numeral : (phase : Phase) (n : Numeral) (d : Decimal) (xs ys : List ℕ) → NumeralTo phase n d xs ys → Owes d n.length xs ys → Goes limits (Some (numeral phase n frames)) t xs
  goes_numeral phase n d xs ys h o = (numeral phase n frames, refl, (d, ys, h, o.reach, o.closes))

  pub FractionTo : Numeral → Decimal → List ℕ → List ℕ → Type 0
  FractionTo n d xs ys = (f : List ℕ) × (m : Bool) × (e : List ℕ) × Fraction f (Exponent m e (Is ys)) xs × (finished n [] f m e ≡ d)

  Exponent-stops : (m : Bool) (e : List ℕ) (d : Decimal) (b : ℕ) (xs ys : List ℕ) → Exponent m e (Is ys) (b ∷ xs) → Closes limits frames (number d) t ys → (is_digit b ≡ false) × ((b == ascii.point) ≡ false)
  Exponent-stops m [] d b xs ys h k =
      let s = Closes-stops limits frames (number d) t b xs (subst (λ z. Closes limits frames (number d) t z) (sym h.1) k) in
      (s.digit, s.point)
  Exponent-stops m (x ∷ e) d b xs ys h k = (along_letter is_digit false b h.0 refl refl, along_letter (λ c. c == ascii.point) false b h.0 refl refl)

  Fraction-stops : (f : List ℕ) (m : Bool) (e : List ℕ) (d : Decimal) (b : ℕ) (xs ys : List ℕ) → Fraction f (Exponent m e (Is ys)) (b ∷ xs) → Closes limits frames (number d) t ys → is_digit b ≡ false
  Fraction-stops [] m e d b xs ys h k = (Exponent-stops m e d b xs ys h k).0
  Fraction-stops (x ∷ f) m e d b xs ys h k = subst (λ c. is_digit c ≡ false) (sym h.0) refl

  -- the number ends before b
  goes_end : (n : Numeral) (d : Decimal) (b : ℕ) (xs ys : List ℕ) → (b ∷ xs) ≡ ys → finished n [] [] false [] ≡ d → Closes limits frames (number d) t ys → Goes limits (step_end n frames b) t xs
  goes_end n d b xs ys at is k =
      goes-ended limits frames (number (decimal_so_far n)) t b xs
      (subst (λ z. Closes limits frames (number (decimal_so_far n)) t z) (sym at) (subst (λ x. Closes limits frames (number x) t ys) (sym is ∙ finished-nil n) k))

  goes_letter : (n : Numeral) (d : Decimal) (b : ℕ) (xs ys : List ℕ) (m : Bool) (e : List ℕ) → Exponent m e (Is ys) (b ∷ xs) → finished n [] [] m e ≡ d → Owes d n.length (b ∷ xs) ys → Goes limits (step_letter n frames b) t xs
  goes_letter n d b xs ys m [] h is o =
      let s = Closes-stops limits frames (number d) t b xs (subst (λ z. Closes limits frames (number d) t z) (sym h.1) o.closes) in
      goes_false limits _ _ _ t xs s.letter (goes_end n d b xs ys h.1 (subst (λ c. finished n [] [] c [] ≡ d) h.0 is) o.closes)
  goes_letter n d b xs ys m (x ∷ e) h is o =
      goes_true limits _ _ _ t xs h.0 (goes_numeral after_letter (counted n) d xs ys (m, x, e, h.1, is) (next_owes d n.length b xs ys o))

  goes_point : (n : Numeral) (d : Decimal) (b : ℕ) (xs ys f : List ℕ) (m : Bool) (e : List ℕ) → Fraction f (Exponent m e (Is ys)) (b ∷ xs) → finished n [] f m e ≡ d → Owes d n.length (b ∷ xs) ys → Goes limits (step_point n frames b) t xs
  goes_point n d b xs ys [] m e h is o = goes_false limits _ _ _ t xs (Exponent-stops m e d b xs ys h o.closes).1 (goes_letter n d b xs ys m e h is o)
  goes_point n d b xs ys (x ∷ f) m e h is o =
      subst (λ c. Goes limits (step_point n frames c) t xs) (sym h.0)
      (goes_numeral after_point (counted n) d xs ys (x, f, m, e, h.1, is) (next_owes d n.length b xs ys o))

  -- the first digit of a number that has no digit yet
  pub goes_first : (n : Numeral) (d : Decimal) (b : ℕ) (xs ys w f : List ℕ) (m : Bool) (e : List ℕ) → IsWhole w → Digits w (Fraction f (Exponent m e (Is ys))) (b ∷ xs) → finished n w f m e ≡ d → Owes d n.length (b ∷ xs) ys → (is_digit b ≡ true) × Goes limits (step_first_digit n frames b) t xs
  goes_first n d b xs ys [] f m e whole h is o = absurd whole
  goes_first n d b xs ys (x ∷ w) f m e whole h is o = (h.0, by (b == ascii.zero_digit) refl w whole h.2 (finished-with_whole n b w f m e ∙ (ap (λ c. finished n (c ∷ w) f m e) h.1 ∙ is)))
    where
      by : (c : Bool) → (b == ascii.zero_digit) ≡ c → (w : List ℕ) → IsWhole (x ∷ w) → Digits w (Fraction f (Exponent m e (Is ys))) xs → finished (with_whole n b) w f m e ≡ d → Goes limits (Some (numeral (cond c after_zero in_whole) (with_whole n b) frames)) t xs
      by true zero [] whole digits is = goes_numeral after_zero (with_whole n b) d xs ys (f, m, e, digits, is) (next_owes d n.length b xs ys o)
      by true zero (y ∷ w) whole digits is =
          let is_zero : x ≡ 0 = sym h.1 ∙ ap (λ c. c - 48) (eqb-true b ascii.zero_digit zero) in
          let not_zero : (0 == 0) ≡ false = subst (λ c. (c == 0) ≡ false) is_zero whole in
          absurd (cc)
      by false not_zero w whole digits is = goes_numeral in_whole (with_whole n b) d xs ys (w, f, m, e, digits, is) (next_owes d n.length b xs ys o)

  goes_exponent : (n : Numeral) (d : Decimal) (b : ℕ) (otherwise : Option State) (x : ℕ) (e xs ys : List ℕ) → Digits (x ∷ e) (Is ys) (b ∷ xs) → finished n [] [] false (x ∷ e) ≡ d → Owes d n.length (b ∷ xs) ys → Goes limits (step_exponent n frames b otherwise) t xs
  goes_exponent n d b otherwise x e xs ys h is o =
      goes_true limits _ _ _ t xs h.0
      (goes_numeral in_exponent (with_exponent n b) d xs ys (e, h.2, finished-with_exponent n b e ∙ (ap (λ c. finished n [] [] false (c ∷ e)) h.1 ∙ is)) (next_owes d n.length b xs ys o))

  goes_step : (phase : Phase) (n : Numeral) (d : Decimal) (b : ℕ) (xs ys : List ℕ) → NumeralTo phase n d (b ∷ xs) ys → Owes d n.length (b ∷ xs) ys → Goes limits (step_numeral phase n frames b) t xs
  goes_step after_minus n d b xs ys (w, f, m, e, whole, h, is) o =
      let first = goes_first n d b xs ys w f m e whole h is o in
      goes_true limits _ _ _ t xs first.0 first.1
  goes_step after_zero n d b xs ys (f, m, e, h, is) o = goes_point n d b xs ys f m e h is o
  goes_step in_whole n d b xs ys ([], f, m, e, h, is) o = goes_false limits _ _ _ t xs (Fraction-stops f m e d b xs ys h o.closes) (goes_point n d b xs ys f m e h is o)
  goes_step in_whole n d b xs ys (x ∷ w, f, m, e, h, is) o =
      goes_true limits _ _ _ t xs h.0
      (goes_numeral in_whole (with_whole n b) d xs ys (w, f, m, e, h.2, finished-with_whole n b w f m e ∙ (ap (λ c. finished n (c ∷ w) f m e) h.1 ∙ is)) (next_owes d n.length b xs ys o))
  goes_step after_point n d b xs ys (x, f, m, e, h, is) o =
      goes_true limits _ _ _ t xs h.0
      (goes_numeral in_fraction (with_fraction n b) d xs ys (f, m, e, h.2, finished-with_fraction n b f m e ∙ (ap (λ c. finished n [] (c ∷ f) m e) h.1 ∙ is)) (next_owes d n.length b xs ys o))
  goes_step in_fraction n d b xs ys ([], m, e, h, is) o = goes_false limits _ _ _ t xs (Exponent-stops m e d b xs ys h o.closes).0 (goes_letter n d b xs ys m e h is o)
  goes_step in_fraction n d b xs ys (x ∷ f, m, e, h, is) o =
      goes_true limits _ _ _ t xs h.0
      (goes_numeral in_fraction (with_fraction n b) d xs ys (f, m, e, h.2, finished-with_fraction n b f m e ∙ (ap (λ c. finished n [] (c ∷ f) m e) h.1 ∙ is)) (next_owes d n.length b xs ys o))
  goes_step after_letter n d b xs ys (true, x, e, h, is) o =
      subst (λ c. Goes limits (step_numeral after_letter n frames c) t xs) (sym h.0)
      (goes_numeral after_sign (with_minus n) d xs ys (x, e, h.1, finished-with_minus n (x ∷ e) ∙ is) (next_owes d n.length b xs ys o))
  goes_step after_letter n d b xs ys (false, x, e, inl h, is) o =
      subst (λ c. Goes limits (step_numeral after_letter n frames c) t xs) (sym h.0)
      (goes_numeral after_sign (counted n) d xs ys (x, e, h.1, is) (next_owes d n.length b xs ys o))
  goes_step after_letter n d b xs ys (false, x, e, inr h, is) o =
      goes_false limits _ _ _ t xs (digit_not ascii.plus refl) (goes_false limits _ _ _ t xs (digit_not ascii.minus refl) (goes_exponent n d b None x e xs ys h is o))
    where
      digit_not : (k : ℕ) → is_digit k ≡ false → (b == k) ≡ false
      digit_not k other = by (b == k) refl
        where
          by : (c : Bool) → (b == k) ≡ c → c ≡ false
          by false e = refl
          by true e = absurd (let same : b ≡ k = eqb-true b k e in let no : is_digit k ≡ true = subst (λ c. is_digit c ≡ true) same h.0 in cc)
  goes_step after_sign n d b xs ys (x, e, h, is) o = goes_exponent n d b None x e xs ys h is o
  goes_step in_exponent n d b xs ys ([], h, is) o =
      let s = Closes-stops limits frames (number d) t b xs (subst (λ z. Closes limits frames (number d) t z) (sym h) o.closes) in
      goes_false limits _ _ _ t xs s.digit (goes_end n d b xs ys h is o.closes)
  goes_step in_exponent n d b xs ys (x ∷ e, h, is) o = goes_exponent n d b (step_end n frames b) x e xs ys h is o

  pub goes-numeral : (phase : Phase) (n : Numeral) (b : ℕ) (xs : List ℕ) → Completes limits (numeral phase n frames) t (b ∷ xs) → Goes limits (step_numeral phase n frames b) t xs
  goes-numeral phase n b xs (d, ys, h, reach, closes) = goes_step phase n d b xs ys h (record { reach = reach; closes = closes })

  -- the grammar goes on

  LetterLeft : Numeral → List ℕ → Type 0
  LetterLeft n xs = (d : Decimal) × (ys : List ℕ) × (m : Bool) × (e : List ℕ) × Exponent m e (Is ys) xs × (finished n [] [] m e ≡ d) × Owes d n.length xs ys

  PointLeft : Numeral → List ℕ → Type 0
  PointLeft n xs = (d : Decimal) × (ys f : List ℕ) × (m : Bool) × (e : List ℕ) × Fraction f (Exponent m e (Is ys)) xs × (finished n [] f m e ≡ d) × Owes d n.length xs ys

  -- a number so far that may end here
  unfoldable pub MayEnd : Numeral → Type 0
  MayEnd n = (k : ℕ) → limits.may_reach (n.length + k) k ≡ true

  comes_left : (phase : Phase) (n : Numeral) (xs : List ℕ) (G : Type 0) → ((d : Decimal) (ys : List ℕ) → NumeralTo phase n d xs ys → Owes d n.length xs ys → G) → Comes limits (Some (numeral phase n frames)) t xs G
  comes_left phase n xs G f = comes_some limits (numeral phase n frames) t xs G (λ h. f h.0 h.1 h.2 (record { reach = h.3; closes = h.4 }))

  comes_map : (o : Option State) (xs : List ℕ) (A B : Type 0) → (A → B) → Comes limits o t xs A → Comes limits o t xs B
  comes_map o xs A B f g n e h = f (g n e h)

  comes_ended : (n : Numeral) (b : ℕ) (xs : List ℕ) (G : Type 0) → MayEnd n → (Owes (decimal_so_far n) n.length (b ∷ xs) (b ∷ xs) → G) → Comes limits (step_end n frames b) t xs G
  unfolding MayEnd
  comes_ended n b xs G may f =
      comes_map (step_end n frames b) xs (Closes limits frames (number (decimal_so_far n)) t (b ∷ xs)) G
      (λ h. f (record { reach = may (length (b ∷ xs)); closes = h }))
      (comes-ended limits frames (number (decimal_so_far n)) t b xs)

  comes_end : (n : Numeral) (b : ℕ) (xs : List ℕ) → MayEnd n → Comes limits (step_end n frames b) t xs (LetterLeft n (b ∷ xs))
  unfolding LetterLeft
  comes_end n b xs may = comes_ended n b xs _ may (λ o. (decimal_so_far n, b ∷ xs, false, [], (refl, refl), finished-nil n, o))

  comes_letter : (n : Numeral) (b : ℕ) (xs : List ℕ) → MayEnd n → Comes limits (step_letter n frames b) t xs (LetterLeft n (b ∷ xs))
  unfolding LetterLeft
  comes_letter n b xs may =
      comes_cond limits (is_exponent_letter b) _ _ t xs _
      (λ letter. comes_left after_letter (counted n) xs _ (λ d ys h o. (d, ys, h.0, h.1 ∷ h.2, (letter, h.3), h.4, last_owes d n.length b xs ys o)))
      (λ _. comes_end n b xs may)

  comes_point : (n : Numeral) (b : ℕ) (xs : List ℕ) → MayEnd n → Comes limits (step_point n frames b) t xs (PointLeft n (b ∷ xs))
  unfolding PointLeft LetterLeft
  comes_point n b xs may =
      comes_cond limits (b == ascii.point) _ _ t xs _
      (λ point. comes_left after_point (counted n) xs _ (λ d ys h o. (d, ys, h.0 ∷ h.1, h.2, h.3, (eqb-true b ascii.point point, h.4), h.5, last_owes d n.length b xs ys o)))
      (λ _. comes_map (step_letter n frames b) xs (LetterLeft n (b ∷ xs)) _ (λ h. (h.0, h.1, [], h.2, h.3, h.4, h.5, h.6)) (comes_letter n b xs may))

  -- a first digit and the rest of its number
  pub comes_first : (n : Numeral) (b : ℕ) (xs : List ℕ) → is_digit b ≡ true → Comes limits (step_first_digit n frames b) t xs ((d : Decimal) × (ys : List ℕ) × NumeralTo after_minus n d (b ∷ xs) ys × Owes d n.length (b ∷ xs) ys)
  comes_first n b xs digit = by (b == ascii.zero_digit) refl
    where
      by : (c : Bool) → (b == ascii.zero_digit) ≡ c → Comes limits (Some (numeral (cond c after_zero in_whole) (with_whole n b) frames)) t xs ((d : Decimal) × (ys : List ℕ) × NumeralTo after_minus n d (b ∷ xs) ys × Owes d n.length (b ∷ xs) ys)
      by true zero = comes_left after_zero (with_whole n b) xs _ (λ d ys h o. (d, ys, ((b - 48) ∷ [], h.0, h.1, h.2, tt, (digit, refl, h.3), sym (finished-with_whole n b [] h.0 h.1 h.2) ∙ h.4), last_owes d n.length b xs ys o))
      by false not_zero = comes_left in_whole (with_whole n b) xs _ (λ d ys h o. (d, ys, ((b - 48) ∷ h.0, h.1, h.2, h.3, whole h.0, (digit, refl, h.4), sym (finished-with_whole n b h.0 h.1 h.2 h.3) ∙ h.5), last_owes d n.length b xs ys o))
        where
          whole : (w : List ℕ) → IsWhole ((b - 48) ∷ w)
          whole [] = tt
          whole (x ∷ w) = nonzero_digit b digit not_zero

  comes_exponent : (n : Numeral) (b : ℕ) (xs : List ℕ) (otherwise : Option State) (G : Type 0) → ((d : Decimal) (x : ℕ) (e ys : List ℕ) → Digits (x ∷ e) (Is ys) (b ∷ xs) → finished n [] [] false (x ∷ e) ≡ d → Owes d n.length (b ∷ xs) ys → G) → Comes limits otherwise t xs G → Comes limits (step_exponent n frames b otherwise) t xs G
  comes_exponent n b xs otherwise G f g =
      comes_cond limits (is_digit b) _ _ t xs G
      (λ digit. comes_left in_exponent (with_exponent n b) xs G (λ d ys h o. f d (b - 48) h.0 ys (digit, refl, h.1) (sym (finished-with_exponent n b h.0) ∙ h.2) (last_owes d n.length b xs ys o)))
      (λ _. g)

  Left : Phase → Numeral → List ℕ → Type 0
  Left phase n xs = (d : Decimal) × (ys : List ℕ) × NumeralTo phase n d xs ys × Owes d n.length xs ys

  comes_step : (phase : Phase) (n : Numeral) (b : ℕ) (xs : List ℕ) → MayEnd n → Comes limits (step_numeral phase n frames b) t xs (Left phase n (b ∷ xs))
  unfolding Left LetterLeft PointLeft
  comes_step after_minus n b xs may = comes_cond limits (is_digit b) _ _ t xs _ (λ digit. comes_first n b xs digit) (λ _. comes_none limits t xs _)
  comes_step after_zero n b xs may = comes_map (step_point n frames b) xs (PointLeft n (b ∷ xs)) _ (λ h. (h.0, h.1, (h.2, h.3, h.4, h.5, h.6), h.7)) (comes_point n b xs may)
  comes_step in_whole n b xs may =
      comes_cond limits (is_digit b) _ _ t xs _
      (λ digit. comes_left in_whole (with_whole n b) xs _ (λ d ys h o. (d, ys, ((b - 48) ∷ h.0, h.1, h.2, h.3, (digit, refl, h.4), sym (finished-with_whole n b h.0 h.1 h.2 h.3) ∙ h.5), last_owes d n.length b xs ys o)))
      (λ _. comes_map (step_point n frames b) xs (PointLeft n (b ∷ xs)) _ (λ h. (h.0, h.1, ([], h.2, h.3, h.4, h.5, h.6), h.7)) (comes_point n b xs may))
  comes_step after_point n b xs may =
      comes_cond limits (is_digit b) _ _ t xs _
      (λ digit. comes_left in_fraction (with_fraction n b) xs _ (λ d ys h o. (d, ys, (b - 48, h.0, h.1, h.2, (digit, refl, h.3), sym (finished-with_fraction n b h.0 h.1 h.2) ∙ h.4), last_owes d n.length b xs ys o)))
      (λ _. comes_none limits t xs _)
  comes_step in_fraction n b xs may =
      comes_cond limits (is_digit b) _ _ t xs _
      (λ digit. comes_left in_fraction (with_fraction n b) xs _ (λ d ys h o. (d, ys, ((b - 48) ∷ h.0, h.1, h.2, (digit, refl, h.3), sym (finished-with_fraction n b h.0 h.1 h.2) ∙ h.4), last_owes d n.length b xs ys o)))
      (λ _. comes_map (step_letter n frames b) xs (LetterLeft n (b ∷ xs)) _ (λ h. (h.0, h.1, ([], h.2, h.3, h.4, h.5), h.6)) (comes_letter n b xs may))
  comes_step after_letter n b xs may =
      comes_cond limits (b == ascii.plus) _ _ t xs _
      (λ plus. comes_left after_sign (counted n) xs _ (λ d ys h o. (d, ys, (false, h.0, h.1, inl (eqb-true b ascii.plus plus, h.2), h.3), last_owes d n.length b xs ys o)))
      (λ _. comes_cond limits (b == ascii.minus) _ _ t xs _
      (λ minus. comes_left after_sign (with_minus n) xs _ (λ d ys h o. (d, ys, (true, h.0, h.1, (eqb-true b ascii.minus minus, h.2), sym (finished-with_minus n (h.0 ∷ h.1)) ∙ h.3), last_owes d n.length b xs ys o)))
      (λ _. comes_exponent n b xs None _ (λ d x e ys h is o. (d, ys, (false, x, e, inr h, is), o)) (comes_none limits t xs _)))
  comes_step after_sign n b xs may = comes_exponent n b xs None _ (λ d x e ys h is o. (d, ys, (x, e, h, is), o)) (comes_none limits t xs _)
  comes_step in_exponent n b xs may =
      comes_exponent n b xs (step_end n frames b) _ (λ d x e ys h is o. (d, ys, (x ∷ e, h, is), o))
      (comes_ended n b xs _ may (λ o. (decimal_so_far n, b ∷ xs, ([], refl, finished-nil n), o)))

  pub comes-numeral : (phase : Phase) (n : Numeral) (b : ℕ) (xs : List ℕ) → MayEnd n → Comes limits (step_numeral phase n frames b) t xs (Completes limits (numeral phase n frames) t (b ∷ xs))
  unfolding Left
  comes-numeral phase n b xs may = comes_map (step_numeral phase n frames b) xs (Left phase n (b ∷ xs)) _ (λ h. (h.0, h.1, h.2, h.3.reach, h.3.closes)) (comes_step phase n b xs may)
