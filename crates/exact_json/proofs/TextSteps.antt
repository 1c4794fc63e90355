-- The steps of a text.
use Rattle.std.proofs.Common.{◌≡◌, ℕ, true, false, List, [], ◌∷◌, ◌++◌, refl, sym, ap, subst, ◌∙◌, inl, inr, ◌==◌, append_assoc, append-nil, not, arith, ◌&&◌, nat_le}
use Rattle.std.proofs.lemmas.Bool.{eqb-true, and_parts}
use Rattle.std.specs.Char.{encode_utf8}
use Rattle.std.specs.Str.{encode_utf8_all}
use lib.Utf8.{scalar}
use Rattle.json_character.specs.Ascii as ascii
use Rattle.exact_json.specs.Limits.{Limits}
use Rattle.json_value.specs.Machine.{Frame, Role, as_value, as_name, characters, ended_text, step_outcome, step_characters}
use Rattle.exact_json.proofs.States.{Within, plain, escape, unit, high, high_escape, low, tail, Outcome, goes_on, ends, refused}
use Rattle.json_character.specs.Pieces.{Is, Byte}
use Rattle.json_character.specs.Texts.{Character, Characters}
use Rattle.json_value.specs.Tree.{Tree, text}
use Rattle.json_character.specs.Within.{after_byte, is_begun}
use Rattle.json_character.proofs.CharacterSteps.{word_not, leads_byte, led_byte, LeadsBegun, leads_begun, is_inside, NoQuote}
use Rattle.json_character.proofs.Characters.{Leads}
use Rattle.exact_json.proofs.Ended.{comes_cond, comes_some, comes_none, goes_false, ended-Closes, Closes-ended}
use Rattle.json_character.proofs.CharacterRests.{CharacterRest}
use Rattle.exact_json.proofs.Left.{ClosesText, CharactersTo, Completes, Goes, Comes}

module _ (limits : Limits) (role : Role) (s : List ℕ) (frames : List Frame) (t : Tree) where
  pub Rest : List ℕ → List ℕ → List ℕ → Type 0
  Rest cs ys xs = Characters cs (Byte ascii.quote (Is ys)) xs

  to_part : (w : Within) (c : ℕ) (cs xs ys : List ℕ) → CharacterRest w c (Rest cs ys) xs → ClosesText limits role (s ++ encode_utf8_all (c ∷ cs)) frames t ys → CharactersTo limits role s w frames t xs
  unfolding Rest
  to_part plain c cs xs ys h k = (c ∷ cs, ys, h, k)
  to_part escape c cs xs ys h k = (c, cs, ys, h, k)
  to_part (unit n v) c cs xs ys h k = (c, cs, ys, h, k)
  to_part (high u) c cs xs ys h k = (c, cs, ys, h, k)
  to_part (high_escape u) c cs xs ys h k = (c, cs, ys, h, k)
  to_part (low n v u) c cs xs ys h k = (c, cs, ys, h, k)
  to_part (tail least n v) c cs xs ys h k = (c, cs, ys, h, k)

  from_part : (w : Within) (xs : List ℕ) (G : Type 0) → is_inside w ≡ true → ((c : ℕ) (cs ys : List ℕ) → CharacterRest w c (Rest cs ys) xs → ClosesText limits role (s ++ encode_utf8_all (c ∷ cs)) frames t ys → G) → CharactersTo limits role s w frames t xs → G
  unfolding Rest
  from_part plain xs G inside f h = absurd (cc)
  from_part escape xs G inside f (c, cs, ys, h, k) = f c cs ys h k
  from_part (unit n v) xs G inside f (c, cs, ys, h, k) = f c cs ys h k
  from_part (high u) xs G inside f (c, cs, ys, h, k) = f c cs ys h k
  from_part (high_escape u) xs G inside f (c, cs, ys, h, k) = f c cs ys h k
  from_part (low n v u) xs G inside f (c, cs, ys, h, k) = f c cs ys h k
  from_part (tail least n v) xs G inside f (c, cs, ys, h, k) = f c cs ys h k

  regroup : (d : ℕ) (cs : List ℕ) → (s ++ encode_utf8 d) ++ encode_utf8_all cs ≡ s ++ encode_utf8_all (d ∷ cs)
  regroup d cs = append_assoc s (encode_utf8 d) (encode_utf8_all cs)

  outcome_goes : (o : Outcome) (c : ℕ) (cs xs ys : List ℕ) → Leads o c (Rest cs ys) xs → ClosesText limits role (s ++ encode_utf8_all (c ∷ cs)) frames t ys → Goes limits (step_outcome role s frames o) t xs
  unfolding Rest
  outcome_goes (goes_on w) c cs xs ys h k = (characters role s w frames, refl, to_part w c cs xs ys h k)
  outcome_goes (ends d) c cs xs ys h k = (
    characters role (s ++ encode_utf8 d) plain frames,
    refl,
    (cs, ys, h.1, subst (λ z. ClosesText limits role z frames t ys) (ap (λ x. s ++ encode_utf8_all (x ∷ cs)) (sym h.0) ∙ sym (regroup d cs)) k),
  )
  outcome_goes refused c cs xs ys h k = absurd h

  outcome_comes : (o : Outcome) (xs : List ℕ) (G : Type 0) → LeadsBegun o → ((c : ℕ) (cs ys : List ℕ) → Leads o c (Rest cs ys) xs → ClosesText limits role (s ++ encode_utf8_all (c ∷ cs)) frames t ys → G) → Comes limits (step_outcome role s frames o) t xs G
  unfolding Rest
  outcome_comes (goes_on w) xs G begun f = comes_some limits (characters role s w frames) t xs G (from_part w xs G begun.1 f)
  outcome_comes (ends d) xs G begun f =
      comes_some limits (characters role (s ++ encode_utf8 d) plain frames) t xs G
      (λ h. f d h.0 h.1 (refl, h.2) (subst (λ z. ClosesText limits role z frames t h.1) (regroup d h.0) h.3))
  outcome_comes refused xs G begun f = comes_none limits t xs G

  closes_text : (role : Role) (s : List ℕ) (xs : List ℕ) → ClosesText limits role s frames t xs → Completes limits (ended_text role s frames) t xs
  closes_text as_value s xs h = ended-Closes limits frames (text s) t xs h
  closes_text (as_name es) s xs h = h

  closed_text : (role : Role) (s : List ℕ) (xs : List ℕ) → Completes limits (ended_text role s frames) t xs → ClosesText limits role s frames t xs
  closed_text as_value s xs h = Closes-ended limits frames (text s) t xs h
  closed_text (as_name es) s xs h = h

  character_no_quote : (c : ℕ) (K : List ℕ → Type 0) (b : ℕ) (xs : List ℕ) → Character c K (b ∷ xs) → (b == ascii.quote) ≡ false
  character_no_quote c K b xs (inl (is, h)) =
      let more = and_parts (nat_le 0x20 c) (not (c == ascii.quote) && not (c == ascii.backslash)) (and_parts (scalar c) (nat_le 0x20 c && (not (c == ascii.quote) && not (c == ascii.backslash))) is).1 in
      word_not ascii.quote c K b xs (omega arith) (and_parts (not (c == ascii.quote)) (not (c == ascii.backslash)) more.1).0 h
  character_no_quote c K b xs (inr h) = subst (λ x. (x == ascii.quote) ≡ false) (sym h.0) refl

  goes_part : (w : Within) (b : ℕ) (xs : List ℕ) → is_begun w ≡ true → is_inside w ≡ true → CharactersTo limits role s w frames t (b ∷ xs) → Goes limits (step_outcome role s frames (after_byte w b)) t xs
  unfolding Rest
  goes_part w b xs begun inside = from_part w (b ∷ xs) _ inside (λ c cs ys h k. outcome_goes (after_byte w b) c cs xs ys (leads_byte w c (Rest cs ys) b xs begun h) k)

  pub goes-characters : (w : Within) (b : ℕ) (xs : List ℕ) → is_begun w ≡ true → CharactersTo limits role s w frames t (b ∷ xs) → Goes limits (step_characters role s w frames b) t xs
  unfolding Rest
  goes-characters plain b xs begun ([], ys, h, k) =
      let left : ClosesText limits role s frames t xs = subst (λ z. ClosesText limits role z frames t xs) (append-nil s) (subst (λ z. ClosesText limits role (s ++ []) frames t z) (sym h.1) k) in
      subst (λ x. Goes limits (step_characters role s plain frames x) t xs) (sym h.0) (ended_text role s frames, refl, closes_text role s xs left)
  goes-characters plain b xs begun (c ∷ cs, ys, h, k) =
      goes_false limits _ _ _ t xs (character_no_quote c (Rest cs ys) b xs h) (outcome_goes (after_byte plain b) c cs xs ys (leads_byte plain c (Rest cs ys) b xs begun h) k)
  goes-characters escape b xs begun h = goes_part escape b xs begun refl h
  goes-characters (unit n v) b xs begun h = goes_part (unit n v) b xs begun refl h
  goes-characters (high u) b xs begun h = goes_part (high u) b xs begun refl h
  goes-characters (high_escape u) b xs begun h = goes_part (high_escape u) b xs begun refl h
  goes-characters (low n v u) b xs begun h = goes_part (low n v u) b xs begun refl h
  goes-characters (tail least n v) b xs begun h = goes_part (tail least n v) b xs begun refl h

  comes_part : (w : Within) (b : ℕ) (xs : List ℕ) → is_begun w ≡ true → NoQuote w b → Comes limits (step_outcome role s frames (after_byte w b)) t xs (CharactersTo limits role s w frames t (b ∷ xs))
  unfolding Rest
  comes_part w b xs begun no_quote = outcome_comes (after_byte w b) xs _ (leads_begun w b begun) (λ c cs ys h k. to_part w c cs (b ∷ xs) ys (led_byte w c (Rest cs ys) b xs no_quote begun h) k)

  pub comes-characters : (w : Within) (b : ℕ) (xs : List ℕ) → is_begun w ≡ true → Comes limits (step_characters role s w frames b) t xs (CharactersTo limits role s w frames t (b ∷ xs))
  comes-characters plain b xs begun =
      comes_cond limits (b == ascii.quote) _ _ t xs _
      (λ is. comes_some limits (ended_text role s frames) t xs _ (λ h. ([], xs, (eqb-true b ascii.quote is, refl), subst (λ z. ClosesText limits role z frames t xs) (sym (append-nil s)) (closed_text role s xs h))))
      (λ is_not. comes_part plain b xs begun is_not)
  comes-characters escape b xs begun = comes_part escape b xs begun tt
  comes-characters (unit n v) b xs begun = comes_part (unit n v) b xs begun tt
  comes-characters (high u) b xs begun = comes_part (high u) b xs begun tt
  comes-characters (high_escape u) b xs begun = comes_part (high_escape u) b xs begun tt
  comes-characters (low n v u) b xs begun = comes_part (low n v u) b xs begun tt
  comes-characters (tail least n v) b xs begun = comes_part (tail least n v) b xs begun tt
