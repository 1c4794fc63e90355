-- A byte within a character: it leads on wherever a character may be left, and the other way round.
use Rattle.std.proofs.Common.{◌≡◌, ℕ, zero, suc, ◌+◌, ◌-◌, ◌*◌, ◌/◌, ◌%◌, ◌^◌, ◌<◌, ◌≤◌, Bool, true, false, cond, ◌&&◌, List, [], ◌∷◌, Option, Some, None, refl, sym, ap, subst, ◌∙◌, ◌⊎◌, inl, inr, ◌==◌, arith, nat_lt, nat_le, not, max}
use Rattle.std.proofs.lemmas.Bool.{eqb-true, and_parts, and_from, ltb-true, leb-true, ltb-false, lt-ltb, le-leb}
use Rattle.std.proofs.lemmas.Bool.Decides.{nat_tests}
use Rattle.std.specs.Char.{digit_value, encode_utf8}
use Rattle.std.specs.Char as char
use lib.Utf8.{scalar, next}
use Rattle.json_character.specs.Ascii as ascii
use Rattle.json_character.specs.Pieces.{Word, HexDigits}
use Rattle.json_character.specs.Texts.{is_plain, short_escape, is_high_surrogate, is_low_surrogate, paired, Short, LowHalf, Unit16, Escape, Character}
use Rattle.json_character.specs.Within.{Within, plain, escape, unit, high, high_escape, low, tail, Outcome, goes_on, ends, refused, above_16, above_64, is_unit_begun, is_low_begun, is_tail_begun, is_begun, checked, after_unit, after_low, after_tail, after_short, after_lead, after_byte}
use Rattle.json_character.proofs.CharacterRests.{TailBytes, IsFrom, CharacterRest}
use Rattle.json_character.proofs.Characters.{Leads, leads_true, leads_false, led_cond, leads_unit, leads_low, leads_tail, digit_16}

-- UTF-8 by the number of bytes.

is_true : {A : Type 0} (t : Bool) (x y : A) → t ≡ true → cond t x y ≡ x
is_true t x y e = ap (λ b. cond b x y) e

is_false : {A : Type 0} (t : Bool) (x y : A) → t ≡ false → cond t x y ≡ y
is_false t x y e = ap (λ b. cond b x y) e

not_below : (a b : ℕ) → b ≤ a → nat_lt a b ≡ false
not_below a b h = grind (arith, nat_tests)

encode_1 : (c : ℕ) → c < 0x80 → encode_utf8 c ≡ c ∷ []
unfolding encode_utf8
encode_1 c h = is_true (nat_lt c 0x80) _ _ (lt-ltb c 0x80 h)

encode_2 : (c : ℕ) → 0x80 ≤ c → c < 0x800 → encode_utf8 c ≡ (192 + c / 64) ∷ next c ∷ []
unfolding encode_utf8
encode_2 c l h = is_false (nat_lt c 0x80) _ _ (not_below c 0x80 l) ∙ is_true (nat_lt c 0x800) _ _ (lt-ltb c 0x800 h)

encode_3 : (c : ℕ) → 0x800 ≤ c → c < 0x1_0000 → encode_utf8 c ≡ (224 + c / 4096) ∷ next (c / 64) ∷ next c ∷ []
unfolding encode_utf8
encode_3 c l h =
    let l1 : 0x80 ≤ c = omega arith in
    is_false (nat_lt c 0x80) _ _ (not_below c 0x80 l1) ∙ (is_false (nat_lt c 0x800) _ _ (not_below c 0x800 l) ∙ is_true (nat_lt c 0x1_0000) _ _ (lt-ltb c 0x1_0000 h))

encode_4 : (c : ℕ) → 0x1_0000 ≤ c → encode_utf8 c ≡ (240 + c / 262144) ∷ next (c / 4096) ∷ next (c / 64) ∷ next c ∷ []
unfolding encode_utf8
encode_4 c l =
    let l1 : 0x80 ≤ c = omega arith in
    let l2 : 0x800 ≤ c = omega arith in
    is_false (nat_lt c 0x80) _ _ (not_below c 0x80 l1) ∙ (is_false (nat_lt c 0x800) _ _ (not_below c 0x800 l2) ∙ is_false (nat_lt c 0x1_0000) _ _ (not_below c 0x1_0000 l))

by_size : (c : ℕ) → (c < 0x80) ⊎ (((0x80 ≤ c) × (c < 0x800)) ⊎ (((0x800 ≤ c) × (c < 0x1_0000)) ⊎ (0x1_0000 ≤ c)))
by_size c = grind arith

module _ (c : ℕ) (K : List ℕ → Type 0) (least : ℕ) (from : least ≤ c) (is_char : scalar c ≡ true) where
  tail_1 : (v : ℕ) (xs : List ℕ) → v ≡ c / 64 → Word (next c ∷ []) K xs → TailBytes 1 v (IsFrom least c K) xs
  tail_1 v [] e h = absurd h
  tail_1 v (x ∷ xs) e h = let is : x ≡ 128 + c % 64 = h.0 in (omega arith, omega arith, (omega arith, from, is_char, h.1))

  tail_2 : (v : ℕ) (xs : List ℕ) → v ≡ c / 4096 → Word (next (c / 64) ∷ next c ∷ []) K xs → TailBytes 2 v (IsFrom least c K) xs
  tail_2 v [] e h = absurd h
  tail_2 v (x ∷ xs) e h = let is : x ≡ 128 + (c / 64) % 64 = h.0 in (omega arith, omega arith, tail_1 (64 * v + (x - 128)) xs (omega arith) h.1)

  tail_3 : (v : ℕ) (xs : List ℕ) → v ≡ c / 262144 → Word (next (c / 4096) ∷ next (c / 64) ∷ next c ∷ []) K xs → TailBytes 3 v (IsFrom least c K) xs
  tail_3 v [] e h = absurd h
  tail_3 v (x ∷ xs) e h = let is : x ≡ 128 + (c / 4096) % 64 = h.0 in (omega arith, omega arith, tail_2 (64 * v + (x - 128)) xs (omega arith) h.1)

utf8_leads : (c : ℕ) (K : List ℕ → Type 0) (b : ℕ) (xs : List ℕ) → scalar c ≡ true → 0x20 ≤ c → Word (encode_utf8 c) K (b ∷ xs) → Leads (after_lead b) c K xs
utf8_leads c K b xs is_char control h = by (by_size c)
  where
    lead : (bytes : List ℕ) → encode_utf8 c ≡ bytes → Word bytes K (b ∷ xs)
    lead bytes e = subst (λ bs. Word bs K (b ∷ xs)) e h

    by : (c < 0x80) ⊎ (((0x80 ≤ c) × (c < 0x800)) ⊎ (((0x800 ≤ c) × (c < 0x1_0000)) ⊎ (0x1_0000 ≤ c))) → Leads (after_lead b) c K xs
    by (inl small) =
        let w = lead (c ∷ []) (encode_1 c small) in
        let same : b ≡ c = w.0 in
        let h1 : b < 0x80 = omega arith in
        let h2 : 0x20 ≤ b = omega arith in
        leads_true c K xs _ _ _ (lt-ltb b 0x80 h1) (leads_false c K xs _ _ _ (not_below b 0x20 h2) (same, w.1))
    by (inr (inl r)) =
        let w = lead _ (encode_2 c r.0 r.1) in
        let same : b ≡ 192 + c / 64 = w.0 in
        let low : 0x80 ≤ c = r.0 in
        let high : c < 0x800 = r.1 in
        let h1 : 0x80 ≤ b = omega arith in
        let h2 : 0xC0 ≤ b = omega arith in
        let h3 : b < 0xE0 = omega arith in
        let v : b - 0xC0 ≡ c / 64 = omega arith in
        leads_false c K xs _ _ _ (not_below b 0x80 h1) (leads_false c K xs _ _ _ (not_below b 0xC0 h2) (leads_true c K xs _ _ _ (lt-ltb b 0xE0 h3)
        (leads_tail c K 0x80 1 (b - 0xC0) xs (omega arith) refl (tail_1 c K 0x80 r.0 is_char (b - 0xC0) xs v w.1))))
    by (inr (inr (inl r))) =
        let w = lead _ (encode_3 c r.0 r.1) in
        let same : b ≡ 224 + c / 4096 = w.0 in
        let low : 0x800 ≤ c = r.0 in
        let high : c < 0x1_0000 = r.1 in
        let h1 : 0x80 ≤ b = omega arith in
        let h2 : 0xC0 ≤ b = omega arith in
        let h3 : 0xE0 ≤ b = omega arith in
        let h4 : b < 0xF0 = omega arith in
        let v : b - 0xE0 ≡ c / 4096 = omega arith in
        leads_false c K xs _ _ _ (not_below b 0x80 h1) (leads_false c K xs _ _ _ (not_below b 0xC0 h2) (leads_false c K xs _ _ _ (not_below b 0xE0 h3) (leads_true c K xs _ _ _ (lt-ltb b 0xF0 h4)
        (leads_tail c K 0x800 2 (b - 0xE0) xs (omega arith) refl (tail_2 c K 0x800 r.0 is_char (b - 0xE0) xs v w.1)))))
    by (inr (inr (inr r))) =
        let w = lead _ (encode_4 c r) in
        let same : b ≡ 240 + c / 262144 = w.0 in
        let top : c < 0x11_0000 = scalar_below c is_char in
        let h1 : 0x80 ≤ b = omega arith in
        let h2 : 0xC0 ≤ b = omega arith in
        let h3 : 0xE0 ≤ b = omega arith in
        let h4 : 0xF0 ≤ b = omega arith in
        let h5 : b < 0xF8 = omega arith in
        let v : b - 0xF0 ≡ c / 262144 = omega arith in
        leads_false c K xs _ _ _ (not_below b 0x80 h1) (leads_false c K xs _ _ _ (not_below b 0xC0 h2) (leads_false c K xs _ _ _ (not_below b 0xE0 h3) (leads_false c K xs _ _ _ (not_below b 0xF0 h4) (leads_true c K xs _ _ _ (lt-ltb b 0xF8 h5)
        (leads_tail c K 0x1_0000 3 (b - 0xF0) xs (omega arith) refl (tail_3 c K 0x1_0000 r is_char (b - 0xF0) xs v w.1))))))
      where
        scalar_below : (c : ℕ) → scalar c ≡ true → c < 0x11_0000
        scalar_below c e = grind (arith, nat_tests)

-- A byte leads on wherever a character may be left.

short_leads : (c : ℕ) (K : List ℕ → Type 0) (b : ℕ) (xs : List ℕ) → Short c K (b ∷ xs) → Leads (after_short (short_escape b)) c K xs
short_leads c K b xs h = subst (λ o. Leads (after_short o) c K xs) (sym h.0) (refl, h.1)

not_letter_u : (c b : ℕ) → short_escape b ≡ Some c → (b == ascii.letter_u) ≡ false
not_letter_u c b e = by (b == ascii.letter_u) refl
  where
    by : (t : Bool) → (b == ascii.letter_u) ≡ t → t ≡ false
    by false is = refl
    by true is = absurd (let bad : None ≡ Some c = subst (λ x. short_escape x ≡ Some c) (eqb-true b ascii.letter_u is) e in cc)

fits_digit : (n v d : ℕ) → n < 4 → v * above_16 n < 0x1_0000 → d < 16 → (16 * v + d) * 16 ^ n < 0x1_0000
fits_digit zero v d small fits digit = omega arith
fits_digit (suc zero) v d small fits digit = omega arith
fits_digit (suc (suc zero)) v d small fits digit = omega arith
fits_digit (suc (suc (suc zero))) v d small fits digit = omega arith
fits_digit (suc (suc (suc (suc n)))) v d small fits digit = absurd (omega arith)

not_true : (t : Bool) → not t ≡ true → t ≡ false
not_true true e = absurd (cc)
not_true false e = refl

-- a character in UTF-8 begins with no other byte of ASCII
pub word_not : (k c : ℕ) (K : List ℕ → Type 0) (b : ℕ) (xs : List ℕ) → k < 0x80 → not (c == k) ≡ true → Word (encode_utf8 c) K (b ∷ xs) → (b == k) ≡ false
word_not k c K b xs ascii_k other h = by (by_size c)
  where
    lead : (bytes : List ℕ) → encode_utf8 c ≡ bytes → Word bytes K (b ∷ xs)
    lead bytes e = subst (λ bs. Word bs K (b ∷ xs)) e h

    differs : 0x80 ≤ b → (b == k) ≡ false
    differs big = grind (arith, nat_tests)

    by : (c < 0x80) ⊎ (((0x80 ≤ c) × (c < 0x800)) ⊎ (((0x800 ≤ c) × (c < 0x1_0000)) ⊎ (0x1_0000 ≤ c))) → (b == k) ≡ false
    by (inl small) = let w = lead (c ∷ []) (encode_1 c small) in subst (λ x. (x == k) ≡ false) (sym w.0) (not_true (c == k) other)
    by (inr (inl r)) = let w = lead _ (encode_2 c r.0 r.1) in let same : b ≡ 192 + c / 64 = w.0 in differs (omega arith)
    by (inr (inr (inl r))) = let w = lead _ (encode_3 c r.0 r.1) in let same : b ≡ 224 + c / 4096 = w.0 in differs (omega arith)
    by (inr (inr (inr r))) = let w = lead _ (encode_4 c r) in let same : b ≡ 240 + c / 262144 = w.0 in differs (omega arith)

-- the escape's letters and the pair's
leads_byte_at : (w : Within) (c : ℕ) (K : List ℕ → Type 0) (b k : ℕ) (xs : List ℕ) → b ≡ k → Leads (after_byte w k) c K xs → Leads (after_byte w b) c K xs
leads_byte_at w c K b k xs e h = subst (λ x. Leads (after_byte w x) c K xs) (sym e) h

pub leads_byte : (w : Within) (c : ℕ) (K : List ℕ → Type 0) (b : ℕ) (xs : List ℕ) → is_begun w ≡ true → CharacterRest w c K (b ∷ xs) → Leads (after_byte w b) c K xs
leads_byte plain c K b xs begun (inl (is, h)) =
    let parts = and_parts (scalar c) (nat_le 0x20 c && (not (c == ascii.quote) && not (c == ascii.backslash))) is in
    let more = and_parts (nat_le 0x20 c) (not (c == ascii.quote) && not (c == ascii.backslash)) parts.1 in
    let control : 0x20 ≤ c = leb-true 0x20 c more.0 in
    leads_false c K xs _ _ _ (word_not ascii.backslash c K b xs (omega arith) (and_parts (not (c == ascii.quote)) (not (c == ascii.backslash)) more.1).1 h) (utf8_leads c K b xs parts.0 control h)
leads_byte plain c K b xs begun (inr h) = leads_byte_at plain c K b ascii.backslash xs h.0 h.1
leads_byte escape c K b xs begun (inl h) = leads_false c K xs _ _ _ (not_letter_u c b h.0) (short_leads c K b xs h)
leads_byte escape c K b xs begun (inr h) = leads_byte_at escape c K b ascii.letter_u xs h.0 h.1
leads_byte (unit n v) c K b xs begun h =
    let parts = and_parts (nat_lt n 4) (nat_lt (v * above_16 n) 0x1_0000 && not (is_low_surrogate (v * above_16 n))) begun in
    let few : n < 4 = ltb-true n 4 parts.0 in
    let fits : v * above_16 n < 0x1_0000 = ltb-true (v * above_16 n) 0x1_0000 (and_parts (nat_lt (v * above_16 n) 0x1_0000) (not (is_low_surrogate (v * above_16 n))) parts.1).0 in
    leads_true c K xs _ _ _ h.0 (leads_unit c K n (16 * v + digit_value b) xs few (fits_digit n v (digit_value b) few fits (digit_16 b h.0)) h.1)
leads_byte (high h) c K b xs begun (is_high, (e, left)) = leads_byte_at (high h) c K b ascii.backslash xs e (is_high, left)
leads_byte (high_escape h) c K b xs begun (is_high, (e, left)) = leads_byte_at (high_escape h) c K b ascii.letter_u xs e (is_high, left)
leads_byte (low n v h) c K b xs begun (is_high, (e, left)) =
    let few : n < 4 = ltb-true n 4 (and_parts (nat_lt n 4) (nat_lt (v * above_16 n) 0xE000 && nat_lt 0xDC00 ((v + 1) * above_16 n)) (and_parts (is_high_surrogate h) (is_low_begun n v) begun).1).0 in
    leads_true c K xs _ _ _ e (leads_low c K h n (16 * v + digit_value b) xs few is_high left)
leads_byte (tail least n v) c K b xs begun (lo, hi, left) =
    let parts = and_parts (scalar least) (is_tail_begun least n v) begun in
    let few : n < 3 = ltb-true n 3 (and_parts (nat_lt n 3) (scalar (max least (v * above_64 n)) && nat_lt (max least (v * above_64 n)) ((v + 1) * above_64 n)) parts.1).0 in
    leads_true c K xs _ _ _ (and_from _ _ (le-leb 0x80 b lo) (lt-ltb b 0xC0 hi)) (leads_tail c K least n (64 * v + (b - 0x80)) xs (omega arith) parts.0 left)

-- A character may be left wherever a byte leads on.

led_unit : (c : ℕ) (K : List ℕ → Type 0) (n v : ℕ) (xs : List ℕ) → Leads (after_unit n v) c K xs → HexDigits n v (Unit16 c K) xs
led_unit c K zero v xs =
    led_cond c K xs (is_high_surrogate v) (goes_on (high v)) (cond (scalar v) (ends v) refused) (Unit16 c K v xs) (λ _ h. inl h)
    (λ _. led_cond c K xs (scalar v) (ends v) refused (Unit16 c K v xs) (λ is h. inr (is, h.0, h.1)) (λ _ h. absurd h))
led_unit c K (suc n) v xs = led_cond c K xs (is_unit_begun n v) (goes_on (unit n v)) refused _ (λ _ h. h) (λ _ h. absurd h)

led_low : (c : ℕ) (K : List ℕ → Type 0) (h n v : ℕ) (xs : List ℕ) → is_high_surrogate h ≡ true → Leads (after_low n v h) c K xs → HexDigits n v (LowHalf h c K) xs
led_low c K h zero v xs is_high =
    led_cond c K xs (is_low_surrogate v) (checked (paired h v)) refused _ (λ is. led_cond c K xs (scalar (paired h v)) (ends (paired h v)) refused _ (λ _ left. (is, left.0, left.1)) (λ _ left. absurd left)) (λ _ left. absurd left)
led_low c K h (suc n) v xs is_high = led_cond c K xs (is_low_begun n v) (goes_on (low n v h)) refused _ (λ _ left. left.1) (λ _ left. absurd left)

led_tail : (c : ℕ) (K : List ℕ → Type 0) (least n v : ℕ) (xs : List ℕ) → Leads (after_tail least n v) c K xs → TailBytes n v (IsFrom least c K) xs
led_tail c K least zero v xs =
    led_cond c K xs (nat_le least v) (checked v) refused _ (λ first. led_cond c K xs (scalar v) (ends v) refused _ (λ is_char h. whole first is_char h.0 h.1) (λ _ h. absurd h)) (λ _ h. absurd h)
  where
    whole : nat_le least v ≡ true → scalar v ≡ true → v ≡ c → K xs → IsFrom least c K v xs
    whole first is_char e k = (e, subst (λ x. least ≤ x) e (leb-true least v first), subst (λ x. scalar x ≡ true) e is_char, k)
led_tail c K least (suc n) v xs = led_cond c K xs (is_tail_begun least n v) (goes_on (tail least n v)) refused _ (λ _ h. h) (λ _ h. absurd h)

led_short : (c : ℕ) (K : List ℕ → Type 0) (b : ℕ) (xs : List ℕ) → Leads (after_short (short_escape b)) c K xs → Short c K (b ∷ xs)
led_short c K b xs = by (short_escape b) refl
  where
    by : (o : Option ℕ) → short_escape b ≡ o → Leads (after_short o) c K xs → Short c K (b ∷ xs)
    by None e h = absurd h
    by (Some d) e h = (e ∙ ap Some h.0, h.1)

-- the bytes of a tail are those that UTF-8 writes
module _ (c : ℕ) (K : List ℕ → Type 0) (least : ℕ) where
  tail_word_1 : (v : ℕ) (xs : List ℕ) → TailBytes 1 v (IsFrom least c K) xs → (v ≡ c / 64) × (least ≤ c) × (scalar c ≡ true) × Word (next c ∷ []) K xs
  tail_word_1 v [] h = absurd h
  tail_word_1 v (x ∷ xs) (lo, hi, (e, from, is_char, k)) = (omega arith, from, is_char, (omega arith, k))

  tail_word_2 : (v : ℕ) (xs : List ℕ) → TailBytes 2 v (IsFrom least c K) xs → (v ≡ c / 4096) × (least ≤ c) × (scalar c ≡ true) × Word (next (c / 64) ∷ next c ∷ []) K xs
  tail_word_2 v [] h = absurd h
  tail_word_2 v (x ∷ xs) (lo, hi, left) =
      let r = tail_word_1 (64 * v + (x - 128)) xs left in
      let e : 64 * v + (x - 128) ≡ c / 64 = r.0 in
      (omega arith, r.1, r.2, (omega arith, r.3))

  tail_word_3 : (v : ℕ) (xs : List ℕ) → TailBytes 3 v (IsFrom least c K) xs → (v ≡ c / 262144) × (least ≤ c) × (scalar c ≡ true) × Word (next (c / 4096) ∷ next (c / 64) ∷ next c ∷ []) K xs
  tail_word_3 v [] h = absurd h
  tail_word_3 v (x ∷ xs) (lo, hi, left) =
      let r = tail_word_2 (64 * v + (x - 128)) xs left in
      let e : 64 * v + (x - 128) ≡ c / 4096 = r.0 in
      (omega arith, r.1, r.2, (omega arith, r.3))

plain_from : (c : ℕ) → scalar c ≡ true → 0x20 ≤ c → (c == ascii.quote) ≡ false → (c == ascii.backslash) ≡ false → is_plain c ≡ true
plain_from c is_char control quote backslash = and_from _ _ is_char (and_from _ _ (le-leb 0x20 c control) (and_from _ _ (ap not quote) (ap not backslash)))

plain_big : (c : ℕ) → scalar c ≡ true → 0x80 ≤ c → is_plain c ≡ true
plain_big c is_char big = plain_from c is_char (omega arith) (differs ascii.quote (omega arith)) (differs ascii.backslash (omega arith))
  where
    differs : (k : ℕ) → k < 0x80 → (c == k) ≡ false
    differs k h = grind (arith, nat_tests)

low_scalar : (c : ℕ) → c < 0x80 → scalar c ≡ true
low_scalar c h = grind (arith, nat_tests)

-- a byte that is neither a quote nor a backslash begins a character that stands for itself
led_lead : (c : ℕ) (K : List ℕ → Type 0) (b : ℕ) (xs : List ℕ) → (b == ascii.quote) ≡ false → (b == ascii.backslash) ≡ false → Leads (after_lead b) c K xs → (is_plain c ≡ true) × Word (encode_utf8 c) K (b ∷ xs)
led_lead c K b xs quote backslash =
    led_cond c K xs (nat_lt b 0x80) _ _ G
    (λ is. led_cond c K xs (nat_lt b 0x20) refused (ends b) G (λ _ h. absurd h) (λ is_not h. short (ltb-true b 0x80 is) (ltb-false b 0x20 is_not) h.0 h.1))
    (λ _. led_cond c K xs (nat_lt b 0xC0) refused _ G (λ _ h. absurd h)
    (λ is0. led_cond c K xs (nat_lt b 0xE0) (after_tail 0x80 1 (b - 0xC0)) _ G (λ is h. two (ltb-false b 0xC0 is0) (ltb-true b 0xE0 is) (tail_word_1 c K 0x80 (b - 0xC0) xs (led_tail c K 0x80 1 (b - 0xC0) xs h)))
    (λ is1. led_cond c K xs (nat_lt b 0xF0) (after_tail 0x800 2 (b - 0xE0)) _ G (λ is h. three (ltb-false b 0xE0 is1) (ltb-true b 0xF0 is) (tail_word_2 c K 0x800 (b - 0xE0) xs (led_tail c K 0x800 2 (b - 0xE0) xs h)))
    (λ is2. led_cond c K xs (nat_lt b 0xF8) (after_tail 0x1_0000 3 (b - 0xF0)) refused G (λ is h. four (ltb-false b 0xF0 is2) (ltb-true b 0xF8 is) (tail_word_3 c K 0x1_0000 (b - 0xF0) xs (led_tail c K 0x1_0000 3 (b - 0xF0) xs h)))
    (λ _ h. absurd h)))))
  where
    G : Type 0
    G = (is_plain c ≡ true) × Word (encode_utf8 c) K (b ∷ xs)

    short : b < 0x80 → 0x20 ≤ b → b ≡ c → K xs → (is_plain c ≡ true) × Word (encode_utf8 c) K (b ∷ xs)
    short small control e k =
        let at : (is_plain b ≡ true) × Word (encode_utf8 b) K (b ∷ xs) =
        (plain_from b (low_scalar b small) control quote backslash, subst (λ bs. Word bs K (b ∷ xs)) (sym (encode_1 b small)) (refl, k)) in
        subst (λ x. (is_plain x ≡ true) × Word (encode_utf8 x) K (b ∷ xs)) e at

    two : 0xC0 ≤ b → b < 0xE0 → (b - 0xC0 ≡ c / 64) × (0x80 ≤ c) × (scalar c ≡ true) × Word (next c ∷ []) K xs → (is_plain c ≡ true) × Word (encode_utf8 c) K (b ∷ xs)
    two lo hi (e, from, is_char, w) =
        let high : c < 0x800 = omega arith in
        let first : b ≡ 192 + c / 64 = omega arith in
        let big : 0x80 ≤ c = omega arith in
        (plain_big c is_char big, subst (λ bs. Word bs K (b ∷ xs)) (sym (encode_2 c from high)) (first, w))

    three : 0xE0 ≤ b → b < 0xF0 → (b - 0xE0 ≡ c / 4096) × (0x800 ≤ c) × (scalar c ≡ true) × Word (next (c / 64) ∷ next c ∷ []) K xs → (is_plain c ≡ true) × Word (encode_utf8 c) K (b ∷ xs)
    three lo hi (e, from, is_char, w) =
        let high : c < 0x1_0000 = omega arith in
        let first : b ≡ 224 + c / 4096 = omega arith in
        let big : 0x80 ≤ c = omega arith in
        (plain_big c is_char big, subst (λ bs. Word bs K (b ∷ xs)) (sym (encode_3 c from high)) (first, w))

    four : 0xF0 ≤ b → b < 0xF8 → (b - 0xF0 ≡ c / 262144) × (0x1_0000 ≤ c) × (scalar c ≡ true) × Word (next (c / 4096) ∷ next (c / 64) ∷ next c ∷ []) K xs → (is_plain c ≡ true) × Word (encode_utf8 c) K (b ∷ xs)
    four lo hi (e, from, is_char, w) =
        let first : b ≡ 240 + c / 262144 = omega arith in
        let big : 0x80 ≤ c = omega arith in
        (plain_big c is_char big, subst (λ bs. Word bs K (b ∷ xs)) (sym (encode_4 c from)) (first, w))

-- a quote before a character ends the text
abbrev pub NoQuote : Within → ℕ → Type 0
NoQuote plain b = (b == ascii.quote) ≡ false
NoQuote _ b = Unit {0}

pub led_byte : (w : Within) (c : ℕ) (K : List ℕ → Type 0) (b : ℕ) (xs : List ℕ) → NoQuote w b → is_begun w ≡ true → Leads (after_byte w b) c K xs → CharacterRest w c K (b ∷ xs)
led_byte plain c K b xs quote begun =
    led_cond c K xs (b == ascii.backslash) (goes_on escape) (after_lead b) (Character c K (b ∷ xs)) (λ is h. inr (eqb-true b ascii.backslash is, h)) (λ is_not h. inl (led_lead c K b xs quote is_not h))
led_byte escape c K b xs quote begun =
    led_cond c K xs (b == ascii.letter_u) (goes_on (unit 3 0)) (after_short (short_escape b)) (Escape c K (b ∷ xs)) (λ is h. inr (eqb-true b ascii.letter_u is, h)) (λ _ h. inl (led_short c K b xs h))
led_byte (unit n v) c K b xs quote begun =
    led_cond c K xs (char.is_digit b 16) (after_unit n (16 * v + digit_value b)) refused (HexDigits (suc n) v (Unit16 c K) (b ∷ xs))
    (λ is h. (is, led_unit c K n (16 * v + digit_value b) xs h)) (λ _ h. absurd h)
led_byte (high h) c K b xs quote begun =
    led_cond c K xs (b == ascii.backslash) (goes_on (high_escape h)) refused (CharacterRest (high h) c K (b ∷ xs)) (λ is left. (left.0, (eqb-true b ascii.backslash is, left.1))) (λ _ left. absurd left)
led_byte (high_escape h) c K b xs quote begun =
    led_cond c K xs (b == ascii.letter_u) (goes_on (low 3 0 h)) refused (CharacterRest (high_escape h) c K (b ∷ xs)) (λ is left. (left.0, (eqb-true b ascii.letter_u is, left.1))) (λ _ left. absurd left)
led_byte (low n v h) c K b xs quote begun =
    let is_high : is_high_surrogate h ≡ true = (and_parts (is_high_surrogate h) (is_low_begun n v) begun).0 in
    led_cond c K xs (char.is_digit b 16) (after_low n (16 * v + digit_value b) h) refused (CharacterRest (low n v h) c K (b ∷ xs))
    (λ is left. (is_high, (is, led_low c K h n (16 * v + digit_value b) xs is_high left))) (λ _ left. absurd left)
led_byte (tail least n v) c K b xs quote begun =
    led_cond c K xs (nat_le 0x80 b && nat_lt b 0xC0) (after_tail least n (64 * v + (b - 0x80))) refused (CharacterRest (tail least n v) c K (b ∷ xs))
    (λ is h. (leb-true 0x80 b (and_parts (nat_le 0x80 b) (nat_lt b 0xC0) is).0, ltb-true b 0xC0 (and_parts (nat_le 0x80 b) (nat_lt b 0xC0) is).1, led_tail c K least n (64 * v + (b - 0x80)) xs h))
    (λ _ h. absurd h)

-- Each place that a byte leads to is one from which some character goes on.

-- some part of a character has come
abbrev pub is_inside : Within → Bool
is_inside plain = false
is_inside _ = true

abbrev pub LeadsBegun : Outcome → Type 0
LeadsBegun (goes_on w) = (is_begun w ≡ true) × (is_inside w ≡ true)
LeadsBegun (ends c) = Unit {0}
LeadsBegun refused = Unit {0}

begun_cond : (t : Bool) (x y : Outcome) → (t ≡ true → LeadsBegun x) → (t ≡ false → LeadsBegun y) → LeadsBegun (cond t x y)
begun_cond true x y f g = f refl
begun_cond false x y f g = g refl

checked_begun : (c : ℕ) → LeadsBegun (checked c)
checked_begun c = begun_cond (scalar c) (ends c) refused (λ _. tt) (λ _. tt)

unit_leads_begun : (n v : ℕ) → LeadsBegun (after_unit n v)
unit_leads_begun zero v = begun_cond (is_high_surrogate v) (goes_on (high v)) _ (λ is. (is, refl)) (λ _. checked_begun v)
unit_leads_begun (suc n) v = begun_cond (is_unit_begun n v) (goes_on (unit n v)) refused (λ is. (is, refl)) (λ _. tt)

low_leads_begun : (h n v : ℕ) → is_high_surrogate h ≡ true → LeadsBegun (after_low n v h)
low_leads_begun h zero v is_high = begun_cond (is_low_surrogate v) (checked (paired h v)) refused (λ _. checked_begun (paired h v)) (λ _. tt)
low_leads_begun h (suc n) v is_high = begun_cond (is_low_begun n v) (goes_on (low n v h)) refused (λ is. (and_from _ _ is_high is, refl)) (λ _. tt)

tail_leads_begun : (least n v : ℕ) → scalar least ≡ true → LeadsBegun (after_tail least n v)
tail_leads_begun least zero v first = begun_cond (nat_le least v) (checked v) refused (λ _. checked_begun v) (λ _. tt)
tail_leads_begun least (suc n) v first = begun_cond (is_tail_begun least n v) (goes_on (tail least n v)) refused (λ is. (and_from _ _ first is, refl)) (λ _. tt)

short_leads_begun : (o : Option ℕ) → LeadsBegun (after_short o)
short_leads_begun None = tt
short_leads_begun (Some c) = tt

pub leads_begun : (w : Within) (b : ℕ) → is_begun w ≡ true → LeadsBegun (after_byte w b)
leads_begun plain b begun =
    begun_cond (b == ascii.backslash) (goes_on escape) (after_lead b) (λ _. (refl, refl))
    (λ _. begun_cond (nat_lt b 0x80) _ _ (λ _. begun_cond (nat_lt b 0x20) refused (ends b) (λ _. tt) (λ _. tt))
    (λ _. begun_cond (nat_lt b 0xC0) refused _ (λ _. tt)
    (λ _. begun_cond (nat_lt b 0xE0) _ _ (λ _. tail_leads_begun 0x80 1 (b - 0xC0) refl)
    (λ _. begun_cond (nat_lt b 0xF0) _ _ (λ _. tail_leads_begun 0x800 2 (b - 0xE0) refl)
    (λ _. begun_cond (nat_lt b 0xF8) _ refused (λ _. tail_leads_begun 0x1_0000 3 (b - 0xF0) refl) (λ _. tt))))))
leads_begun escape b begun = begun_cond (b == ascii.letter_u) (goes_on (unit 3 0)) (after_short (short_escape b)) (λ _. (refl, refl)) (λ _. short_leads_begun (short_escape b))
leads_begun (unit n v) b begun = begun_cond (char.is_digit b 16) _ refused (λ _. unit_leads_begun n (16 * v + digit_value b)) (λ _. tt)
leads_begun (high h) b begun = begun_cond (b == ascii.backslash) (goes_on (high_escape h)) refused (λ _. (begun, refl)) (λ _. tt)
leads_begun (high_escape h) b begun = begun_cond (b == ascii.letter_u) (goes_on (low 3 0 h)) refused (λ _. (and_from _ _ begun refl, refl)) (λ _. tt)
leads_begun (low n v h) b begun = begun_cond (char.is_digit b 16) _ refused (λ _. low_leads_begun h n (16 * v + digit_value b) (and_parts (is_high_surrogate h) (is_low_begun n v) begun).0) (λ _. tt)
leads_begun (tail least n v) b begun = begun_cond _ _ refused (λ _. tail_leads_begun least n (64 * v + (b - 0x80)) (and_parts (scalar least) (is_tail_begun least n v) begun).0) (λ _. tt)
