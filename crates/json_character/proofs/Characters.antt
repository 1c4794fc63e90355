-- A byte within a character of a text.
use Rattle.std.proofs.Common.{◌≡◌, ℕ, zero, suc, ◌+◌, ◌-◌, ◌*◌, ◌^◌, ◌<◌, ◌≤◌, Bool, true, false, cond, ◌&&◌, List, [], ◌∷◌, refl, sym, ap, subst, ◌⊎◌, inl, inr, arith, max, not, nat_lt, nat_le}
use Rattle.std.proofs.Math.Nat.{mul-le-mul_right, pow-succ', lt_of_le_of_lt}
use Rattle.std.proofs.lemmas.Bool.{and_parts, and_from, ltb-true, leb-true, lt-ltb, le-leb}
use Rattle.std.proofs.lemmas.Bool.Decides.{nat_tests}
use Rattle.std.specs.Char.{digit_value}
use Rattle.std.specs.Char as char
use lib.Utf8.{scalar, scalar_cases}
use Rattle.json_character.specs.Pieces.{HexDigits}
use Rattle.json_character.specs.Texts.{is_high_surrogate, is_low_surrogate, paired, LowHalf, Unit16}
use Rattle.json_character.specs.Within.{Outcome, goes_on, ends, refused, above_16, above_64, is_unit_begun, is_low_begun, is_tail_begun, after_unit, after_low, after_tail}
use Rattle.json_character.proofs.CharacterRests.{TailBytes, IsFrom, CharacterRest}

-- what may be left after a byte, by what it made of the character
abbrev pub Leads : Outcome → ℕ → (List ℕ → Type 0) → List ℕ → Type 0
Leads (goes_on w) c K xs = CharacterRest w c K xs
Leads (ends d) c K xs = (d ≡ c) × K xs
Leads refused c K xs = ⊥

module _ (c : ℕ) (K : List ℕ → Type 0) (xs : List ℕ) where
  pub leads_true : (t : Bool) (x y : Outcome) → t ≡ true → Leads x c K xs → Leads (cond t x y) c K xs
  leads_true t x y e h = subst (λ b. Leads (cond b x y) c K xs) (sym e) h

  pub leads_false : (t : Bool) (x y : Outcome) → t ≡ false → Leads y c K xs → Leads (cond t x y) c K xs
  leads_false t x y e h = subst (λ b. Leads (cond b x y) c K xs) (sym e) h

  pub led_cond : (t : Bool) (x y : Outcome) (G : Type 0) → (t ≡ true → Leads x c K xs → G) → (t ≡ false → Leads y c K xs → G) → Leads (cond t x y) c K xs → G
  led_cond true x y G f g h = f refl h
  led_cond false x y G f g h = g refl h

-- Digits keep a value between its least and its greatest.

pub digit_16 : (b : ℕ) → char.is_digit b 16 ≡ true → digit_value b < 16
digit_16 b e = ltb-true (digit_value b) 16 e

-- a value of n digits after v, in steps of that many
pub record IsBetween (v step u : ℕ) : Type 0 where
  pub least : v * step ≤ u
  pub most : u < (v + 1) * step

pub between_digit : (v d base step u : ℕ) → d < base → IsBetween (base * v + d) step u → IsBetween v (base * step) u
between_digit v d base step u small h =
    let below : d + 1 ≤ base = omega arith in
    let room : (d + 1) * step ≤ base * step = mul-le-mul_right step below in
    record { least = omega (arith, h.least); most = omega (arith, h.most, room) }

-- one value, told by how it stands to the low surrogates
Apart : ℕ → Type 0
Apart u = (u < 0xDC00) ⊎ (0xE000 ≤ u)

apart : (u : ℕ) → is_low_surrogate u ≡ false → Apart u
unfolding Apart
apart u e = grind (arith, nat_tests)

not_low : (u : ℕ) → Apart u → is_low_surrogate u ≡ false
unfolding Apart
not_low u (inl h) = grind (arith, nat_tests)
not_low u (inr h) = grind (arith, nat_tests)

begun_from : (w : ℕ) → w < 0x1_0000 → Apart w → (nat_lt w 0x1_0000 && not (is_low_surrogate w)) ≡ true
begun_from w fits a = and_from _ _ (lt-ltb w 0x1_0000 fits) (ap not (not_low w a))

unit_begun : (n v u : ℕ) → n < 3 → v * above_16 n < 0x1_0000 → IsBetween v (above_16 n) u → is_low_surrogate u ≡ false → is_unit_begun n v ≡ true
unfolding Apart
unit_begun zero v u small fits h e = begun_from (v * 0x10) fits (aligned (apart u e))
  where
    aligned : Apart u → Apart (v * 0x10)
    aligned (inl a) = inl (omega (arith, h.least))
    aligned (inr a) = inr (omega (arith, h.most))
unit_begun (suc zero) v u small fits h e = begun_from (v * 0x100) fits (aligned (apart u e))
  where
    aligned : Apart u → Apart (v * 0x100)
    aligned (inl a) = inl (omega (arith, h.least))
    aligned (inr a) = inr (omega (arith, h.most))
unit_begun (suc (suc zero)) v u small fits h e = begun_from (v * 0x1000) fits (aligned (apart u e))
  where
    aligned : Apart u → Apart (v * 0x1000)
    aligned (inl a) = inl (omega (arith, h.least))
    aligned (inr a) = inr (omega (arith, h.most))
unit_begun (suc (suc (suc n))) v u small fits h e = absurd (omega arith)

low_begun : (n v u : ℕ) → n < 3 → IsBetween v (above_16 n) u → is_low_surrogate u ≡ true → is_low_begun n v ≡ true
low_begun n v u small h e =
    let least : 0xDC00 ≤ u = leb-true 0xDC00 u (and_parts (nat_le 0xDC00 u) (nat_lt u 0xE000) e).0 in
    let most : u < 0xE000 = ltb-true u 0xE000 (and_parts (nat_le 0xDC00 u) (nat_lt u 0xE000) e).1 in
    let few : n < 4 = omega arith in
    let below : v * above_16 n < 0xE000 = lt_of_le_of_lt h.least most in
    let above : 0xDC00 < (v + 1) * above_16 n = lt_of_le_of_lt least h.most in
    and_from _ _ (lt-ltb n 4 few) (and_from _ _ (lt-ltb _ _ below) (lt-ltb _ _ above))

pub step_16 : (n : ℕ) → n < 3 → 16 ^ suc n ≡ above_16 n
step_16 zero small = refl
step_16 (suc zero) small = refl
step_16 (suc (suc zero)) small = refl
step_16 (suc (suc (suc n))) small = absurd (omega arith)

pub HexDigits-between : (n v : ℕ) (K : ℕ → List ℕ → Type 0) (xs : List ℕ) → HexDigits n v K xs → (u : ℕ) × (ys : List ℕ) × K u ys × IsBetween v (16 ^ n) u
HexDigits-between zero v K xs h = (v, xs, h, record { least = omega arith; most = omega arith })
HexDigits-between (suc n) v K [] h = absurd h
HexDigits-between (suc n) v K (x ∷ xs) h =
    let r = HexDigits-between n (16 * v + digit_value x) K xs h.1 in
    (r.0, r.1, r.2, subst (λ p. IsBetween v p r.0) (sym (pow-succ' 16 n)) (between_digit v (digit_value x) 16 (16 ^ n) r.0 (digit_16 x h.0) r.3))

-- Bytes of a character's tail keep its value between its least and its greatest.

pub TailBytes-between : (n v : ℕ) (K : ℕ → List ℕ → Type 0) (xs : List ℕ) → TailBytes n v K xs → (u : ℕ) × (ys : List ℕ) × K u ys × IsBetween v (64 ^ n) u
TailBytes-between zero v K xs h = (v, xs, h, record { least = omega arith; most = omega arith })
TailBytes-between (suc n) v K [] h = absurd h
TailBytes-between (suc n) v K (x ∷ xs) h =
    let r = TailBytes-between n (64 * v + (x - 128)) K xs h.2 in
    let small : x - 128 < 64 = omega (arith, h.0, h.1) in
    (r.0, r.1, r.2, subst (λ p. IsBetween v p r.0) (sym (pow-succ' 64 n)) (between_digit v (x - 128) 64 (64 ^ n) r.0 small r.3))

pub step_64 : (n : ℕ) → n < 3 → 64 ^ suc n ≡ above_64 n
step_64 zero small = refl
step_64 (suc zero) small = refl
step_64 (suc (suc zero)) small = refl
step_64 (suc (suc (suc n))) small = absurd (omega arith)

-- no surrogate, and below the end
IsChar : ℕ → Type 0
IsChar c = (c < 0xD800) ⊎ ((0xE000 ≤ c) × (c < 0x11_0000))

char_from : (c : ℕ) → scalar c ≡ true → IsChar c
unfolding IsChar
char_from c e = scalar_cases c e

scalar_from : (c : ℕ) → IsChar c → scalar c ≡ true
unfolding IsChar
scalar_from c (inl h) = grind (arith, nat_tests)
scalar_from c (inr h) = grind (arith, nat_tests)

-- the least character of a range that has one is the range's first, or the least of all
sample : (n v c : ℕ) → n < 3 → IsBetween v (above_64 n) c → IsChar c → IsChar (v * above_64 n)
unfolding IsChar
sample zero v c small h (inl e) = inl (omega (arith, h.least))
sample zero v c small h (inr e) = inr (omega (arith, h.most, e.0), omega (arith, h.least, e.1))
sample (suc zero) v c small h (inl e) = inl (omega (arith, h.least))
sample (suc zero) v c small h (inr e) = by v h.most h.least
  where
    by : (v : ℕ) → c < (v + 1) * 0x1000 → v * 0x1000 ≤ c → (v * 0x1000 < 0xD800) ⊎ ((0xE000 ≤ v * 0x1000) × (v * 0x1000 < 0x11_0000))
    by v most least = inr (omega (arith, e.0), omega (arith, e.1))
sample (suc (suc zero)) v c small h (inl e) = inl (omega (arith, h.least))
sample (suc (suc zero)) zero c small h (inr e) = inl (omega arith)
sample (suc (suc zero)) (suc v) c small h (inr e) = inr (omega arith, omega (arith, h.least, e.1))
sample (suc (suc (suc n))) v c small h e = absurd (omega arith)

max_cases : (a b : ℕ) (P : ℕ → Type 0) → P a → P b → P (max a b)
max_cases a b P at_a at_b = by (le_either a b)
  where
    le_either : (a b : ℕ) → (a ≤ b) ⊎ (b ≤ a)
    le_either a b = grind arith

    by : (a ≤ b) ⊎ (b ≤ a) → P (max a b)
    by (inl h) = let e : b ≡ max a b = omega arith in subst P e at_b
    by (inr h) = let e : a ≡ max a b = omega arith in subst P e at_a

tail_begun : (least n v c : ℕ) → n < 3 → scalar least ≡ true → least ≤ c → IsBetween v (above_64 n) c → scalar c ≡ true → is_tail_begun least n v ≡ true
tail_begun least n v c small first from h e =
    let is_char = scalar_from (v * above_64 n) (sample n v c small h (char_from c e)) in
    let below : max least (v * above_64 n) < (v + 1) * above_64 n = max_cases least (v * above_64 n) (λ m. m < (v + 1) * above_64 n) (lt_of_le_of_lt from h.most) (lt_of_le_of_lt h.least h.most) in
    and_from _ _ (lt-ltb n 3 small) (and_from _ _ (max_cases least (v * above_64 n) (λ m. scalar m ≡ true) first is_char) (lt-ltb _ _ below))

paired_scalar : (h l : ℕ) → is_high_surrogate h ≡ true → is_low_surrogate l ≡ true → scalar (paired h l) ≡ true
unfolding IsChar
paired_scalar h l e f =
    let h1 : 0xD800 ≤ h = leb-true 0xD800 h (and_parts (nat_le 0xD800 h) (nat_lt h 0xDC00) e).0 in
    let h2 : h < 0xDC00 = ltb-true h 0xDC00 (and_parts (nat_le 0xD800 h) (nat_lt h 0xDC00) e).1 in
    let l1 : 0xDC00 ≤ l = leb-true 0xDC00 l (and_parts (nat_le 0xDC00 l) (nat_lt l 0xE000) f).0 in
    let l2 : l < 0xE000 = ltb-true l 0xE000 (and_parts (nat_le 0xDC00 l) (nat_lt l 0xE000) f).1 in
    scalar_from (paired h l) (inr (omega arith, omega arith))

-- A byte leads on wherever a character may be left.

module _ (c : ℕ) (K : List ℕ → Type 0) where
  pub leads_unit : (n v : ℕ) (xs : List ℕ) → n < 4 → v * 16 ^ n < 0x1_0000 → HexDigits n v (Unit16 c K) xs → Leads (after_unit n v) c K xs
  leads_unit zero v xs small fits (inl h) = leads_true c K xs _ _ _ h.0 h
  leads_unit zero v xs small fits (inr h) = leads_false c K xs _ _ _ (not_high v h.0) (leads_true c K xs _ _ _ h.0 (h.1, h.2))
    where
      not_high : (v : ℕ) → scalar v ≡ true → is_high_surrogate v ≡ false
      not_high v e = grind (arith, nat_tests)
  leads_unit (suc n) v xs small fits h =
      let r = HexDigits-between (suc n) v (Unit16 c K) xs h in
      let few : n < 3 = omega arith in
      let fits' : v * above_16 n < 0x1_0000 = subst (λ p. v * p < 0x1_0000) (step_16 n few) fits in
      leads_true c K xs _ _ _ (unit_begun n v r.0 few fits' (subst (λ p. IsBetween v p r.0) (step_16 n few) r.3) (no_low r.0 r.1 r.2)) h
    where
      no_low : (u : ℕ) (ys : List ℕ) → Unit16 c K u ys → is_low_surrogate u ≡ false
      no_low u ys (inl h) = let e = h.0 in grind (arith, nat_tests)
      no_low u ys (inr h) = let e = h.0 in grind (arith, nat_tests)

  pub leads_low : (h n v : ℕ) (xs : List ℕ) → n < 4 → is_high_surrogate h ≡ true → HexDigits n v (LowHalf h c K) xs → Leads (after_low n v h) c K xs
  leads_low h zero v xs small is_high (is_low, e, k) = leads_true c K xs _ _ _ is_low (leads_true c K xs _ _ _ (paired_scalar h v is_high is_low) (e, k))
  leads_low h (suc n) v xs small is_high left =
      let r = HexDigits-between (suc n) v (LowHalf h c K) xs left in
      let few : n < 3 = omega arith in
      leads_true c K xs _ _ _ (low_begun n v r.0 few (subst (λ p. IsBetween v p r.0) (step_16 n few) r.3) r.2.0) (is_high, left)

  pub leads_tail : (least n v : ℕ) (xs : List ℕ) → n < 4 → scalar least ≡ true → TailBytes n v (IsFrom least c K) xs → Leads (after_tail least n v) c K xs
  leads_tail least zero v xs small first (e, from, is_char, k) =
      leads_true c K xs _ _ _ (le-leb least v (subst (λ x. least ≤ x) (sym e) from)) (leads_true c K xs _ _ _ (subst (λ x. scalar x ≡ true) (sym e) is_char) (e, k))
  leads_tail least (suc n) v xs small first h =
      let r = TailBytes-between (suc n) v (IsFrom least c K) xs h in
      let few : n < 3 = omega arith in
      let same : r.0 ≡ c = r.2.0 in
      leads_true c K xs _ _ _ (tail_begun least n v c few first r.2.1 (subst (λ u. IsBetween v (above_64 n) u) same (subst (λ p. IsBetween v p r.0) (step_64 n few) r.3)) r.2.2) h
