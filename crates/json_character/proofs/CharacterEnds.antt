-- The digits and bytes that complete a character.
use Rattle.std.proofs.Common.{◌≡◌, ℕ, zero, suc, ◌+◌, ◌-◌, ◌*◌, ◌/◌, ◌%◌, ◌<◌, ◌≤◌, Bool, true, false, not, ◌&&◌, List, [], ◌∷◌, ◌++◌, refl, sym, subst, inl, inr, max, nat_lt, nat_le, arith, append_assoc}
use Rattle.std.proofs.lemmas.Bool.{and_parts, and_from, ltb-true, lt-ltb, le-leb}
use Rattle.std.proofs.lemmas.Bool.Decides.{nat_tests}
use Rattle.std.proofs.lemmas.Str.{digit_value-digit_char}
use Rattle.std.specs.Char.{digit_value, digit_char, encode_utf8}
use lib.Utf8.{scalar}
use Rattle.json_character.specs.Pieces.{HexDigits}
use Rattle.json_character.specs.Texts.{LowHalf, Unit16, is_high_surrogate, is_low_surrogate, paired}
use Rattle.json_character.specs.Within.{Within, plain, escape, unit, high, high_escape, low, tail, is_begun, above_16, above_64, is_unit_begun, is_low_begun, is_tail_begun}
use Rattle.json_character.proofs.CharacterRests.{CharacterRest, TailBytes, IsFrom}

one_digit : (n v d : ℕ) (K : ℕ → List ℕ → Type 0) (xs : List ℕ) → d < 16 → HexDigits n (16 * v + d) K xs → HexDigits (suc n) v K (digit_char d ∷ xs)
one_digit n v d K xs small h =
    let fits : d < 36 = omega arith in
    let same : digit_value (digit_char d) ≡ d = digit_value-digit_char d fits in
    (subst (λ x. nat_lt x 16 ≡ true) (sym same) (lt-ltb d 16 small), subst (λ x. HexDigits n (16 * v + x) K xs) (sym same) h)

-- digits that lead from v to any value in its range
hex_front : (n v r : ℕ) → n < 4 → r < above_16 n → (bytes : List ℕ) × ((K : ℕ → List ℕ → Type 0) (xs : List ℕ) → K (v * above_16 n + r) xs → HexDigits (suc n) v K (bytes ++ xs))
hex_front zero v r few small =
    let e : v * 0x10 + r ≡ 16 * v + r = omega arith in
    (digit_char r ∷ [], λ K xs h. one_digit 0 v r K xs small (subst (λ u. K u xs) e h))
hex_front (suc zero) v r few small =
    let e : v * 0x100 + r ≡ 16 * (16 * v + r / 16) + r % 16 = omega arith in (
      digit_char (r / 16) ∷ digit_char (r % 16) ∷ [],
      λ K xs h.
          one_digit 1 v (r / 16) K (digit_char (r % 16) ∷ xs) (omega arith) (one_digit 0 (16 * v + r / 16) (r % 16) K xs (omega arith) (subst (λ u. K u xs) e h)),
    )
hex_front (suc (suc zero)) v r few small =
    let e : v * 0x1000 + r ≡ 16 * (16 * (16 * v + r / 256) + r / 16 % 16) + r % 16 = omega arith in (
      digit_char (r / 256) ∷ digit_char (r / 16 % 16) ∷ digit_char (r % 16) ∷ [],
      λ K xs h.
          one_digit 2 v (r / 256) K (digit_char (r / 16 % 16) ∷ digit_char (r % 16) ∷ xs) (omega arith)
          (one_digit 1 (16 * v + r / 256) (r / 16 % 16) K (digit_char (r % 16) ∷ xs) (omega arith) (one_digit 0 (16 * (16 * v + r / 256) + r / 16 % 16) (r % 16) K xs (omega arith) (subst (λ u. K u xs) e h))),
    )
hex_front (suc (suc (suc zero))) v r few small =
    let e : v * 0x1_0000 + r ≡ 16 * (16 * (16 * (16 * v + r / 4096) + r / 256 % 16) + r / 16 % 16) + r % 16 = omega arith in (
      digit_char (r / 4096) ∷ digit_char (r / 256 % 16) ∷ digit_char (r / 16 % 16) ∷ digit_char (r % 16) ∷ [],
      λ K xs h.
          one_digit 3 v (r / 4096) K (digit_char (r / 256 % 16) ∷ digit_char (r / 16 % 16) ∷ digit_char (r % 16) ∷ xs) (omega arith)
          (one_digit 2 (16 * v + r / 4096) (r / 256 % 16) K (digit_char (r / 16 % 16) ∷ digit_char (r % 16) ∷ xs) (omega arith)
          (one_digit 1 (16 * (16 * v + r / 4096) + r / 256 % 16) (r / 16 % 16) K (digit_char (r % 16) ∷ xs) (omega arith)
          (one_digit 0 (16 * (16 * (16 * v + r / 4096) + r / 256 % 16) + r / 16 % 16) (r % 16) K xs (omega arith) (subst (λ u. K u xs) e h)))),
    )
hex_front (suc (suc (suc (suc n)))) v r few small = absurd (omega arith)

one_tail : (n v d : ℕ) (K : ℕ → List ℕ → Type 0) (xs : List ℕ) → d < 64 → TailBytes n (64 * v + d) K xs → TailBytes (suc n) v K ((128 + d) ∷ xs)
one_tail n v d K xs small h =
    let same : 128 + d - 128 ≡ d = omega arith in
    (omega arith, omega arith, subst (λ x. TailBytes n (64 * v + x) K xs) (sym same) h)

tail_front : (n v r : ℕ) → n < 3 → r < above_64 n → (bytes : List ℕ) × ((K : ℕ → List ℕ → Type 0) (xs : List ℕ) → K (v * above_64 n + r) xs → TailBytes (suc n) v K (bytes ++ xs))
tail_front zero v r few small =
    let e : v * 0x40 + r ≡ 64 * v + r = omega arith in
    ((128 + r) ∷ [], λ K xs h. one_tail 0 v r K xs small (subst (λ u. K u xs) e h))
tail_front (suc zero) v r few small =
    let e : v * 0x1000 + r ≡ 64 * (64 * v + r / 64) + r % 64 = omega arith in (
      (128 + r / 64) ∷ (128 + r % 64) ∷ [],
      λ K xs h.
          one_tail 1 v (r / 64) K ((128 + r % 64) ∷ xs) (omega arith) (one_tail 0 (64 * v + r / 64) (r % 64) K xs (omega arith) (subst (λ u. K u xs) e h)),
    )
tail_front (suc (suc zero)) v r few small =
    let e : v * 0x4_0000 + r ≡ 64 * (64 * (64 * v + r / 4096) + r / 64 % 64) + r % 64 = omega arith in (
      (128 + r / 4096) ∷ (128 + r / 64 % 64) ∷ (128 + r % 64) ∷ [],
      λ K xs h.
          one_tail 2 v (r / 4096) K ((128 + r / 64 % 64) ∷ (128 + r % 64) ∷ xs) (omega arith)
          (one_tail 1 (64 * v + r / 4096) (r / 64 % 64) K ((128 + r % 64) ∷ xs) (omega arith) (one_tail 0 (64 * (64 * v + r / 4096) + r / 64 % 64) (r % 64) K xs (omega arith) (subst (λ u. K u xs) e h))),
    )
tail_front (suc (suc (suc n))) v r few small = absurd (omega arith)

-- bytes that complete a character
pub record PartEnd (w : Within) : Type 1 where
  pub char : ℕ
  pub bytes : List ℕ
  pub holds : (K : List ℕ → Type 0) (xs : List ℕ) → K xs → CharacterRest w char K (bytes ++ xs)

-- `\uDC00` after a high surrogate
low_digits : (h c : ℕ) (K : List ℕ → Type 0) (xs : List ℕ) → paired h 0xDC00 ≡ c → K xs → HexDigits 4 0 (LowHalf h c K) (0x44 ∷ 0x43 ∷ 0x30 ∷ 0x30 ∷ xs)
low_digits h c K xs e k = (refl, (refl, (refl, (refl, (refl, e, k)))))

unit_scalar : (u : ℕ) → u < 0x1_0000 → is_high_surrogate u ≡ false → is_low_surrogate u ≡ false → scalar u ≡ true
unit_scalar u small e f = grind (arith, nat_tests)

not_true : (t : Bool) → not t ≡ true → t ≡ false
not_true true e = absurd (cc)
not_true false e = refl

unit_end : (n v : ℕ) → is_unit_begun n v ≡ true → PartEnd (unit n v)
unit_end n v begun = by (is_high_surrogate u) refl
  where
    u : ℕ
    u = v * above_16 n + 0

    same : v * above_16 n ≡ v * above_16 n + 0
    same = omega arith

    few : n < 4
    few = ltb-true n 4 (and_parts (nat_lt n 4) (nat_lt (v * above_16 n) 0x1_0000 && not (is_low_surrogate (v * above_16 n))) begun).0

    rest : (nat_lt (v * above_16 n) 0x1_0000 && not (is_low_surrogate (v * above_16 n))) ≡ true
    rest = (and_parts (nat_lt n 4) (nat_lt (v * above_16 n) 0x1_0000 && not (is_low_surrogate (v * above_16 n))) begun).1

    small : v * above_16 n + 0 < 0x1_0000
    small = subst (λ x. x < 0x1_0000) same (ltb-true (v * above_16 n) 0x1_0000 (and_parts (nat_lt (v * above_16 n) 0x1_0000) (not (is_low_surrogate (v * above_16 n))) rest).0)

    not_low : is_low_surrogate (v * above_16 n + 0) ≡ false
    not_low = subst (λ x. is_low_surrogate x ≡ false) same (not_true _ (and_parts (nat_lt (v * above_16 n) 0x1_0000) (not (is_low_surrogate (v * above_16 n))) rest).1)

    positive : (n : ℕ) → 0 < above_16 n
    positive n = grind (arith, nat_tests)

    front : (bytes : List ℕ) × ((K : ℕ → List ℕ → Type 0) (xs : List ℕ) → K (v * above_16 n + 0) xs → HexDigits (suc n) v K (bytes ++ xs))
    front = hex_front n v 0 few (positive n)

    by : (t : Bool) → is_high_surrogate (v * above_16 n + 0) ≡ t → PartEnd (unit n v)
    by false e = record {
      char = v * above_16 n + 0;
      bytes = front.0;
      holds = λ K xs k. front.1 (Unit16 (v * above_16 n + 0) K) xs (inr (unit_scalar (v * above_16 n + 0) small e not_low, refl, k));
    }
    by true e = record {
      char = paired (v * above_16 n + 0) 0xDC00;
      bytes = front.0 ++ (0x5C ∷ 0x75 ∷ 0x44 ∷ 0x43 ∷ 0x30 ∷ 0x30 ∷ []);
      holds = λ K xs k. subst (λ z. HexDigits (suc n) v (Unit16 (paired (v * above_16 n + 0) 0xDC00) K) z) (sym (append_assoc front.0 (0x5C ∷ 0x75 ∷ 0x44 ∷ 0x43 ∷ 0x30 ∷ 0x30 ∷ []) xs))
          (front.1 (Unit16 (paired (v * above_16 n + 0) 0xDC00) K) (0x5C ∷ 0x75 ∷ 0x44 ∷ 0x43 ∷ 0x30 ∷ 0x30 ∷ xs) (inl (e, (refl, (refl, low_digits (v * above_16 n + 0) (paired (v * above_16 n + 0) 0xDC00) K xs refl k)))));
    }

-- the least low surrogate from v * step on
low_end : (n v h : ℕ) → is_high_surrogate h ≡ true → is_low_begun n v ≡ true → PartEnd (low n v h)
low_end n v h is_high begun = record {
  char = paired h (v * above_16 n + r);
  bytes = front.0;
  holds = λ K xs k. (is_high, front.1 (LowHalf h (paired h (v * above_16 n + r)) K) xs (is_low, refl, k));
}
  where
    r : ℕ
    r = 0xDC00 - v * above_16 n

    few : n < 4
    few = ltb-true n 4 (and_parts (nat_lt n 4) (nat_lt (v * above_16 n) 0xE000 && nat_lt 0xDC00 ((v + 1) * above_16 n)) begun).0

    rest : (nat_lt (v * above_16 n) 0xE000 && nat_lt 0xDC00 ((v + 1) * above_16 n)) ≡ true
    rest = (and_parts (nat_lt n 4) (nat_lt (v * above_16 n) 0xE000 && nat_lt 0xDC00 ((v + 1) * above_16 n)) begun).1

    below : v * above_16 n < 0xE000
    below = ltb-true (v * above_16 n) 0xE000 (and_parts (nat_lt (v * above_16 n) 0xE000) (nat_lt 0xDC00 ((v + 1) * above_16 n)) rest).0

    above : 0xDC00 < (v + 1) * above_16 n
    above = ltb-true 0xDC00 ((v + 1) * above_16 n) (and_parts (nat_lt (v * above_16 n) 0xE000) (nat_lt 0xDC00 ((v + 1) * above_16 n)) rest).1

    fits : (w p : ℕ) → 0xDC00 < w + p → 0 < p → 0xDC00 - w < p
    fits w p a b = omega arith

    spread : (v + 1) * above_16 n ≡ v * above_16 n + above_16 n
    spread = omega arith

    positive : (n : ℕ) → 0 < above_16 n
    positive n = grind (arith, nat_tests)

    front : (bytes : List ℕ) × ((K : ℕ → List ℕ → Type 0) (xs : List ℕ) → K (v * above_16 n + (0xDC00 - v * above_16 n)) xs → HexDigits (suc n) v K (bytes ++ xs))
    front = hex_front n v (0xDC00 - v * above_16 n) few (fits (v * above_16 n) (above_16 n) (subst (λ x. 0xDC00 < x) spread above) (positive n))

    low_at : (w : ℕ) → w < 0xE000 → is_low_surrogate (w + (0xDC00 - w)) ≡ true
    low_at w b = let l : 0xDC00 ≤ w + (0xDC00 - w) = omega arith in let m : w + (0xDC00 - w) < 0xE000 = omega arith in and_from (nat_le 0xDC00 (w + (0xDC00 - w))) (nat_lt (w + (0xDC00 - w)) 0xE000) (le-leb _ _ l) (lt-ltb _ _ m)

    is_low : is_low_surrogate (v * above_16 n + (0xDC00 - v * above_16 n)) ≡ true
    is_low = low_at (v * above_16 n) below

tail_end : (least n v : ℕ) → is_tail_begun least n v ≡ true → PartEnd (tail least n v)
tail_end least n v begun = record {
  char = max least (v * above_64 n);
  bytes = front.0;
  holds = λ K xs k. front.1 (IsFrom least (max least (v * above_64 n)) K) xs (whole least (v * above_64 n), above_least least (v * above_64 n), is_char, k);
}
  where
    few : n < 3
    few = ltb-true n 3 (and_parts (nat_lt n 3) (scalar (max least (v * above_64 n)) && nat_lt (max least (v * above_64 n)) ((v + 1) * above_64 n)) begun).0

    rest : (scalar (max least (v * above_64 n)) && nat_lt (max least (v * above_64 n)) ((v + 1) * above_64 n)) ≡ true
    rest = (and_parts (nat_lt n 3) (scalar (max least (v * above_64 n)) && nat_lt (max least (v * above_64 n)) ((v + 1) * above_64 n)) begun).1

    is_char : scalar (max least (v * above_64 n)) ≡ true
    is_char = (and_parts (scalar (max least (v * above_64 n))) (nat_lt (max least (v * above_64 n)) ((v + 1) * above_64 n)) rest).0

    below : max least (v * above_64 n) < (v + 1) * above_64 n
    below = ltb-true _ _ (and_parts (scalar (max least (v * above_64 n))) (nat_lt (max least (v * above_64 n)) ((v + 1) * above_64 n)) rest).1

    spread : (v + 1) * above_64 n ≡ v * above_64 n + above_64 n
    spread = omega arith

    fits : (w p m : ℕ) → m < w + p → w ≤ m → m - w < p
    fits w p m a b = omega arith

    above_least : (a b : ℕ) → a ≤ max a b
    above_least a b = omega arith

    at_least : (a b : ℕ) → b ≤ max a b
    at_least a b = omega arith

    whole : (a b : ℕ) → b + (max a b - b) ≡ max a b
    whole a b = omega arith

    front : (bytes : List ℕ) × ((K : ℕ → List ℕ → Type 0) (xs : List ℕ) → K (v * above_64 n + (max least (v * above_64 n) - v * above_64 n)) xs → TailBytes (suc n) v K (bytes ++ xs))
    front = tail_front n v (max least (v * above_64 n) - v * above_64 n) few (fits (v * above_64 n) (above_64 n) (max least (v * above_64 n)) (subst (λ x. max least (v * above_64 n) < x) spread below) (at_least least (v * above_64 n)))

pub part_end : (w : Within) → is_begun w ≡ true → PartEnd w
unfolding encode_utf8
part_end plain begun = record { char = 0x61; bytes = 0x61 ∷ []; holds = λ K xs k. inl (refl, (refl, k)) }
part_end escape begun = record { char = 0x0A; bytes = 0x6E ∷ []; holds = λ K xs k. inl (refl, k) }
part_end (unit n v) begun = unit_end n v begun
part_end (high h) begun = record { char = paired h 0xDC00; bytes = 0x5C ∷ 0x75 ∷ 0x44 ∷ 0x43 ∷ 0x30 ∷ 0x30 ∷ []; holds = λ K xs k. (begun, (refl, (refl, low_digits h (paired h 0xDC00) K xs refl k))) }
part_end (high_escape h) begun = record { char = paired h 0xDC00; bytes = 0x75 ∷ 0x44 ∷ 0x43 ∷ 0x30 ∷ 0x30 ∷ []; holds = λ K xs k. (begun, (refl, low_digits h (paired h 0xDC00) K xs refl k)) }
part_end (low n v h) begun = low_end n v h (and_parts (is_high_surrogate h) (is_low_begun n v) begun).0 (and_parts (is_high_surrogate h) (is_low_begun n v) begun).1
part_end (tail least n v) begun = tail_end least n v (and_parts (scalar least) (is_tail_begun least n v) begun).1
