-- A compact text is read as the value that it was written of; and what is true of its parts is true of it.
use Rattle.std.proofs.Common.{◌≡◌, ℕ, zero, suc, ◌^◌, ◌<◌, ◌≤◌, Bool, true, false, List, [], ◌∷◌, ◌++◌, append-nil, Some, inl, inr, ℤ, pos, negsuc, neg_ℤ, ◌≤ℤ◌, decimal, IsUtf8, refl, sym, ap, ◌∙◌, subst, arith}
use Rattle.std.specs.Prelude.{⊤, ◌&&◌, nat_lt, option_and_then}
use Rattle.std.specs.Fmt.{signed_decimal}
use Rattle.std.specs.List.{list_all}
use Rattle.std.specs.Str.Parse.{AllDigits}
use Rattle.std.proofs.lemmas.Bool.{cases_eq, cases_lt}
use Rattle.std.proofs.lemmas.Bool.Decides.{nat_tests}
use Rattle.std.proofs.lemmas.Fmt.{decimal_is_IsNumeral_wide}
use Rattle.std.proofs.lemmas.Int.{ints}
use Rattle.std.proofs.lemmas.List.Folds.{list_all-append}
use Rattle.std.proofs.lemmas.Str.{IsUtf8-append}
use Rattle.std.proofs.lemmas.Str.Parse.{digit_from_value}
use Rattle.json.specs.Json as json
use Rattle.json.specs.Lex.{tokens}
use Rattle.json.specs.Print.{escape, escape_byte, quoted}
use Rattle.json.specs.Tree as tree
use Rattle.json.specs.Tree.{HasNumbers, json_tokens}
use Rattle.json.proofs.Printed.Decimals.{IsNumber-decimal, IsNumber-signed_decimal}
use Rattle.json.proofs.Printed.Strings.{escape_byte_plain}
use Rattle.json.proofs.Printed.Tokens.{tokens-print}
use Rattle.json.proofs.Printed.Trees.{ArePrintable-json_tokens, value-json_tokens}
use Rattle.json.proofs.Printed.Utf8.{IsUtf8-are_ascii, IsUtf8-quoted, are_ascii}
use Rattle.plane_edges.proofs.Truth.{and_left, and_right, and_true}
use Rattle.serde_json.specs.Data.{Data, Items, Members, array, boolean, item, member, no_items, no_members, null, number, object, string}
use Rattle.serde_json.specs.Find.{of_integer}
use Rattle.serde_json.specs.Read.{max_depth, number_of, of_json, read}
use Rattle.serde_json.specs.Written.{comma_if, compact_text, items_text, members_text, number_text, outline}
use Rattle.serde_json.proofs.Numbers.{number_of-decimal, number_of-negative}
use Rattle.serde_json.proofs.Texts.{print-outline}
use Rattle.covering_laws.specs.Feeds.{has_no_feed, is_no_feed}

-- ---- read

pub text_read : (d : Data) → HasNumbers (outline d) → tree.depth (outline d) ≤ max_depth → of_json (outline d) ≡ Some d → read (compact_text d) ≡ Some d
text_read d numbers shallow same =
    let ts = json_tokens (outline d) in
    let printed = ap tokens (sym (print-outline d)) ∙ tokens-print ts (ArePrintable-json_tokens (outline d) numbers) in
    ap (λ o. option_and_then of_json (option_and_then (λ p. json.if_last p.0 p.1) o)) (ap (json.value max_depth) (printed ∙ sym (append-nil ts)) ∙ value-json_tokens (outline d) max_depth [] shallow) ∙ same

-- ---- numbers

-- far below what a number of a text may be
abbrev pub IsSmall : ℤ → Type 0
IsSmall z = (neg_ℤ (pos (2 ^ 62)) ≤ℤ z) × (z ≤ℤ pos (2 ^ 62))

pub number_read : (z : ℤ) → IsSmall z → number_of (number_text (of_integer z)) ≡ Some (of_integer z)
number_read (pos n) h = number_of-decimal n (omega (arith, ints, h.1))
number_read (negsuc n) h = number_of-negative n (omega (arith, ints, h.0))

pub number_printed : (z : ℤ) → IsSmall z → HasNumbers (outline (number (of_integer z)))
number_printed (pos n) h = IsNumber-decimal n (omega (arith, ints, h.1))
number_printed (negsuc n) h = IsNumber-signed_decimal (negsuc n) (omega (arith, ints, h.0))

-- ---- visible bytes

abbrev is_visible : ℕ → Bool
is_visible b = nat_lt 31 b && nat_lt b 128

abbrev pub IsPlain : List ℕ → Type 0
IsPlain bs = list_all is_visible bs ≡ true

visible : (b : ℕ) → 32 ≤ b → b < 128 → is_visible b ≡ true
visible b low high = grind (arith, nat_tests)

pub plain-append : (xs ys : List ℕ) → IsPlain xs → IsPlain ys → IsPlain (xs ++ ys)
plain-append xs ys h k = list_all-append is_visible xs ys ∙ and_true (list_all is_visible xs) (list_all is_visible ys) h k

digits_plain : (ds : List ℕ) → AllDigits 10 ds → IsPlain ds
digits_plain [] h = refl
digits_plain (d ∷ ds) h =
    let digit = digit_from_value d h.0 in
    and_true (is_visible d) (list_all is_visible ds) (visible d (omega arith) (omega arith)) (digits_plain ds h.1)

-- as wide as the numbers of a point
abbrev pub IsWide : ℤ → Type 0
IsWide z = (neg_ℤ (pos (2 ^ 70)) ≤ℤ z) × (z ≤ℤ pos (2 ^ 70))

pub natural_plain : (n : ℕ) → n ≤ 2 ^ 70 → IsPlain (decimal n)
natural_plain n h = digits_plain (decimal n) (decimal_is_IsNumeral_wide n (omega arith)).0.1

pub signed_plain : (z : ℤ) → IsWide z → IsPlain (signed_decimal z)
signed_plain (pos n) h = natural_plain n (omega (arith, ints, h.1))
signed_plain (negsuc n) h = natural_plain (suc n) (omega (arith, ints, h.0))

pub number_plain : (z : ℤ) → IsWide z → IsPlain (number_text (of_integer z))
number_plain (pos n) h = signed_plain (pos n) h
number_plain (negsuc n) h = signed_plain (negsuc n) h

-- ---- a property of a value's texts

-- Each number's text is plain, and each string and each key has the property.
abbrev mutual
  pub IsOfTexts : (List ℕ → Type 0) → Data → Type 0
  IsOfTexts Q null = ⊤
  IsOfTexts Q (boolean b) = ⊤
  IsOfTexts Q (number n) = IsPlain (number_text n)
  IsOfTexts Q (string s) = Q s
  IsOfTexts Q (array ds) = AreOfTexts Q ds
  IsOfTexts Q (object ms) = HaveTexts Q ms

  AreOfTexts : (List ℕ → Type 0) → Items → Type 0
  AreOfTexts Q no_items = ⊤
  AreOfTexts Q (item d ds) = IsOfTexts Q d × AreOfTexts Q ds

  HaveTexts : (List ℕ → Type 0) → Members → Type 0
  HaveTexts Q no_members = ⊤
  HaveTexts Q (member k d ms) = Q k × (IsOfTexts Q d × HaveTexts Q ms)

-- What plain bytes have, and quoted strings that have Q, and pieces one behind the other: so has the text.
module _ (Q P : List ℕ → Type 0) (plain : (bs : List ℕ) → IsPlain bs → P bs) (quotes : (s : List ℕ) → Q s → P (quoted s)) (joins : (xs ys : List ℕ) → P xs → P ys → P (xs ++ ys)) where
  comma_has : (later : Bool) → P (comma_if later)
  comma_has true = plain (44 ∷ []) refl
  comma_has false = plain [] refl

  boolean_has : (b : Bool) → P (compact_text (boolean b))
  boolean_has true = plain (compact_text (boolean true)) refl
  boolean_has false = plain (compact_text (boolean false)) refl

  mutual
    pub text_has : (d : Data) → IsOfTexts Q d → P (compact_text d)
    text_has null h = plain (compact_text null) refl
    text_has (boolean b) h = boolean_has b
    text_has (number n) h = plain (number_text n) h
    text_has (string s) h = quotes s h
    text_has (array ds) h = joins (91 ∷ []) (items_text false ds) (plain (91 ∷ []) refl) (items_have false ds h)
    text_has (object ms) h = joins (123 ∷ []) (members_text false ms) (plain (123 ∷ []) refl) (members_have false ms h)

    items_have : (later : Bool) (ds : Items) → AreOfTexts Q ds → P (items_text later ds)
    items_have later no_items h = plain (93 ∷ []) refl
    items_have later (item d ds) h =
        joins (comma_if later) (compact_text d ++ items_text true ds) (comma_has later)
        (joins (compact_text d) (items_text true ds) (text_has d h.0) (items_have true ds h.1))

    members_have : (later : Bool) (ms : Members) → HaveTexts Q ms → P (members_text later ms)
    members_have later no_members h = plain (125 ∷ []) refl
    members_have later (member k d ms) h =
        joins (comma_if later) (quoted k ++ 58 ∷ (compact_text d ++ members_text true ms)) (comma_has later)
        (joins (quoted k) (58 ∷ (compact_text d ++ members_text true ms)) (quotes k h.0)
        (joins (58 ∷ []) (compact_text d ++ members_text true ms) (plain (58 ∷ []) refl)
        (joins (compact_text d) (members_text true ms) (text_has d h.1.0) (members_have true ms h.1.1))))

-- ---- UTF-8

plain_ascii : (bs : List ℕ) → IsPlain bs → are_ascii bs ≡ true
plain_ascii [] h = refl
plain_ascii (b ∷ bs) h =
    let first = and_left (is_visible b) (list_all is_visible bs) h in
    and_true (nat_lt b 128) (are_ascii bs) (and_right (nat_lt 31 b) (nat_lt b 128) first) (plain_ascii bs (and_right (is_visible b) (list_all is_visible bs) h))

pub plain_utf8 : (bs : List ℕ) → IsPlain bs → IsUtf8 bs
plain_utf8 bs h = IsUtf8-are_ascii bs (plain_ascii bs h)

pub text_utf8 : (d : Data) → IsOfTexts IsUtf8 d → IsUtf8 (compact_text d)
text_utf8 d h = text_has IsUtf8 IsUtf8 plain_utf8 IsUtf8-quoted IsUtf8-append d h

-- ---- no line feed

abbrev pub HasNoFeed : List ℕ → Type 0
HasNoFeed bs = has_no_feed bs ≡ true

pub no_feed-append : (xs ys : List ℕ) → HasNoFeed xs → HasNoFeed ys → HasNoFeed (xs ++ ys)
no_feed-append xs ys h k = list_all-append is_no_feed xs ys ∙ and_true (has_no_feed xs) (has_no_feed ys) h k

plain_no_feed : (bs : List ℕ) → IsPlain bs → HasNoFeed bs
plain_no_feed [] h = refl
plain_no_feed (b ∷ bs) h =
    let first = and_left (nat_lt 31 b) (nat_lt b 128) (and_left (is_visible b) (list_all is_visible bs) h) in
    let other : is_no_feed b ≡ true = grind (arith, nat_tests) in
    and_true (is_no_feed b) (has_no_feed bs) other (plain_no_feed bs (and_right (is_visible b) (list_all is_visible bs) h))

-- no escape of a byte below n has one
abbrev no_feeds_below : ℕ → Bool
no_feeds_below zero = true
no_feeds_below (suc n) = has_no_feed (escape_byte n) && no_feeds_below n

below : (n : ℕ) → no_feeds_below n ≡ true → (x : ℕ) → x < n → HasNoFeed (escape_byte x)
below zero e x h = absurd (omega arith)
below (suc n) e x h = elim (cases_eq x n) [
  | inl same ↦ rw same (and_left (has_no_feed (escape_byte n)) (no_feeds_below n) e)
  | inr other ↦ below n (and_right (has_no_feed (escape_byte n)) (no_feeds_below n) e) x (omega arith)
]

none_below : no_feeds_below 128 ≡ true
unfolding escape_byte
none_below = refl

escape_byte_no_feed : (x : ℕ) → HasNoFeed (escape_byte x)
escape_byte_no_feed x = elim (cases_lt x 128) [
  | inl small ↦ below 128 none_below x small
  | inr large ↦
      let other : is_no_feed x ≡ true = grind (arith, nat_tests) in
      subst HasNoFeed (sym (escape_byte_plain x (λ e. omega arith) (λ e. omega arith) (omega arith))) (and_true (is_no_feed x) true other refl)
]

escape_no_feed : (s : List ℕ) → HasNoFeed (escape s)
escape_no_feed [] = refl
escape_no_feed (x ∷ xs) = no_feed-append (escape_byte x) (escape xs) (escape_byte_no_feed x) (escape_no_feed xs)

quoted_no_feed : (s : List ℕ) → ⊤ → HasNoFeed (quoted s)
quoted_no_feed s h = no_feed-append (escape s) (34 ∷ []) (escape_no_feed s) refl

pub text_no_feed : (d : Data) → IsOfTexts (λ s. ⊤) d → has_no_feed (compact_text d) ≡ true
text_no_feed d h = text_has (λ s. ⊤) HasNoFeed plain_no_feed quoted_no_feed no_feed-append d h
