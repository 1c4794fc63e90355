-- Texts without blanks are spelled by JSON's grammar: texts of plain characters, lists and objects.
use Rattle.std.proofs.Common.{◌≡◌, ℕ, ℤ, unsigned_abs, All, ◌^◌, suc, ◌<◌, ◌≤◌, true, List, [], ◌∷◌, ◌++◌, map, inl, refl, sym, subst, append_assoc, codes, arith, nat_lt}
use Rattle.std.proofs.lemmas.Bool.{and_parts}
use Rattle.std.proofs.lemmas.Bool.Decides.{nat_tests}
use Rattle.std.proofs.lemmas.List.Elements.{All-head, All-tail}
use Rattle.std.specs.Char.{encode_utf8}
use Rattle.std.specs.Fmt.{signed_decimal}
use Rattle.std.specs.List.{list_all}
use Rattle.std.specs.Str.{encode_utf8_all}
use Rattle.json_character.specs.Ascii as ascii
use Rattle.exact_json.specs.Grammar.{Value, Items, MoreItems, Members, MoreMembers}
use Rattle.exact_json.specs.Limits.{limits_before}
use Rattle.json_character.specs.Pieces.{Is, Byte, Blanks}
use Rattle.json_character.specs.Texts.{Quoted, Characters, is_plain}
use Rattle.json_value.specs.Tree.{Tree, number, text, no_item, no_pair, Entry, list_of, table_of, items_before, pairs_before}
use Rattle.order_text.specs.Line.{items_text, list_text, more_text}
use Rattle.order_text.proofs.NumberLemmas.{spelled_number, whole_decimal}
use Rattle.year_table.specs.Rules.{is_rule_byte}

-- No blanks stand.

pub no_blanks : (K : List ℕ → Type 0) (xs : List ℕ) → K xs → Blanks K xs
no_blanks K [] k = k
no_blanks K (x ∷ xs) k = inl k

-- Texts.

rule_byte_plain : (b : ℕ) → is_rule_byte b ≡ true → is_plain b ≡ true
rule_byte_plain b h = grind (arith, nat_tests)

rule_byte_alone : (b : ℕ) → is_rule_byte b ≡ true → encode_utf8 b ≡ b ∷ []
unfolding encode_utf8
rule_byte_alone b h = let low : nat_lt b 128 ≡ true = grind (arith, nat_tests) in rw low refl

spelled_characters : (s : List ℕ) (K : List ℕ → Type 0) (ys : List ℕ) → list_all is_rule_byte s ≡ true → K ys → Characters s K (s ++ ys)
spelled_characters [] K ys are k = k
spelled_characters (b ∷ bs) K ys are k =
    let both = and_parts (is_rule_byte b) (list_all is_rule_byte bs) are in
    inl (rule_byte_plain b both.0, rw (rule_byte_alone b both.0) (refl, spelled_characters bs K ys both.1 k))

all_alone : (s : List ℕ) → list_all is_rule_byte s ≡ true → encode_utf8_all s ≡ s
all_alone [] h = refl
all_alone (b ∷ bs) h =
    let both = and_parts (is_rule_byte b) (list_all is_rule_byte bs) h in
    rw (rule_byte_alone b both.0, all_alone bs both.1) refl

-- of bytes from `!` to `~` without quote and backslash
pub spelled_quoted : (s ys : List ℕ) → list_all is_rule_byte s ≡ true → Quoted s (ascii.quote ∷ (s ++ ascii.quote ∷ ys)) ys
spelled_quoted s ys h = (s, all_alone s h, (refl, spelled_characters s _ (ascii.quote ∷ ys) h (refl, refl)))

-- Values.

-- the text is a value inside so many lists and objects, whatever follows it
abbrev pub Spells : ℕ → Tree → List ℕ → Type 0
Spells depth t s = (ys : List ℕ) → Value (limits_before 0) depth t (s ++ ys) ys

pub spells_number : (depth : ℕ) (z : ℤ) → unsigned_abs z ≤ 10 ^ 15 → Spells depth (number (whole_decimal z)) (signed_decimal z)
spells_number depth z h ys = spelled_number z ys h

abbrev pub quoted : List ℕ → List ℕ
quoted s = codes "\"" ++ (s ++ codes "\"")

pub spells_text : (depth : ℕ) (s : List ℕ) → list_all is_rule_byte s ≡ true → Spells depth (text s) (quoted s)
spells_text depth s h ys = rw append_assoc (spelled_quoted s ys h)

-- a list of values, each with its text
module _ {A : Type 0} (tree : A → Tree) (text_of : A → List ℕ) (depth : ℕ) where
  abbrev IsSpelled : A → Type 0
  IsSpelled x = Spells (suc depth) (tree x) (text_of x)

  spelled_more : (xs : List A) (ys : List ℕ) → All IsSpelled xs → MoreItems (limits_before 0) (suc depth) (items_before (map tree xs) no_item) (more_text text_of xs ++ (codes "]" ++ ys)) ys
  unfolding more_text
  spelled_more [] ys are = no_blanks (Byte ascii.close_bracket (Is ys)) (codes "]" ++ ys) (refl, refl)
  spelled_more (x ∷ xs) ys are =
      let rest : List ℕ = more_text text_of xs ++ (codes "]" ++ ys) in
      let after : List ℕ = (text_of x ++ more_text text_of xs) ++ (codes "]" ++ ys) in (
        rest,
        no_blanks (Byte ascii.comma (Blanks (λ r. Value (limits_before 0) (suc depth) (tree x) r rest))) (ascii.comma ∷ after)
            (refl, no_blanks (λ r. Value (limits_before 0) (suc depth) (tree x) r rest) after (rw append_assoc (All-head IsSpelled x xs are rest))),
        spelled_more xs ys (All-tail IsSpelled x xs are),
      )

  spelled_items : (xs : List A) (ys : List ℕ) → All IsSpelled xs → Items (limits_before 0) (suc depth) (items_before (map tree xs) no_item) (items_text text_of xs ++ (codes "]" ++ ys)) ys
  spelled_items [] ys are = no_blanks (Byte ascii.close_bracket (Is ys)) (codes "]" ++ ys) (refl, refl)
  spelled_items (x ∷ xs) ys are =
      let rest : List ℕ = more_text text_of xs ++ (codes "]" ++ ys) in (
        rest,
        no_blanks (λ r. Value (limits_before 0) (suc depth) (tree x) r rest) ((text_of x ++ more_text text_of xs) ++ (codes "]" ++ ys)) (rw append_assoc (All-head IsSpelled x xs are rest)),
        spelled_more xs ys (All-tail IsSpelled x xs are),
      )

  pub spells_list : (xs : List A) → depth < 64 → All IsSpelled xs → Spells depth (list_of (map tree xs)) (list_text text_of xs)
  spells_list xs h are ys =
      let open_here : nat_lt depth 64 ≡ true = grind (arith, nat_tests) in
      (open_here, (refl, rw append_assoc (spelled_items xs ys are)))

-- an object of members, each with its name and text
pub record Field : Type 0 where
  pub name : List ℕ
  pub value : Tree
  pub spelled : List ℕ

abbrev pub entry_of : Field → Entry
entry_of f = record { name = f.name; value = f.value }

abbrev pub field_text : Field → List ℕ
field_text f = quoted f.name ++ (codes ":" ++ f.spelled)

abbrev pub object_text : List Field → List ℕ
object_text fs = codes "{" ++ (items_text field_text fs ++ codes "}")

pub record IsField (depth : ℕ) (f : Field) : Type 0 where
  pub plain : list_all is_rule_byte f.name ≡ true
  pub spells : Spells (suc depth) f.value f.spelled

module _ (depth : ℕ) where
  -- a name, a colon and a value
  spelled_name : (f : Field) (zs : List ℕ) → IsField depth f → Quoted f.name (field_text f ++ zs) (codes ":" ++ (f.spelled ++ zs))
  spelled_name f zs is =
      let after : List ℕ = codes ":" ++ (f.spelled ++ zs) in
      let opens : ascii.quote ∷ (f.name ++ ascii.quote ∷ after) ≡ field_text f ++ zs = simp append_assoc in
      subst (λ xs. Quoted f.name xs after) opens (spelled_quoted f.name after is.plain)

  name_first : (f : Field) (fs : List Field) (ys : List ℕ) → IsField depth f → Quoted f.name ((field_text f ++ more_text field_text fs) ++ (codes "}" ++ ys)) (codes ":" ++ (f.spelled ++ (more_text field_text fs ++ (codes "}" ++ ys))))
  name_first f fs ys is =
      let rest : List ℕ = more_text field_text fs ++ (codes "}" ++ ys) in
      subst (λ xs. Quoted f.name xs (codes ":" ++ (f.spelled ++ rest))) (sym (append_assoc (field_text f) (more_text field_text fs) (codes "}" ++ ys))) (spelled_name f rest is)

  spelled_value : (f : Field) (zs : List ℕ) → IsField depth f → Blanks (Byte ascii.colon (Blanks (λ rest. Value (limits_before 0) (suc depth) f.value rest zs))) (codes ":" ++ (f.spelled ++ zs))
  spelled_value f zs is =
      no_blanks (Byte ascii.colon (Blanks (λ rest. Value (limits_before 0) (suc depth) f.value rest zs))) (codes ":" ++ (f.spelled ++ zs))
      (refl, no_blanks (λ rest. Value (limits_before 0) (suc depth) f.value rest zs) (f.spelled ++ zs) (is.spells zs))

  spelled_more_members : (fs : List Field) (ys : List ℕ) → All (IsField depth) fs → MoreMembers (limits_before 0) (suc depth) (pairs_before (map entry_of fs) no_pair) (more_text field_text fs ++ (codes "}" ++ ys)) ys
  unfolding more_text
  spelled_more_members [] ys are = no_blanks (Byte ascii.close_brace (Is ys)) (codes "}" ++ ys) (refl, refl)
  spelled_more_members (f ∷ fs) ys are =
      let rest : List ℕ = more_text field_text fs ++ (codes "}" ++ ys) in
      let after : List ℕ = (field_text f ++ more_text field_text fs) ++ (codes "}" ++ ys) in
      let is = All-head (IsField depth) f fs are in (
        codes ":" ++ (f.spelled ++ rest),
        rest,
        no_blanks (Byte ascii.comma (Blanks (λ r. Quoted f.name r (codes ":" ++ (f.spelled ++ rest))))) (ascii.comma ∷ after)
            (refl, no_blanks (λ r. Quoted f.name r (codes ":" ++ (f.spelled ++ rest))) after (name_first f fs ys is)),
        spelled_value f rest is,
        spelled_more_members fs ys (All-tail (IsField depth) f fs are),
      )

  spelled_members : (fs : List Field) (ys : List ℕ) → All (IsField depth) fs → Members (limits_before 0) (suc depth) (pairs_before (map entry_of fs) no_pair) (items_text field_text fs ++ (codes "}" ++ ys)) ys
  spelled_members [] ys are = no_blanks (Byte ascii.close_brace (Is ys)) (codes "}" ++ ys) (refl, refl)
  spelled_members (f ∷ fs) ys are =
      let rest : List ℕ = more_text field_text fs ++ (codes "}" ++ ys) in
      let after : List ℕ = (field_text f ++ more_text field_text fs) ++ (codes "}" ++ ys) in
      let is = All-head (IsField depth) f fs are in (
        codes ":" ++ (f.spelled ++ rest),
        rest,
        no_blanks (λ r. Quoted f.name r (codes ":" ++ (f.spelled ++ rest))) after (name_first f fs ys is),
        spelled_value f rest is,
        spelled_more_members fs ys (All-tail (IsField depth) f fs are),
      )

  pub spells_object : (fs : List Field) → depth < 64 → All (IsField depth) fs → Spells depth (table_of (map entry_of fs)) (object_text fs)
  spells_object fs h are ys =
      let open_here : nat_lt depth 64 ≡ true = grind (arith, nat_tests) in
      (open_here, (refl, rw append_assoc (spelled_members fs ys are)))
