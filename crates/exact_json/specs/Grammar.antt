-- JSON's grammar (RFC 8259), in UTF-8, over the plain tree.
use Rattle.std.specs.Prelude.{◌≡◌, ℕ, suc, ◌==◌, Bool, true, false, List, [], ◌∷◌, ◌++◌, ◌⊎◌, length, codes}
use Rattle.json_character.specs.Ascii as ascii
use Rattle.json_character.specs.Ascii.{is_exponent_letter}
use Rattle.exact_decimal.specs.Decimals.{decimal_of}
use Rattle.exact_json.specs.Limits.{Limits, no_limits, limits_before}
use Rattle.json_character.specs.Pieces.{Is, AtEnd, Byte, OneOf, Word, Digits, Blanks}
use Rattle.json_character.specs.Texts.{Quoted}
use Rattle.json_value.specs.Tree.{Tree, null, flag, number, text, list, table, Trees, no_item, item, Pairs, no_pair, pair}
use Rattle.exact_decimal.specs.declared.decimal.Decimal.{Decimal}

-- Numbers (section 6).

abbrev pub Minus : Bool → (List ℕ → Type 0) → List ℕ → Type 0
Minus true K xs = Byte ascii.minus K xs
Minus false K xs = K xs

-- at least one digit, and no leading zero
abbrev pub IsWhole : List ℕ → Type 0
IsWhole [] = ⊥
IsWhole (d ∷ []) = Unit {0}
IsWhole (d ∷ e ∷ ds) = (d == 0) ≡ false

-- a point and digits, or nothing
abbrev pub Fraction : List ℕ → (List ℕ → Type 0) → List ℕ → Type 0
Fraction [] K xs = K xs
Fraction (d ∷ ds) K xs = Byte ascii.point (Digits (d ∷ ds) K) xs

-- a sign, of which plus may be left out
abbrev pub Sign : Bool → (List ℕ → Type 0) → List ℕ → Type 0
Sign true K xs = Byte ascii.minus K xs
Sign false K xs = Byte ascii.plus K xs ⊎ K xs

-- a letter, a sign and digits, or nothing
abbrev pub Exponent : Bool → List ℕ → (List ℕ → Type 0) → List ℕ → Type 0
Exponent negative [] K xs = (negative ≡ false) × K xs
Exponent negative (d ∷ ds) K xs = OneOf is_exponent_letter (Sign negative (Digits (d ∷ ds) K)) xs

-- a number's parts, as they are written
pub record Parts : Type 0 where
  pub negative : Bool
  pub whole : List ℕ
  pub fraction : List ℕ
  pub exponent_negative : Bool
  pub exponent : List ℕ

abbrev pub decimal_of_parts : Parts → Decimal
decimal_of_parts n = decimal_of n.negative n.whole n.fraction n.exponent_negative n.exponent

-- xs is a number, and then ys
abbrev pub Number : Limits → Decimal → List ℕ → List ℕ → Type 0
Number limits d xs ys =
    (n : Parts)
    × IsWhole n.whole
    × Minus n.negative (Digits n.whole (Fraction n.fraction (Exponent n.exponent_negative n.exponent (Is ys)))) xs
    × (decimal_of_parts n ≡ d)
    × (limits.may_reach (length xs) (length ys) ≡ true)

-- Values (sections 2 to 5).

abbrev pub flag_word : Bool → List ℕ
flag_word true = codes "true"
flag_word false = codes "false"

abbrev mutual
  -- xs is a value, and then ys; the value stands inside `depth` lists and tables
  pub Value : Limits → ℕ → Tree → List ℕ → List ℕ → Type 0
  Value limits depth null xs ys = Word (codes "null") (Is ys) xs
  Value limits depth (flag b) xs ys = Word (flag_word b) (Is ys) xs
  Value limits depth (number d) xs ys = Number limits d xs ys
  Value limits depth (text s) xs ys = Quoted s xs ys
  Value limits depth (list ts) xs ys = (limits.may_open depth ≡ true) × Byte ascii.open_bracket (λ zs. Items limits (suc depth) ts zs ys) xs
  Value limits depth (table ps) xs ys = (limits.may_open depth ≡ true) × Byte ascii.open_brace (λ zs. Members limits (suc depth) ps zs ys) xs

  -- after a list's bracket
  pub Items : Limits → ℕ → Trees → List ℕ → List ℕ → Type 0
  Items limits depth no_item xs ys = Blanks (Byte ascii.close_bracket (Is ys)) xs
  Items limits depth (item t ts) xs ys = (zs : List ℕ) × Blanks (λ rest. Value limits depth t rest zs) xs × MoreItems limits depth ts zs ys

  -- after an item
  pub MoreItems : Limits → ℕ → Trees → List ℕ → List ℕ → Type 0
  MoreItems limits depth no_item xs ys = Blanks (Byte ascii.close_bracket (Is ys)) xs
  MoreItems limits depth (item t ts) xs ys =
      (zs : List ℕ) × Blanks (Byte ascii.comma (Blanks (λ rest. Value limits depth t rest zs))) xs × MoreItems limits depth ts zs ys

  -- after a table's brace
  pub Members : Limits → ℕ → Pairs → List ℕ → List ℕ → Type 0
  Members limits depth no_pair xs ys = Blanks (Byte ascii.close_brace (Is ys)) xs
  Members limits depth (pair name t ps) xs ys =
      (after_name zs : List ℕ)
      × Blanks (λ rest. Quoted name rest after_name) xs
      × Blanks (Byte ascii.colon (Blanks (λ rest. Value limits depth t rest zs))) after_name
      × MoreMembers limits depth ps zs ys

  -- after a member
  pub MoreMembers : Limits → ℕ → Pairs → List ℕ → List ℕ → Type 0
  MoreMembers limits depth no_pair xs ys = Blanks (Byte ascii.close_brace (Is ys)) xs
  MoreMembers limits depth (pair name t ps) xs ys =
      (after_name zs : List ℕ)
      × Blanks (Byte ascii.comma (Blanks (λ rest. Quoted name rest after_name))) xs
      × Blanks (Byte ascii.colon (Blanks (λ rest. Value limits depth t rest zs))) after_name
      × MoreMembers limits depth ps zs ys

-- Texts. One byte order mark may stand at the front.

abbrev pub Unmarked : Limits → Tree → List ℕ → Type 0
Unmarked limits t xs = (zs : List ℕ) × Blanks (λ rest. Value limits 0 t rest zs) xs × Blanks AtEnd zs

abbrev pub IsJsonBy : Limits → Tree → List ℕ → Type 0
IsJsonBy limits t xs = Unmarked limits t xs ⊎ Word (0xEF ∷ 0xBB ∷ 0xBF ∷ []) (Unmarked limits t) xs

-- the bytes are a JSON text with this tree; and one within the limits
abbrev pub IsJson : Tree → List ℕ → Type 0
IsJson t bytes = IsJsonBy no_limits t bytes

abbrev pub IsJsonWithin : Tree → List ℕ → Type 0
IsJsonWithin t bytes = IsJsonBy (limits_before 0) t bytes

-- some JSON text begins with the bytes; and one that passes no limit in them
abbrev pub BeginsJson : List ℕ → Type 0
BeginsJson front = (t : Tree) × (more : List ℕ) × IsJson t (front ++ more)

abbrev pub StaysWithin : List ℕ → Type 0
StaysWithin front = (t : Tree) × (more : List ℕ) × IsJsonBy (limits_before (length more)) t (front ++ more)
