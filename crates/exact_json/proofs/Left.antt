-- What may be left for the machine, state by state: the grammar of what is still to come.
use Rattle.std.proofs.Common.{◌≡◌, ℕ, suc, ◌+◌, Bool, true, false, ◌||◌, List, [], ◌∷◌, ◌++◌, length, Option, Some, ◌-ℤ◌, pos}
use Rattle.std.specs.Int.Digits.{number_from_digits}
use Rattle.std.specs.Str.{encode_utf8_all}
use Rattle.json_character.specs.Ascii as ascii
use Rattle.exact_decimal.specs.Decimals.{held, signed, significant}
use Rattle.exact_json.specs.Grammar.{Value, Items, MoreItems, Members, MoreMembers, Fraction, Exponent, Sign, IsWhole, IsJsonBy, Unmarked}
use Rattle.exact_json.specs.Limits.{Limits}
use Rattle.json_character.proofs.CharacterRests.{CharacterRest}
use Rattle.json_value.specs.Machine.{Frame, in_list, in_table, Role, as_value, as_name, State, start, mark, value, first_item, first_name, name, colon, after_item, after_member, word, numeral, characters, done}
use Rattle.exact_json.proofs.States.{Numeral, Phase, after_minus, after_zero, in_whole, after_point, in_fraction, after_letter, after_sign, in_exponent, Within, plain}
use Rattle.json_character.specs.Pieces.{Is, AtEnd, Byte, Word, Digits, Blanks}
use Rattle.json_character.specs.Texts.{Quoted, Characters}
use Rattle.json_value.specs.Tree.{Tree, list, table, text, number, Trees, Pairs, Entry, items_before, pairs_before}
use Rattle.exact_decimal.specs.declared.decimal.Decimal.{Decimal}

-- after the value v within the frames
abbrev pub Closes : Limits → List Frame → Tree → Tree → List ℕ → Type 0
Closes limits [] v t xs = (v ≡ t) × Blanks AtEnd xs
Closes limits (in_list ts ∷ frames) v t xs =
    (more : Trees) × (ys : List ℕ) × MoreItems limits (suc (length frames)) more xs ys × Closes limits frames (list (items_before (ts ++ v ∷ []) more)) t ys
Closes limits (in_table es n ∷ frames) v t xs =
    (more : Pairs) × (ys : List ℕ) × MoreMembers limits (suc (length frames)) more xs ys
    × Closes limits frames (table (pairs_before (es ++ record { name = n; value = v } ∷ []) more)) t ys

abbrev pub AfterItem : Limits → List Tree → List Frame → Tree → List ℕ → Type 0
AfterItem limits ts frames t xs =
    (more : Trees) × (ys : List ℕ) × MoreItems limits (suc (length frames)) more xs ys × Closes limits frames (list (items_before ts more)) t ys

abbrev pub AfterMember : Limits → List Entry → List Frame → Tree → List ℕ → Type 0
AfterMember limits es frames t xs =
    (more : Pairs) × (ys : List ℕ) × MoreMembers limits (suc (length frames)) more xs ys × Closes limits frames (table (pairs_before es more)) t ys

abbrev pub AfterName : Limits → List Entry → List ℕ → List Frame → Tree → List ℕ → Type 0
AfterName limits es n frames t xs =
    (v : Tree) × (ys : List ℕ) × Blanks (Byte ascii.colon (Blanks (λ rest. Value limits (suc (length frames)) v rest ys))) xs
    × AfterMember limits (es ++ record { name = n; value = v } ∷ []) frames t ys

-- Numbers.

-- the digits so far, and those that follow
abbrev pub joined : List ℕ → List ℕ → List ℕ
joined [] ds = significant ds
joined (x ∷ xs) ds = (x ∷ xs) ++ ds

-- the decimal of a number so far that goes on by these parts
abbrev pub finished : Numeral → List ℕ → List ℕ → Bool → List ℕ → Decimal
finished n whole fraction negative exponent =
    record {
      negative = n.negative;
      digits = joined n.digits (whole ++ fraction);
      exponent = held (signed (n.exponent_negative || negative) (number_from_digits 10 (n.exponent ++ exponent)) -ℤ pos (n.places + length fraction));
    }

abbrev pub NumeralTo : Phase → Numeral → Decimal → List ℕ → List ℕ → Type 0
NumeralTo after_minus n d xs ys =
    (w f : List ℕ) × (m : Bool) × (e : List ℕ) × IsWhole w × Digits w (Fraction f (Exponent m e (Is ys))) xs × (finished n w f m e ≡ d)
NumeralTo after_zero n d xs ys = (f : List ℕ) × (m : Bool) × (e : List ℕ) × Fraction f (Exponent m e (Is ys)) xs × (finished n [] f m e ≡ d)
NumeralTo in_whole n d xs ys = (w f : List ℕ) × (m : Bool) × (e : List ℕ) × Digits w (Fraction f (Exponent m e (Is ys))) xs × (finished n w f m e ≡ d)
NumeralTo after_point n d xs ys =
    (x : ℕ) × (f : List ℕ) × (m : Bool) × (e : List ℕ) × Digits (x ∷ f) (Exponent m e (Is ys)) xs × (finished n [] (x ∷ f) m e ≡ d)
NumeralTo in_fraction n d xs ys = (f : List ℕ) × (m : Bool) × (e : List ℕ) × Digits f (Exponent m e (Is ys)) xs × (finished n [] f m e ≡ d)
NumeralTo after_letter n d xs ys = (m : Bool) × (x : ℕ) × (e : List ℕ) × Sign m (Digits (x ∷ e) (Is ys)) xs × (finished n [] [] m (x ∷ e) ≡ d)
NumeralTo after_sign n d xs ys = (x : ℕ) × (e : List ℕ) × Digits (x ∷ e) (Is ys) xs × (finished n [] [] false (x ∷ e) ≡ d)
NumeralTo in_exponent n d xs ys = (e : List ℕ) × Digits e (Is ys) xs × (finished n [] [] false e ≡ d)

-- Texts.

-- after the text s
abbrev pub ClosesText : Limits → Role → List ℕ → List Frame → Tree → List ℕ → Type 0
ClosesText limits as_value s frames t xs = Closes limits frames (text s) t xs
ClosesText limits (as_name es) s frames t xs = AfterName limits es s frames t xs

abbrev pub CharactersTo : Limits → Role → List ℕ → Within → List Frame → Tree → List ℕ → Type 0
CharactersTo limits role s plain frames t xs =
    (cs ys : List ℕ) × Characters cs (Byte ascii.quote (Is ys)) xs × ClosesText limits role (s ++ encode_utf8_all cs) frames t ys
CharactersTo limits role s w frames t xs =
    (c : ℕ) × (cs ys : List ℕ) × CharacterRest w c (Characters cs (Byte ascii.quote (Is ys))) xs × ClosesText limits role (s ++ encode_utf8_all (c ∷ cs)) frames t ys

-- The states.

-- xs may be left, and then the tree is t
abbrev pub Completes : Limits → State → Tree → List ℕ → Type 0
Completes limits start t xs = IsJsonBy limits t xs
Completes limits (mark ms) t xs = Word ms (Unmarked limits t) xs
Completes limits (value frames) t xs =
    (v : Tree) × (ys : List ℕ) × Blanks (λ rest. Value limits (length frames) v rest ys) xs × Closes limits frames v t ys
Completes limits (first_item frames) t xs =
    (limits.may_open (length frames) ≡ true) × ((ts : Trees) × (ys : List ℕ) × Items limits (suc (length frames)) ts xs ys × Closes limits frames (list ts) t ys)
Completes limits (first_name frames) t xs =
    (limits.may_open (length frames) ≡ true) × ((ps : Pairs) × (ys : List ℕ) × Members limits (suc (length frames)) ps xs ys × Closes limits frames (table ps) t ys)
Completes limits (name es frames) t xs =
    (n ys : List ℕ) × Blanks (λ rest. Quoted n rest ys) xs × AfterName limits es n frames t ys
Completes limits (colon es n frames) t xs = AfterName limits es n frames t xs
Completes limits (after_item ts frames) t xs = AfterItem limits ts frames t xs
Completes limits (after_member es frames) t xs = AfterMember limits es frames t xs
Completes limits (word cs v frames) t xs = (ys : List ℕ) × Word cs (Is ys) xs × Closes limits frames v t ys
Completes limits (numeral phase n frames) t xs =
    (d : Decimal) × (ys : List ℕ) × NumeralTo phase n d xs ys × (limits.may_reach (n.length + length xs) (length ys) ≡ true) × Closes limits frames (number d) t ys
Completes limits (characters role s w frames) t xs = CharactersTo limits role s w frames t xs
Completes limits (done v) t xs = (v ≡ t) × Blanks AtEnd xs

-- Steps.

-- the step that was made leads on to t
abbrev pub Goes : Limits → Option State → Tree → List ℕ → Type 0
Goes limits o t xs = (n : State) × (o ≡ Some n) × Completes limits n t xs

-- wherever the step that was made leads on to t, the goal holds
abbrev pub Comes : Limits → Option State → Tree → List ℕ → Type 0 → Type 0
Comes limits o t xs G = (n : State) → o ≡ Some n → Completes limits n t xs → G
