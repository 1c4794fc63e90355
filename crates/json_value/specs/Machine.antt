-- A machine that reads a value, a byte at a time. It stops at the first byte with which no JSON text begins.
pub use Rattle.exact_decimal.specs.Numerals.{no_numeral, counted, with_whole, with_fraction, with_exponent, with_minus, decimal_so_far}
pub use Rattle.exact_decimal.specs.declared.numeral.Numeral.{Numeral}
pub use Rattle.exact_decimal.specs.declared.numeral.Phase.{Phase}
pub use Rattle.exact_decimal.specs.declared.numeral.Phase.TheVariants.{AfterMinus as after_minus, AfterZero as after_zero, InWhole as in_whole, AfterPoint as after_point, InFraction as in_fraction, AfterLetter as after_letter, AfterSign as after_sign, InExponent as in_exponent}
pub use Rattle.json_character.specs.declared.within.Within.{Within}
pub use Rattle.json_character.specs.declared.within.Within.TheVariants.{Plain as plain, Escape as escape, Unit as unit, High as high, HighEscape as high_escape, Low as low, Tail as tail}
pub use Rattle.json_character.specs.declared.within.Outcome.{Outcome}
pub use Rattle.json_character.specs.declared.within.Outcome.TheVariants.{GoesOn as goes_on, Ends as ends, Refused as refused}
use Rattle.std.specs.Prelude.{ℕ, Bool, true, false, cond, ◌==◌, List, [], ◌∷◌, ◌++◌, Option, Some, None, codes}
use Rattle.std.specs.Char.{encode_utf8}
use Rattle.json_character.specs.Ascii as ascii
use Rattle.json_character.specs.Ascii.{is_blank, is_digit, is_exponent_letter}
use Rattle.json_value.specs.Tree.{Tree, null, flag, number, text, Entry, list_of, table_of}
use Rattle.json_character.specs.Within.{after_byte}

-- a list or a table that is open, and waits for a value inside it
pub data Frame : Type 0 where
  in_list : List Tree → Frame
  in_table : List Entry → List ℕ → Frame

-- what a text that is being read is
pub data Role : Type 0 where
  as_value : Role
  as_name : List Entry → Role

-- what comes next; the frames around it are listed from the innermost
pub data State : Type 0 where
  start : State
  mark : List ℕ → State
  value : List Frame → State
  first_item : List Frame → State
  first_name : List Frame → State
  name : List Entry → List Frame → State
  colon : List Entry → List ℕ → List Frame → State
  after_item : List Tree → List Frame → State
  after_member : List Entry → List Frame → State
  word : List ℕ → Tree → List Frame → State
  numeral : Phase → Numeral → List Frame → State
  characters : Role → List ℕ → Within → List Frame → State
  done : Tree → State

-- a value has ended
abbrev pub ended : List Frame → Tree → State
ended [] v = done v
ended (in_list ts ∷ frames) v = after_item (ts ++ v ∷ []) frames
ended (in_table es n ∷ frames) v = after_member (es ++ record { name = n; value = v } ∷ []) frames

-- a text has ended
abbrev pub ended_text : Role → List ℕ → List Frame → State
ended_text as_value s frames = ended frames (text s)
ended_text (as_name es) s frames = colon es s frames

-- a byte after a value has ended
abbrev pub step_ended : State → ℕ → Option State
step_ended (done t) b = cond (is_blank b) (Some (done t)) None
step_ended (after_item ts frames) b =
    cond (is_blank b) (Some (after_item ts frames)) (cond (b == ascii.comma) (Some (value (in_list ts ∷ frames))) (cond (b == ascii.close_bracket) (Some (ended frames (list_of ts))) None))
step_ended (after_member es frames) b =
    cond (is_blank b) (Some (after_member es frames)) (cond (b == ascii.comma) (Some (name es frames)) (cond (b == ascii.close_brace) (Some (ended frames (table_of es))) None))
step_ended _ b = None

-- Numbers.

-- the first digit of a number
abbrev pub step_first_digit : Numeral → List Frame → ℕ → Option State
step_first_digit n frames b = Some (numeral (cond (b == ascii.zero_digit) after_zero in_whole) (with_whole n b) frames)

abbrev pub step_end : Numeral → List Frame → ℕ → Option State
step_end n frames b = step_ended (ended frames (number (decimal_so_far n))) b

abbrev pub step_letter : Numeral → List Frame → ℕ → Option State
step_letter n frames b = cond (is_exponent_letter b) (Some (numeral after_letter (counted n) frames)) (step_end n frames b)

abbrev pub step_point : Numeral → List Frame → ℕ → Option State
step_point n frames b = cond (b == ascii.point) (Some (numeral after_point (counted n) frames)) (step_letter n frames b)

abbrev pub step_exponent : Numeral → List Frame → ℕ → Option State → Option State
step_exponent n frames b otherwise = cond (is_digit b) (Some (numeral in_exponent (with_exponent n b) frames)) otherwise

abbrev pub step_numeral : Phase → Numeral → List Frame → ℕ → Option State
step_numeral after_minus n frames b = cond (is_digit b) (step_first_digit n frames b) None
step_numeral after_zero n frames b = step_point n frames b
step_numeral in_whole n frames b = cond (is_digit b) (Some (numeral in_whole (with_whole n b) frames)) (step_point n frames b)
step_numeral after_point n frames b = cond (is_digit b) (Some (numeral in_fraction (with_fraction n b) frames)) None
step_numeral in_fraction n frames b = cond (is_digit b) (Some (numeral in_fraction (with_fraction n b) frames)) (step_letter n frames b)
step_numeral after_letter n frames b =
    cond (b == ascii.plus) (Some (numeral after_sign (counted n) frames)) (cond (b == ascii.minus) (Some (numeral after_sign (with_minus n) frames)) (step_exponent n frames b None))
step_numeral after_sign n frames b = step_exponent n frames b None
step_numeral in_exponent n frames b = step_exponent n frames b (step_end n frames b)

-- Texts.

abbrev pub step_outcome : Role → List ℕ → List Frame → Outcome → Option State
step_outcome role s frames (goes_on w) = Some (characters role s w frames)
step_outcome role s frames (ends c) = Some (characters role (s ++ encode_utf8 c) plain frames)
step_outcome role s frames refused = None

abbrev pub step_characters : Role → List ℕ → Within → List Frame → ℕ → Option State
step_characters role s plain frames b = cond (b == ascii.quote) (Some (ended_text role s frames)) (step_outcome role s frames (after_byte plain b))
step_characters role s w frames b = step_outcome role s frames (after_byte w b)

-- Values.

-- the first byte of a value, which is no blank
abbrev pub step_begin : List Frame → ℕ → Option State
step_begin frames b =
    cond (is_digit b) (step_first_digit no_numeral frames b)
    (cond (b == ascii.minus) (Some (numeral after_minus (record no_numeral { negative = true; length = 1 }) frames))
    (cond (b == ascii.quote) (Some (characters as_value [] plain frames))
    (cond (b == ascii.open_bracket) (Some (first_item frames))
    (cond (b == ascii.open_brace) (Some (first_name frames))
    (cond (b == 0x6E) (Some (word (codes "ull") null frames))
    (cond (b == 0x74) (Some (word (codes "rue") (flag true) frames))
    (cond (b == 0x66) (Some (word (codes "alse") (flag false) frames)) None)))))))

abbrev pub step_name : List Entry → List Frame → ℕ → Option State
step_name es frames b = cond (b == ascii.quote) (Some (characters (as_name es) [] plain frames)) None

abbrev pub step_value : List Frame → ℕ → Option State
step_value frames b = cond (is_blank b) (Some (value frames)) (step_begin frames b)

abbrev pub step : State → ℕ → Option State
step start b = cond (b == 0xEF) (Some (mark (0xBB ∷ 0xBF ∷ []))) (step_value [] b)
step (mark []) b = step_value [] b
step (mark (m ∷ ms)) b = cond (b == m) (Some (mark ms)) None
step (value frames) b = step_value frames b
step (first_item frames) b = cond (is_blank b) (Some (first_item frames)) (cond (b == ascii.close_bracket) (Some (ended frames (list_of []))) (step_begin (in_list [] ∷ frames) b))
step (first_name frames) b = cond (is_blank b) (Some (first_name frames)) (cond (b == ascii.close_brace) (Some (ended frames (table_of []))) (step_name [] frames b))
step (name es frames) b = cond (is_blank b) (Some (name es frames)) (step_name es frames b)
step (colon es n frames) b = cond (is_blank b) (Some (colon es n frames)) (cond (b == ascii.colon) (Some (value (in_table es n ∷ frames))) None)
step (word [] v frames) b = step_ended (ended frames v) b
step (word (c ∷ cs) v frames) b = cond (b == c) (Some (word cs v frames)) None
step (numeral phase n frames) b = step_numeral phase n frames b
step (characters role s w frames) b = step_characters role s w frames b
step (after_item ts frames) b = step_ended (after_item ts frames) b
step (after_member es frames) b = step_ended (after_member es frames) b
step (done t) b = step_ended (done t) b

-- the value, where the text may end here
abbrev pub result_ended : State → Option Tree
result_ended (done t) = Some t
result_ended _ = None

abbrev pub is_whole : Phase → Bool
is_whole after_zero = true
is_whole in_whole = true
is_whole in_fraction = true
is_whole in_exponent = true
is_whole _ = false

abbrev pub result : State → Option Tree
result (done t) = Some t
result (word [] v frames) = result_ended (ended frames v)
result (numeral phase n frames) = cond (is_whole phase) (result_ended (ended frames (number (decimal_so_far n)))) None
result _ = None
