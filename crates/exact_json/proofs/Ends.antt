-- From every state that the machine comes to, some bytes complete a text.
use Rattle.std.proofs.Common.{◌≡◌, ℕ, ◌+◌, ◌≤◌, true, false, List, [], ◌∷◌, ◌++◌, length, refl, inl, inr, arith}
use Rattle.json_character.specs.Ascii as ascii
use Rattle.exact_json.specs.Limits.{Limits}
use Rattle.json_value.specs.Machine.{Frame, Role, State, start, mark, value, first_item, first_name, name, colon, after_item, after_member, word, numeral, characters, done}
use Rattle.exact_json.proofs.States.{Numeral, Phase, after_minus, after_zero, in_whole, after_point, in_fraction, after_letter, after_sign, in_exponent, Within, plain, escape, unit, high, high_escape, low, tail}
use Rattle.exact_json.specs.Grammar.{Unmarked}
use Rattle.json_character.specs.Pieces.{Is, Byte}
use Rattle.std.specs.Str.{encode_utf8_all}
use Rattle.json_value.specs.Tree.{Tree, null, number, no_item, no_pair, list_of, table_of}
use Rattle.json_character.specs.Within.{is_begun}
use Rattle.exact_decimal.specs.declared.decimal.Decimal.{Decimal}
use Rattle.exact_json.proofs.Finish.{Ending, close, nulled, null_value, name_value, text_end, word_front}
use Rattle.json_character.proofs.CharacterEnds.{part_end}
use Rattle.exact_json.proofs.Left.{CharactersTo, Completes, NumeralTo, finished}
use Rattle.exact_json.proofs.Sound.{IsSound}

-- the limits that a state keeps, with k bytes to come
abbrev pub FitsEnd : Limits → State → ℕ → Type 0
FitsEnd limits (first_item frames) k = limits.may_open (length frames) ≡ true
FitsEnd limits (first_name frames) k = limits.may_open (length frames) ≡ true
FitsEnd limits (numeral phase n frames) k = (e : ℕ) → e ≤ k → limits.may_reach (n.length + k) e ≡ true
FitsEnd limits _ k = Unit {0}

pub record Finished (m : State) : Type 0 where
  pub tree : Tree
  pub bytes : List ℕ
  pub holds : (limits : Limits) → FitsEnd limits m (length bytes) → Completes limits m tree bytes

-- the byte that a number still needs, if any, and the parts that it makes
pub record NumberEnd (phase : Phase) (n : Numeral) : Type 0 where
  pub decimal : Decimal
  pub front : List ℕ
  pub holds : (ys : List ℕ) → NumeralTo phase n decimal (front ++ ys) ys
  pub short : (ys : List ℕ) → length ys ≤ length (front ++ ys)

number_end : (phase : Phase) (n : Numeral) → NumberEnd phase n
number_end after_minus n = record { decimal = finished n (0 ∷ []) [] false []; front = ascii.zero_digit ∷ []; holds = λ ys. (0 ∷ [], [], false, [], tt, (refl, refl, (refl, refl)), refl); short = λ ys. omega arith }
number_end after_zero n = record { decimal = finished n [] [] false []; front = []; holds = λ ys. ([], false, [], (refl, refl), refl); short = λ ys. omega arith }
number_end in_whole n = record { decimal = finished n [] [] false []; front = []; holds = λ ys. ([], [], false, [], (refl, refl), refl); short = λ ys. omega arith }
number_end after_point n = record { decimal = finished n [] (0 ∷ []) false []; front = ascii.zero_digit ∷ []; holds = λ ys. (0, [], false, [], (refl, refl, (refl, refl)), refl); short = λ ys. omega arith }
number_end in_fraction n = record { decimal = finished n [] [] false []; front = []; holds = λ ys. ([], false, [], (refl, refl), refl); short = λ ys. omega arith }
number_end after_letter n = record { decimal = finished n [] [] false (0 ∷ []); front = ascii.zero_digit ∷ []; holds = λ ys. (false, 0, [], inr (refl, refl, refl), refl); short = λ ys. omega arith }
number_end after_sign n = record { decimal = finished n [] [] false (0 ∷ []); front = ascii.zero_digit ∷ []; holds = λ ys. (0, [], (refl, refl, refl), refl); short = λ ys. omega arith }
number_end in_exponent n = record { decimal = finished n [] [] false []; front = []; holds = λ ys. ([], refl, refl); short = λ ys. omega arith }

part_finish : (role : Role) (s : List ℕ) (w : Within) (frames : List Frame) → is_begun w ≡ true → Ending (λ limits t xs. CharactersTo limits role s w frames t xs)
part_finish role s plain frames begun =
    let e = text_end role (s ++ encode_utf8_all []) frames in
    record { tree = e.tree; bytes = ascii.quote ∷ e.bytes; holds = λ limits. ([], e.bytes, (refl, refl), e.holds limits) }
part_finish role s escape frames begun =
    let p = part_end escape begun in let e = text_end role (s ++ encode_utf8_all (p.char ∷ [])) frames in
    record { tree = e.tree; bytes = p.bytes ++ ascii.quote ∷ e.bytes; holds = λ limits. (p.char, [], e.bytes, p.holds (Byte ascii.quote (Is e.bytes)) (ascii.quote ∷ e.bytes) (refl, refl), e.holds limits) }
part_finish role s (unit n v) frames begun =
    let p = part_end (unit n v) begun in let e = text_end role (s ++ encode_utf8_all (p.char ∷ [])) frames in
    record { tree = e.tree; bytes = p.bytes ++ ascii.quote ∷ e.bytes; holds = λ limits. (p.char, [], e.bytes, p.holds (Byte ascii.quote (Is e.bytes)) (ascii.quote ∷ e.bytes) (refl, refl), e.holds limits) }
part_finish role s (high h) frames begun =
    let p = part_end (high h) begun in let e = text_end role (s ++ encode_utf8_all (p.char ∷ [])) frames in
    record { tree = e.tree; bytes = p.bytes ++ ascii.quote ∷ e.bytes; holds = λ limits. (p.char, [], e.bytes, p.holds (Byte ascii.quote (Is e.bytes)) (ascii.quote ∷ e.bytes) (refl, refl), e.holds limits) }
part_finish role s (high_escape h) frames begun =
    let p = part_end (high_escape h) begun in let e = text_end role (s ++ encode_utf8_all (p.char ∷ [])) frames in
    record { tree = e.tree; bytes = p.bytes ++ ascii.quote ∷ e.bytes; holds = λ limits. (p.char, [], e.bytes, p.holds (Byte ascii.quote (Is e.bytes)) (ascii.quote ∷ e.bytes) (refl, refl), e.holds limits) }
part_finish role s (low n v h) frames begun =
    let p = part_end (low n v h) begun in let e = text_end role (s ++ encode_utf8_all (p.char ∷ [])) frames in
    record { tree = e.tree; bytes = p.bytes ++ ascii.quote ∷ e.bytes; holds = λ limits. (p.char, [], e.bytes, p.holds (Byte ascii.quote (Is e.bytes)) (ascii.quote ∷ e.bytes) (refl, refl), e.holds limits) }
part_finish role s (tail least n v) frames begun =
    let p = part_end (tail least n v) begun in let e = text_end role (s ++ encode_utf8_all (p.char ∷ [])) frames in
    record { tree = e.tree; bytes = p.bytes ++ ascii.quote ∷ e.bytes; holds = λ limits. (p.char, [], e.bytes, p.holds (Byte ascii.quote (Is e.bytes)) (ascii.quote ∷ e.bytes) (refl, refl), e.holds limits) }

null_unmarked : (limits : Limits) → Unmarked limits null (nulled [])
null_unmarked limits = ([], null_value limits 0 [], tt)

pub finish : (m : State) → IsSound m → Finished m
finish start sound = record { tree = null; bytes = nulled []; holds = λ limits fits. inl (null_unmarked limits) }
finish (mark ms) sound = record { tree = null; bytes = ms ++ nulled []; holds = λ limits fits. word_front ms (Unmarked limits null) (nulled []) (null_unmarked limits) }
finish (value frames) sound =
    let r = close frames null in
    record { tree = r.tree; bytes = nulled r.bytes; holds = λ limits fits. (null, r.bytes, null_value limits (length frames) r.bytes, r.holds limits) }
finish (first_item frames) sound =
    let r = close frames (list_of []) in
    record { tree = r.tree; bytes = ascii.close_bracket ∷ r.bytes; holds = λ limits fits. (fits, (no_item, r.bytes, inl (refl, refl), r.holds limits)) }
finish (first_name frames) sound =
    let r = close frames (table_of []) in
    record { tree = r.tree; bytes = ascii.close_brace ∷ r.bytes; holds = λ limits fits. (fits, (no_pair, r.bytes, inl (refl, refl), r.holds limits)) }
finish (name es frames) sound =
    let r = name_value es [] frames in
    record { tree = r.tree; bytes = ascii.quote ∷ ascii.quote ∷ r.bytes; holds = λ limits fits. ([], r.bytes, inl ([], refl, (refl, (refl, refl))), r.holds limits) }
finish (colon es n frames) sound =
    let r = name_value es n frames in
    record { tree = r.tree; bytes = r.bytes; holds = λ limits fits. r.holds limits }
finish (after_item ts frames) sound =
    let r = close frames (list_of ts) in
    record { tree = r.tree; bytes = ascii.close_bracket ∷ r.bytes; holds = λ limits fits. (no_item, r.bytes, inl (refl, refl), r.holds limits) }
finish (after_member es frames) sound =
    let r = close frames (table_of es) in
    record { tree = r.tree; bytes = ascii.close_brace ∷ r.bytes; holds = λ limits fits. (no_pair, r.bytes, inl (refl, refl), r.holds limits) }
finish (word cs v frames) sound =
    let r = close frames v in
    record { tree = r.tree; bytes = cs ++ r.bytes; holds = λ limits fits. (r.bytes, word_front cs (Is r.bytes) r.bytes refl, r.holds limits) }
finish (numeral phase n frames) sound =
    let e = number_end phase n in let r = close frames (number e.decimal) in
    record { tree = r.tree; bytes = e.front ++ r.bytes; holds = λ limits fits. (e.decimal, r.bytes, e.holds r.bytes, fits (length r.bytes) (e.short r.bytes), r.holds limits) }
finish (characters role s w frames) sound =
    let r = part_finish role s w frames sound in
    record { tree = r.tree; bytes = r.bytes; holds = λ limits fits. r.holds limits }
finish (done v) sound = record { tree = v; bytes = []; holds = λ limits fits. (refl, tt) }
