-- What the machine's run says of the bytes.
use Rattle.std.proofs.Common.{◌≡◌, ℕ, suc, ◌+◌, Bool, true, false, cond, List, [], ◌∷◌, ◌++◌, length, Some, None, refl, sym, ap, subst, ◌∙◌, inl, inr, nat_lt, nat_le, arith, append-nil}
use Rattle.std.proofs.Common.{◌/◌}
use Rattle.std.specs.Char.{encode_utf8}
use lib.Utf8.{next}
use Rattle.json_character.specs.Ascii as ascii
use Rattle.exact_json.specs.Grammar.{Minus, Fraction, Exponent, Value, IsWhole, IsJsonBy, IsJson, IsJsonWithin, BeginsJson, StaysWithin}
use Rattle.exact_json.specs.Limits.{Limits, no_limits, limits_before, depth_limit, number_limit_before}
use Rattle.json_value.specs.Machine.{Frame, in_list, in_table, Role, State, start, mark, value, first_item, first_name, name, colon, after_item, after_member, word, numeral, characters, done, ended, result, result_ended, is_whole, decimal_so_far}
use Rattle.exact_json.specs.Runs.{run, run_within}
use Rattle.exact_json.proofs.States.{Numeral, Phase, after_minus, after_zero, in_whole, after_point, in_fraction, after_letter, after_sign, in_exponent, Within, plain, escape, unit, high, high_escape, low, tail}
use Rattle.json_character.specs.Pieces.{Is, Byte, Word, Digits}
use Rattle.json_character.specs.Texts.{Characters}
use Rattle.json_value.specs.Tree.{Tree, null, flag, number, text, list, table, no_item, item, no_pair, pair}
use Rattle.exact_decimal.specs.declared.decimal.Decimal.{Decimal}
use Rattle.exact_json.proofs.Ends.{finish}
use Rattle.exact_json.proofs.Kept.{run_goes_within, within-run, within-last, run-sound, all_fit_within, all_fit_none, fits_within, fits_end_none, fits_end_within, short_number}
use Rattle.exact_json.proofs.Left.{Closes, CharactersTo, Completes, NumeralTo, finished}
use Rattle.exact_json.proofs.Numbers.{finished-nil}
use Rattle.exact_json.proofs.NumberSteps.{MayEnd}
use Rattle.exact_json.proofs.Runs.{run_goes, run_comes}
use Rattle.exact_json.proofs.Sound.{IsSound}
use Rattle.exact_json.proofs.Steps.{Fits}

some_same : {m n : State} → Some m ≡ Some n → m ≡ n
some_same e = cc

-- The end of the bytes.

no_value : (limits : Limits) (k : ℕ) (v : Tree) (ys : List ℕ) → Value limits k v [] ys → ⊥
no_value limits k null ys h = h
no_value limits k (flag true) ys h = h
no_value limits k (flag false) ys h = h
no_value limits k (number d) ys (n, whole, h, is, reach) = by n.negative n.whole whole h
  where
    by : (m : Bool) (w : List ℕ) → IsWhole w → Minus m (Digits w (Fraction n.fraction (Exponent n.exponent_negative n.exponent (Is ys)))) [] → ⊥
    by true w whole h = h
    by false [] whole h = whole
    by false (d ∷ w) whole h = h
no_value limits k (text s) ys (cs, is, h) = h
no_value limits k (list ts) ys h = h.1
no_value limits k (table ps) ys h = h.1

closes_end : (limits : Limits) (frames : List Frame) (v t : Tree) → Closes limits frames v t [] → result_ended (ended frames v) ≡ Some t
closes_end limits [] v t h = ap Some h.0
closes_end limits (in_list ts ∷ frames) v t (no_item, ys, h, k) = absurd h
closes_end limits (in_list ts ∷ frames) v t (item w more, ys, (zs, h, m), k) = absurd h
closes_end limits (in_table es n ∷ frames) v t (no_pair, ys, h, k) = absurd h
closes_end limits (in_table es n ∷ frames) v t (pair w u more, ys, (ns, zs, h, g, m), k) = absurd h

number_done : (phase : Phase) (n : Numeral) (d : Decimal) (ys : List ℕ) → NumeralTo phase n d [] ys → (is_whole phase ≡ true) × (ys ≡ []) × (decimal_so_far n ≡ d)
number_done after_minus n d ys ([], f, m, e, whole, h, is) = absurd whole
number_done after_minus n d ys (x ∷ w, f, m, e, whole, h, is) = absurd h
number_done after_zero n d ys ([], m, [], h, is) = (refl, sym h.1, sym (finished-nil n) ∙ subst (λ c. finished n [] [] c [] ≡ d) h.0 is)
number_done after_zero n d ys ([], m, x ∷ e, h, is) = absurd h
number_done after_zero n d ys (x ∷ f, m, e, h, is) = absurd h
number_done in_whole n d ys ([], [], m, [], h, is) = (refl, sym h.1, sym (finished-nil n) ∙ subst (λ c. finished n [] [] c [] ≡ d) h.0 is)
number_done in_whole n d ys ([], [], m, x ∷ e, h, is) = absurd h
number_done in_whole n d ys ([], x ∷ f, m, e, h, is) = absurd h
number_done in_whole n d ys (x ∷ w, f, m, e, h, is) = absurd h
number_done after_point n d ys (x, f, m, e, h, is) = absurd h
number_done in_fraction n d ys ([], m, [], h, is) = (refl, sym h.1, sym (finished-nil n) ∙ subst (λ c. finished n [] [] c [] ≡ d) h.0 is)
number_done in_fraction n d ys ([], m, x ∷ e, h, is) = absurd h
number_done in_fraction n d ys (x ∷ f, m, e, h, is) = absurd h
number_done after_letter n d ys (true, x, e, h, is) = absurd h
number_done after_letter n d ys (false, x, e, inl h, is) = absurd h
number_done after_letter n d ys (false, x, e, inr h, is) = absurd h
number_done after_sign n d ys (x, e, h, is) = absurd h
number_done in_exponent n d ys ([], h, is) = (refl, sym h, sym (finished-nil n) ∙ is)
number_done in_exponent n d ys (x ∷ e, h, is) = absurd h

encode_some : (c : ℕ) → encode_utf8 c ≡ [] → ⊥
unfolding encode_utf8
encode_some c e = by (nat_lt c 0x80) (nat_lt c 0x800) (nat_lt c 0x1_0000) e
  where
    by : (a b d : Bool) → cond a (c ∷ []) (cond b ((192 + c / 64) ∷ next c ∷ []) (cond d ((224 + c / 4096) ∷ next (c / 64) ∷ next c ∷ []) ((240 + c / 262144) ∷ next (c / 4096) ∷ next (c / 64) ∷ next c ∷ []))) ≡ [] → ⊥
    by true b d e = cc
    by false true d e = cc
    by false false true e = cc
    by false false false e = cc

no_word : (c : ℕ) (K : List ℕ → Type 0) → Word (encode_utf8 c) K [] → ⊥
no_word c K = by (encode_utf8 c) (encode_some c)
  where
    by : (bytes : List ℕ) → (bytes ≡ [] → ⊥) → Word bytes K [] → ⊥
    by [] some h = some refl
    by (x ∷ bytes) some h = h

no_character : (limits : Limits) (role : Role) (s : List ℕ) (w : Within) (frames : List Frame) (t : Tree) → CharactersTo limits role s w frames t [] → ⊥
no_character limits role s plain frames t ([], ys, h, k) = h
no_character limits role s plain frames t (c ∷ cs, ys, inl h, k) = no_word c (Characters cs (Byte ascii.quote (Is ys))) h.1
no_character limits role s plain frames t (c ∷ cs, ys, inr h, k) = h
no_character limits role s escape frames t (c, cs, ys, inl h, k) = h
no_character limits role s escape frames t (c, cs, ys, inr h, k) = h
no_character limits role s (unit n v) frames t (c, cs, ys, h, k) = h
no_character limits role s (high u) frames t (c, cs, ys, h, k) = h.1
no_character limits role s (high_escape u) frames t (c, cs, ys, h, k) = h.1
no_character limits role s (low n v u) frames t (c, cs, ys, h, k) = h.1
no_character limits role s (tail least n v) frames t (c, cs, ys, h, k) = h

-- where the bytes end, the grammar's tree is the machine's result
pub result_goes : (limits : Limits) (t : Tree) (m : State) → Completes limits m t [] → result m ≡ Some t
result_goes limits t start (inl (zs, h, e)) = absurd (no_value limits 0 t zs h)
result_goes limits t start (inr h) = absurd h
result_goes limits t (mark []) (zs, h, e) = absurd (no_value limits 0 t zs h)
result_goes limits t (mark (m ∷ ms)) h = absurd h
result_goes limits t (value frames) (v, ys, h, k) = absurd (no_value limits (length frames) v ys h)
result_goes limits t (first_item frames) (may, (no_item, ys, h, k)) = absurd h
result_goes limits t (first_item frames) (may, (item v more, ys, (zs, h, m), k)) = absurd (no_value limits (suc (length frames)) v zs h)
result_goes limits t (first_name frames) (may, (no_pair, ys, h, k)) = absurd h
result_goes limits t (first_name frames) (may, (pair n v more, ys, (ns, zs, (cs, is, h), g, m), k)) = absurd h
result_goes limits t (name es frames) (n, ys, (cs, is, h), k) = absurd h
result_goes limits t (colon es n frames) (v, ys, h, k) = absurd h
result_goes limits t (after_item ts frames) (no_item, ys, h, k) = absurd h
result_goes limits t (after_item ts frames) (item v more, ys, (zs, h, m), k) = absurd h
result_goes limits t (after_member es frames) (no_pair, ys, h, k) = absurd h
result_goes limits t (after_member es frames) (pair n v more, ys, (ns, zs, h, g, m), k) = absurd h
result_goes limits t (word [] v frames) (ys, h, k) = closes_end limits frames v t (subst (λ z. Closes limits frames v t z) (sym h) k)
result_goes limits t (word (c ∷ cs) v frames) (ys, h, k) = absurd h
result_goes limits t (numeral phase n frames) (d, ys, h, reach, k) =
    let r = number_done phase n d ys h in
    ap (λ c. cond c (result_ended (ended frames (number (decimal_so_far n)))) None) r.0
    ∙ closes_end limits frames (number (decimal_so_far n)) t (subst (λ z. Closes limits frames (number (decimal_so_far n)) t z) r.1 (subst (λ x. Closes limits frames (number x) t ys) (sym r.2) k))
result_goes limits t (characters role s w frames) h = absurd (no_character limits role s w frames t h)
result_goes limits t (done v) h = ap Some h.0

ended_comes : (limits : Limits) (frames : List Frame) (v t : Tree) → result_ended (ended frames v) ≡ Some t → Closes limits frames v t []
ended_comes limits [] v t e = let same : v ≡ t = cc in (same, tt)
ended_comes limits (in_list ts ∷ frames) v t e = absurd (cc)
ended_comes limits (in_table es n ∷ frames) v t e = absurd (cc)

number_comes : (phase : Phase) (n : Numeral) → is_whole phase ≡ true → NumeralTo phase n (decimal_so_far n) [] []
number_comes after_minus n e = absurd (cc)
number_comes after_zero n e = ([], false, [], (refl, refl), finished-nil n)
number_comes in_whole n e = ([], [], false, [], (refl, refl), finished-nil n)
number_comes after_point n e = absurd (cc)
number_comes in_fraction n e = ([], false, [], (refl, refl), finished-nil n)
number_comes after_letter n e = absurd (cc)
number_comes after_sign n e = absurd (cc)
number_comes in_exponent n e = ([], refl, finished-nil n)

pub result_comes : (limits : Limits) (t : Tree) (m : State) → Fits limits t m → result m ≡ Some t → Completes limits m t []
unfolding Fits MayEnd
result_comes limits t start fits e = absurd (cc)
result_comes limits t (mark ms) fits e = absurd (cc)
result_comes limits t (value frames) fits e = absurd (cc)
result_comes limits t (first_item frames) fits e = absurd (cc)
result_comes limits t (first_name frames) fits e = absurd (cc)
result_comes limits t (name es frames) fits e = absurd (cc)
result_comes limits t (colon es n frames) fits e = absurd (cc)
result_comes limits t (after_item ts frames) fits e = absurd (cc)
result_comes limits t (after_member es frames) fits e = absurd (cc)
result_comes limits t (word [] v frames) fits e = ([], refl, ended_comes limits frames v t e)
result_comes limits t (word (c ∷ cs) v frames) fits e = absurd (cc)
result_comes limits t (numeral phase n frames) fits e = by (is_whole phase) refl e
  where
    by : (c : Bool) → is_whole phase ≡ c → cond c (result_ended (ended frames (number (decimal_so_far n)))) None ≡ Some t → Completes limits (numeral phase n frames) t []
    by true is e = (decimal_so_far n, [], number_comes phase n is, fits 0, ended_comes limits frames (number (decimal_so_far n)) t e)
    by false is e = absurd (cc)
result_comes limits t (characters role s w frames) fits e = absurd (cc)
result_comes limits t (done v) fits e = let same : v ≡ t = cc in (same, tt)

-- The whole run.

-- the reader accepts: the bytes are a text within the limits
pub accepted : (m : State) (t : Tree) (bytes : List ℕ) → run_within start bytes ≡ Some m → result m ≡ Some t → IsJsonWithin t bytes
accepted m t bytes e is =
    subst (λ z. IsJsonWithin t z) (append-nil bytes)
    (run_comes (limits_before 0) t start m bytes [] tt (all_fit_within 0 t start m bytes refl e) (within-run start m bytes e)
    (result_comes (limits_before 0) t m (fits_within 0 t m (within-last start m bytes refl e)) is))

-- a text within the limits is accepted
pub accepts : (t : Tree) (bytes : List ℕ) → IsJsonWithin t bytes → (m : State) × (run_within start bytes ≡ Some m) × (result m ≡ Some t)
accepts t bytes h =
    let r = run_goes_within 0 t start bytes [] (omega arith) tt (subst (λ z. IsJsonWithin t z) (sym (append-nil bytes)) h) in
    (r.0, r.1, result_goes (limits_before 0) t r.0 r.2)

pub accepts_any : (t : Tree) (bytes : List ℕ) → IsJson t bytes → (m : State) × (run start bytes ≡ Some m) × (result m ≡ Some t)
accepts_any t bytes h =
    let r = run_goes no_limits t start bytes [] tt (subst (λ z. IsJson t z) (sym (append-nil bytes)) h) in
    (r.0, r.1, result_goes no_limits t r.0 r.2)

-- bytes over which the machine runs within the limits begin a text, and pass no limit
pub stays : (m : State) (front : List ℕ) → run_within start front ≡ Some m → StaysWithin front
stays m front e =
    let f = finish m (run-sound start m front tt e) in
    let h = f.holds (limits_before (length f.bytes)) (fits_end_within m (length f.bytes) (within-last start m front refl e)) in
    (f.tree, f.bytes, run_comes (limits_before (length f.bytes)) f.tree start m front f.bytes tt (all_fit_within (length f.bytes) f.tree start m front refl e) (within-run start m front e) h)

pub begins : (m : State) (front : List ℕ) → IsSound m → run start front ≡ Some m → BeginsJson front
begins m front sound e =
    let f = finish m sound in
    (f.tree, f.bytes, run_comes no_limits f.tree start m front f.bytes tt (all_fit_none f.tree start front) e (f.holds no_limits (fits_end_none m (length f.bytes))))

pub begins_none : (front : List ℕ) → run start front ≡ None → BeginsJson front → ⊥
begins_none front e (t, more, h) = let r = run_goes no_limits t start front more tt h in let same = r.1 in cc

-- a list or a table that opens inside 64 others
pub deep_item : (frames : List Frame) (front more : List ℕ) (t : Tree) → run start front ≡ Some (first_item frames) → nat_lt (length frames) 64 ≡ false → IsJsonBy depth_limit t (front ++ more) → ⊥
deep_item frames front more t e deep h =
    let r = run_goes depth_limit t start front more tt h in
    let at : r.0 ≡ first_item frames = some_same (sym r.1 ∙ e) in
    let left : Completes depth_limit (first_item frames) t more = subst (λ s. Completes depth_limit s t more) at r.2 in
    let open_bracket = left.0 in cc

pub deep_name : (frames : List Frame) (front more : List ℕ) (t : Tree) → run start front ≡ Some (first_name frames) → nat_lt (length frames) 64 ≡ false → IsJsonBy depth_limit t (front ++ more) → ⊥
deep_name frames front more t e deep h =
    let r = run_goes depth_limit t start front more tt h in
    let at : r.0 ≡ first_name frames = some_same (sym r.1 ∙ e) in
    let left : Completes depth_limit (first_name frames) t more = subst (λ s. Completes depth_limit s t more) at r.2 in
    let open_brace = left.0 in cc

-- a number of more than 64 bytes
pub long_number : (phase : Phase) (n : Numeral) (frames : List Frame) (front more : List ℕ) (t : Tree) → run start front ≡ Some (numeral phase n frames) → nat_le n.length 64 ≡ false → IsJsonBy (number_limit_before (length more)) t (front ++ more) → ⊥
long_number phase n frames front more t e long h =
    let r = run_goes (number_limit_before (length more)) t start front more tt h in
    let at : r.0 ≡ numeral phase n frames = some_same (sym r.1 ∙ e) in
    by (subst (λ s. Completes (number_limit_before (length more)) s t more) at r.2)
  where
    by : Completes (number_limit_before (length more)) (numeral phase n frames) t more → ⊥
    by (d, ys, h, reach, closes) = let short = short_number phase n d more ys (length more) (omega arith) h reach in cc
