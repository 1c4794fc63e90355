-- An order's canonical line has no line feed before its end, so it is the first line of the order's covering.
use Rattle.std.proofs.Common.{◌≡◌, ℕ, zero, suc, ◌/◌, ◌%◌, Bool, true, false, cond, eqb, List, [], ◌∷◌, ◌++◌, append_assoc, Option, Some, None, Ok, ℤ, pos, negsuc, decimal, refl, sym, ap, ◌∙◌, subst, arith}
use Rattle.std.specs.Prelude.{codes, nat_le, nat_lt}
use Rattle.std.specs.Fmt.{digit_glyph, digits, digits_onto, signed_decimal}
use Rattle.std.specs.List.{list_all}
use Rattle.std.proofs.lemmas.Bool.Decides.{nat_tests}
use Rattle.method_table.specs.Method.{asr_word, method_word}
use Rattle.method_table.specs.declared.method.Asr.{Asr}
use Rattle.method_table.specs.declared.method.Asr.TheVariants.{Hanafi, Standard}
use Rattle.method_table.specs.declared.method.Method.{Method}
use Rattle.method_table.specs.declared.method.Method.TheVariants.{Egypt, Isna, Jafari, Karachi, Makkah, Mwl, Tehran}
use Rattle.night_rule.specs.declared.rule.NightRule.{NightRule}
use Rattle.night_rule.specs.declared.rule.NightRule.TheVariants.{ByAngle, Half, Seventh}
use Rattle.plane_edges.proofs.Truth.{and_left, and_right, and_true}
use Rattle.method_table.specs.declared.sun.SunChoice.{SunChoice}
use Rattle.method_table.specs.declared.sun.SunChoice.TheVariants.{Meeus, Usno}
use Rattle.command_input.specs.Lines.{behind_line, first_line}
use Rattle.covering_laws.specs.Feeds.{has_no_feed, is_no_feed}
use Rattle.covering_laws.proofs.Texts.{HasNoFeed, no_feed-append}
use Rattle.order_covering.specs.Covering.{covering_of}
use Rattle.order_rule.specs.Asked.{Asked}
use Rattle.order_rule.specs.Offsets.{is_zone}
use Rattle.order_text.specs.Line.{extras_by, district_text, days_text, height_text, list_text, more_text, night_text, order_body, polygon_text, position_text, range_text, ring_text, second_text, span_text, sun_text, third_text, version_of, version_text, words_text, zone_text}
use Rattle.order_text.specs.LineReading.{ReadsLine}
use Rattle.order_text.proofs.LineLaws.{lines_are_read_again}
use Rattle.order_text.proofs.RuleLemmas.{rule_bytes}
use Rattle.ring_survey.specs.Polygons.{Position}
use Rattle.year_table.specs.Dates.{date_text, day_of_month, month_of, parts_text, two_digits}
use Rattle.year_table.specs.Rules.{is_rule_byte}
use Rattle.year_table.specs.declared.zone.Zone.{Zone}
use Rattle.year_table.specs.declared.zone.Zone.TheVariants.{Fixed, Rule}
use Rattle.covered_tables.specs.Covered.{CoveringsAreRead, covering_lines}
use Rattle.covered_tables.proofs.Cutting.{line_cut}

-- ---- numbers and dates

glyph_no_feed : (n : ℕ) → is_no_feed (digit_glyph false (n % 10)) ≡ true
glyph_no_feed n =
    let small : nat_lt (n % 10) 10 ≡ true = grind (arith, nat_tests) in
    rw small (grind (arith, nat_tests))

chosen : (t : Bool) (xs ys : List ℕ) → HasNoFeed xs → HasNoFeed ys → HasNoFeed (cond t xs ys)
chosen true xs ys h k = h
chosen false xs ys h k = k

digits_no_feed : (k n : ℕ) (behind : List ℕ) → HasNoFeed behind → HasNoFeed (digits_onto k 10 false n behind)
digits_no_feed zero n behind h = h
digits_no_feed (suc k) n behind h =
    let digit = digit_glyph false (n % 10) in
    let more : HasNoFeed (digit ∷ behind) = and_true (is_no_feed digit) (has_no_feed behind) (glyph_no_feed n) h in
    chosen (eqb (n / 10) 0) (digit ∷ behind) (digits_onto k 10 false (n / 10) (digit ∷ behind)) more (digits_no_feed k (n / 10) (digit ∷ behind) more)

decimal_no_feed : (n : ℕ) → HasNoFeed (decimal n)
unfolding digits
decimal_no_feed n = digits_no_feed 64 n [] refl

signed_no_feed : (z : ℤ) → HasNoFeed (signed_decimal z)
signed_no_feed (pos n) = decimal_no_feed n
signed_no_feed (negsuc n) = decimal_no_feed (suc n)

two_no_feed : (n : ℕ) → HasNoFeed (two_digits n)
two_no_feed n = no_feed-append (decimal (n / 10)) (decimal (n % 10)) (decimal_no_feed (n / 10)) (decimal_no_feed (n % 10))

parts_no_feed : (year month day : ℕ) → HasNoFeed (parts_text year month day)
parts_no_feed year month day =
    let years = two_digits (year / 100) ++ two_digits (year % 100) in
    let before = years ++ codes "-" ++ two_digits month in
    no_feed-append (before ++ codes "-") (two_digits day)
    (no_feed-append before (codes "-")
    (no_feed-append (years ++ codes "-") (two_digits month)
    (no_feed-append years (codes "-") (no_feed-append (two_digits (year / 100)) (two_digits (year % 100)) (two_no_feed (year / 100)) (two_no_feed (year % 100))) refl)
    (two_no_feed month)) refl)
    (two_no_feed day)

date_no_feed : (day : ℤ) → HasNoFeed (date_text day)
date_no_feed day = parts_no_feed _ (month_of day) (day_of_month day)

-- ---- lists

more_no_feed : {A : Type 0} (text : A → List ℕ) → ((x : A) → HasNoFeed (text x)) → (xs : List A) → HasNoFeed (more_text text xs)
unfolding more_text
more_no_feed text each [] = refl
more_no_feed text each (x ∷ xs) = no_feed-append (text x) (more_text text xs) (each x) (more_no_feed text each xs)

list_no_feed : {A : Type 0} (text : A → List ℕ) → ((x : A) → HasNoFeed (text x)) → (xs : List A) → HasNoFeed (list_text text xs)
list_no_feed text each [] = refl
list_no_feed text each (x ∷ xs) =
    no_feed-append (text x ++ more_text text xs) (codes "]") (no_feed-append (text x) (more_text text xs) (each x) (more_no_feed text each xs)) refl

-- ---- the parts of a line

method_no_feed : (m : Method) → HasNoFeed (method_word m)
method_no_feed Mwl = refl
method_no_feed Isna = refl
method_no_feed Egypt = refl
method_no_feed Karachi = refl
method_no_feed Makkah = refl
method_no_feed Tehran = refl
method_no_feed Jafari = refl

asr_no_feed : (a : Asr) → HasNoFeed (asr_word a)
asr_no_feed Standard = refl
asr_no_feed Hanafi = refl

rule_no_feed : (bs : List ℕ) → list_all is_rule_byte bs ≡ true → HasNoFeed bs
rule_no_feed [] h = refl
rule_no_feed (b ∷ bs) h =
    let first = and_left (is_rule_byte b) (list_all is_rule_byte bs) h in
    let other : is_no_feed b ≡ true = byte b first in
    and_true (is_no_feed b) (has_no_feed bs) other (rule_no_feed bs (and_right (is_rule_byte b) (list_all is_rule_byte bs) h))
  where
    byte : (b : ℕ) → is_rule_byte b ≡ true → is_no_feed b ≡ true
    byte b e = grind (arith, nat_tests)

zone_no_feed : (zone : Zone) → is_zone zone ≡ true → HasNoFeed (zone_text zone)
zone_no_feed (Fixed minutes) is = signed_no_feed minutes
zone_no_feed (Rule text) is = no_feed-append text (codes "\"") (rule_no_feed text (rule_bytes text is)) refl

span_no_feed : (version : ℕ) (from : ℤ) (days : ℕ) → HasNoFeed (span_text version from days)
span_no_feed version from days =
    no_feed-append (version_text version ++ date_text from) (days_text days)
    (no_feed-append (version_text version) (date_text from) (no_feed-append (decimal version) (codes ",\"from\":\"") (decimal_no_feed version) refl) (date_no_feed from))
    (decimal_no_feed days)

words_no_feed : (method : Method) (asr : Asr) (zone : Zone) → is_zone zone ≡ true → HasNoFeed (words_text method asr zone)
words_no_feed method asr zone is =
    let first = method_word method ++ codes "\",\"asr\":\"" in
    let second = first ++ asr_word asr ++ codes "\",\"zone\":" in
    no_feed-append second (zone_text zone)
    (no_feed-append (first ++ asr_word asr) (codes "\",\"zone\":")
    (no_feed-append first (asr_word asr) (no_feed-append (method_word method) (codes "\",\"asr\":\"") (method_no_feed method) refl) (asr_no_feed asr)) refl)
    (zone_no_feed zone is)

range_no_feed : (range : ℤ × ℤ) → HasNoFeed (range_text range)
range_no_feed range =
    let first = date_text range.0 ++ codes "\",\"" in
    no_feed-append (first ++ date_text range.1) (codes "\"]")
    (no_feed-append first (date_text range.1) (no_feed-append (date_text range.0) (codes "\",\"") (date_no_feed range.0) refl) (date_no_feed range.1)) refl

second_no_feed : (version height : ℕ) (late : List (ℤ × ℤ)) → HasNoFeed (second_text version height late)
second_no_feed version height late =
    chosen (nat_le 2 version) (height_text height ++ list_text range_text late) []
    (no_feed-append (height_text height) (list_text range_text late) (no_feed-append (decimal height) (codes ",\"late_isha\":") (decimal_no_feed height) refl)
    (list_no_feed range_text range_no_feed late)) refl

sun_no_feed : (sun : SunChoice) → HasNoFeed (sun_text sun)
sun_no_feed Usno = refl
sun_no_feed Meeus = refl

third_no_feed : (version : ℕ) (sun : SunChoice) → HasNoFeed (third_text version sun)
third_no_feed version sun = chosen (nat_le 3 version) (sun_text sun) [] (sun_no_feed sun) refl

night_no_feed : (night : Option NightRule) → HasNoFeed (night_text night)
night_no_feed None = refl
night_no_feed (Some Half) = refl
night_no_feed (Some Seventh) = refl
night_no_feed (Some ByAngle) = refl

position_no_feed : (p : Position) → HasNoFeed (position_text p)
position_no_feed p =
    let first = signed_decimal p.0 ++ codes "," in
    no_feed-append (first ++ signed_decimal p.1) (codes "]")
    (no_feed-append first (signed_decimal p.1) (no_feed-append (signed_decimal p.0) (codes ",") (signed_no_feed p.0) refl) (signed_no_feed p.1)) refl

order_no_feed : (o : Asked) → is_zone o.zone ≡ true → HasNoFeed (order_body o)
unfolding order_body
order_no_feed o is =
    let version = version_of o in
    let span = span_text version o.from_day o.days in
    let words = words_text o.method o.asr o.zone in
    let extras = extras_by version o in
    let district = district_text o.district in
    let more = no_feed-append (third_text version o.sun) (night_text o.night) (third_no_feed version o.sun) (night_no_feed o.night) in
    let rings = list_no_feed polygon_text (list_no_feed ring_text (list_no_feed position_text position_no_feed)) o.district in
    let front = span ++ words ++ extras ++ codes ",\"district\":" in
    no_feed-append (front ++ district) (codes "}")
    (no_feed-append front district
    (no_feed-append (span ++ words ++ extras) (codes ",\"district\":")
    (no_feed-append (span ++ words) extras
    (no_feed-append span words (span_no_feed version o.from_day o.days) (words_no_feed o.method o.asr o.zone is))
    (no_feed-append (second_text version o.height o.late) (third_text version o.sun ++ night_text o.night) (second_no_feed version o.height o.late) more))
    refl) rings) refl

-- ---- the first line

pub coverings_are_read : CoveringsAreRead
unfolding covering_of
coverings_are_read o is form =
    let lines = covering_lines form o in
    let cut = line_cut (order_body o) lines (order_no_feed o is.known_zone) in
    let whole = append_assoc (order_body o) (codes "\n") lines in
    (subst (λ (bs : List ℕ). ReadsLine bs (Ok o)) (sym (ap first_line whole ∙ cut.0)) (lines_are_read_again o is), sym (ap behind_line whole ∙ cut.1))
