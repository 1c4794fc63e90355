-- The canonical line of an order, without its LF, is spelled by JSON's grammar.
use Rattle.std.proofs.Common.{◌≡◌, ℕ, ◌≤◌, ◌^◌, ◌&&◌, Bool, true, false, ℤ, pos, neg_ℤ, ◌≤ℤ◌, int_le, nat_le, ◌||◌, length, Option, Some, None, All, List, [], ◌∷◌, ◌++◌, map, refl, ap, sym, subst, ◌∙◌, append_assoc, append-nil, codes, arith, inl}
use Rattle.std.proofs.lemmas.Bool.{and_parts}
use Rattle.std.proofs.lemmas.Int.{ints}
use Rattle.std.proofs.lemmas.List.Elements.{All-nil, All-cons, All-head, All-tail}
use Rattle.std.specs.Fmt.{decimal, signed_decimal}
use Rattle.std.specs.List.{list_all}
use Rattle.exact_json.specs.Grammar.{IsJsonWithin, Value}
use Rattle.exact_json.specs.Limits.{limits_before}
use Rattle.json_value.specs.Tree.{Tree, text, list_of, table_of}
use Rattle.method_table.specs.Method.{asr_word, method_word}
use Rattle.method_table.specs.declared.method.Asr.{Asr}
use Rattle.method_table.specs.declared.method.Asr.TheVariants.{Standard, Hanafi}
use Rattle.method_table.specs.declared.method.Method.{Method}
use Rattle.method_table.specs.declared.method.Method.TheVariants.{Mwl, Isna, Egypt, Karachi, Makkah, Tehran, Jafari}
use Rattle.night_rule.specs.Rule.{night_word}
use Rattle.night_rule.specs.declared.rule.NightRule.{NightRule}
use Rattle.night_rule.specs.declared.rule.NightRule.TheVariants.{Half, Seventh, ByAngle}
use Rattle.order_rule.specs.Asked.{Asked}
use Rattle.order_rule.specs.Late.{is_empty, is_makkah, is_range}
use Rattle.order_rule.specs.Offsets.{is_day, is_zone, offsets_of}
use Rattle.order_rule.specs.Rule.{IsOrder}
use Rattle.order_text.proofs.DateTexts.{day_text_plain}
use Rattle.order_text.proofs.LineTree.{common_fields, district_field, district_tree, fields_by, fields_of, last_fields, late_field, line_tree, night_field, number_field, number_tree, polygon_tree, position_tree, range_tree, ring_tree, second_fields, sun_field, text_field, zone_field, zone_tree}
use Rattle.order_text.proofs.RuleLemmas.{IsNear, fixed_near, near_district, rule_bytes}
use Rattle.order_text.proofs.SpelledLemmas.{Field, IsField, Spells, entry_of, field_text, no_blanks, object_text, quoted, spells_list, spells_number, spells_object, spells_text}
use Rattle.order_text.proofs.VersionLemmas.{at_most_four}
use Rattle.order_text.specs.Line.{body_text, district_text, height_text, is_plain, list_text, more_text, night_text, order_body, polygon_text, position_text, range_text, ring_text, second_text, span_text, sun_text, third_text, version_by, words_by, words_text, zone_text}
use Rattle.ring_survey.specs.Polygons.{Position, Ring, Polygon}
use Rattle.method_table.specs.Sun.{sun_word}
use Rattle.method_table.specs.declared.sun.SunChoice.{SunChoice}
use Rattle.method_table.specs.declared.sun.SunChoice.TheVariants.{Usno, Meeus}
use Rattle.year_table.specs.Dates.{date_text}
use Rattle.year_table.specs.Rules.{is_rule_byte}
use Rattle.year_table.specs.declared.zone.Zone.{Zone}
use Rattle.year_table.specs.declared.zone.Zone.TheVariants.{Fixed, Rule}

-- what holds of each, from what holds of each
all_map : {A : Type 0} (P Q : A → Type 0) → ((x : A) → P x → Q x) → (xs : List A) → All P xs → All Q xs
all_map P Q f [] h = All-nil Q
all_map P Q f (x ∷ xs) h = All-cons Q x xs (f x (All-head P x xs h)) (all_map P Q f xs (All-tail P x xs h))

-- two items
two_text : {A : Type 0} (text_of : A → List ℕ) (a b : A) → list_text text_of (a ∷ b ∷ []) ≡ codes "[" ++ text_of a ++ codes "," ++ text_of b ++ codes "]"
unfolding more_text
two_text text_of a b = simp (append_assoc, append-nil)

all_two : {A : Type 0} (P : A → Type 0) (a b : A) → P a → P b → All P (a ∷ b ∷ [])
all_two P a b p q = All-cons P a (b ∷ []) p (All-cons P b [] q (All-nil P))

-- Districts.

spells_position : (p : Position) → IsNear p → Spells 4 (position_tree p) (position_text p)
spells_position p near =
    subst (Spells 4 (position_tree p)) (two_text signed_decimal p.0 p.1)
    (spells_list number_tree signed_decimal 4 (p.0 ∷ p.1 ∷ []) (omega arith)
    (all_two (λ z. Spells 5 (number_tree z) (signed_decimal z)) p.0 p.1 (spells_number 5 p.0 near.longitude) (spells_number 5 p.1 near.latitude)))

spells_ring : (ring : Ring) → All IsNear ring → Spells 3 (ring_tree ring) (ring_text ring)
spells_ring ring near = spells_list position_tree position_text 3 ring (omega arith) (all_map IsNear (λ p. Spells 4 (position_tree p) (position_text p)) spells_position ring near)

spells_polygon : (rings : Polygon) → All (All IsNear) rings → Spells 2 (polygon_tree rings) (polygon_text rings)
spells_polygon rings near = spells_list ring_tree ring_text 2 rings (omega arith) (all_map (All IsNear) (λ r. Spells 3 (ring_tree r) (ring_text r)) spells_ring rings near)

spells_district : (polygons : List Polygon) → All (All (All IsNear)) polygons → Spells 1 (district_tree polygons) (district_text polygons)
spells_district polygons near = spells_list polygon_tree polygon_text 1 polygons (omega arith) (all_map (All (All IsNear)) (λ r. Spells 2 (polygon_tree r) (polygon_text r)) spells_polygon polygons near)

-- Ranges of dates.

two_texts : (a b : List ℕ) → list_text quoted (a ∷ b ∷ []) ≡ codes "[\"" ++ a ++ codes "\",\"" ++ b ++ codes "\"]"
unfolding more_text
two_texts a b = simp (append_assoc, append-nil)

spells_texts : (a b : List ℕ) → list_all is_rule_byte a ≡ true → list_all is_rule_byte b ≡ true → Spells 2 (list_of (map text (a ∷ b ∷ []))) (codes "[\"" ++ a ++ codes "\",\"" ++ b ++ codes "\"]")
spells_texts a b p q =
    subst (Spells 2 (list_of (map text (a ∷ b ∷ [])))) (two_texts a b)
    (spells_list text quoted 2 (a ∷ b ∷ []) (omega arith) (all_two (λ s. Spells 3 (text s) (quoted s)) a b (spells_text 3 a p) (spells_text 3 b q)))

spells_range : (range : ℤ × ℤ) → is_range range ≡ true → Spells 2 (range_tree range) (range_text range)
spells_range range h =
    let parts = and_parts (is_day range.0 && is_day range.1) (int_le range.0 range.1) h in
    let days = and_parts (is_day range.0) (is_day range.1) parts.0 in
    spells_texts (date_text range.0) (date_text range.1) (day_text_plain range.0 days.0) (day_text_plain range.1 days.1)

all_true : {A : Type 0} (p : A → Bool) (xs : List A) → list_all p xs ≡ true → All (λ x. p x ≡ true) xs
all_true p [] h = All-nil (λ x. p x ≡ true)
all_true p (x ∷ xs) h =
    let both = and_parts (p x) (list_all p xs) h in
    All-cons (λ y. p y ≡ true) x xs both.0 (all_true p xs both.1)

spells_late : (late : List (ℤ × ℤ)) → list_all is_range late ≡ true → Spells 1 (list_of (map range_tree late)) (list_text range_text late)
spells_late late h =
    spells_list range_tree range_text 1 late (omega arith)
    (all_map (λ r. is_range r ≡ true) (λ r. Spells 2 (range_tree r) (range_text r)) spells_range late (all_true is_range late h))

-- Words and zones.

method_plain : (m : Method) → list_all is_rule_byte (method_word m) ≡ true
method_plain Mwl = refl
method_plain Isna = refl
method_plain Egypt = refl
method_plain Karachi = refl
method_plain Makkah = refl
method_plain Tehran = refl
method_plain Jafari = refl

asr_plain : (a : Asr) → list_all is_rule_byte (asr_word a) ≡ true
asr_plain Standard = refl
asr_plain Hanafi = refl

sun_plain : (sun : SunChoice) → list_all is_rule_byte (sun_word sun) ≡ true
sun_plain Usno = refl
sun_plain Meeus = refl

night_plain : (rule : NightRule) → list_all is_rule_byte (night_word rule) ≡ true
night_plain Half = refl
night_plain Seventh = refl
night_plain ByAngle = refl

spells_zone : (zone : Zone) (day : ℤ) (days : ℕ) (offsets : List ℤ) → is_zone zone ≡ true → 1 ≤ days → offsets_of zone day days ≡ Some offsets → Spells 1 (zone_tree zone) (zone_text zone)
spells_zone (Fixed minutes) day days offsets is some each = spells_number 1 minutes (fixed_near minutes day days offsets some each)
spells_zone (Rule rule) day days offsets is some each = spells_text 1 rule (rule_bytes rule is)

-- The members.

number_member : (name : List ℕ) (n : ℕ) → list_all is_rule_byte name ≡ true → n ≤ 10 ^ 15 → IsField 0 (number_field name n)
number_member name n plain few = record { plain = plain; spells = spells_number 1 (pos n) few }

text_member : (name word : List ℕ) → list_all is_rule_byte name ≡ true → list_all is_rule_byte word ≡ true → IsField 0 (text_field name word)
text_member name word plain words = record { plain = plain; spells = spells_text 1 word words }

module _ (o : Asked) (is : IsOrder o) where
  late_ranges : list_all is_range o.late ≡ true
  late_ranges =
      let few = and_parts (nat_le (length o.late) 8 && list_all is_range o.late) (is_empty o.late || is_makkah o.method) is.late_in_range in
      (and_parts (nat_le (length o.late) 8) (list_all is_range o.late) few.0).1

  first_is_day : is_day o.from_day ≡ true
  first_is_day =
      let low : int_le (neg_ℤ (pos 25567)) o.from_day ≡ true = grind (arith, ints, is.not_early) in
      let until : o.from_day ≤ℤ pos 47846 = omega (arith, ints, is.not_late, is.some_days) in
      let high : int_le o.from_day (pos 47846) ≡ true = grind (arith, ints) in
      rw (low, high) refl

  version_member : (version : ℕ) → version ≤ 4 → IsField 0 (number_field (codes "version") version)
  version_member version h = number_member (codes "version") version refl (omega arith)

  zone_member : IsField 0 (zone_field o.zone)
  zone_member = record { plain = refl; spells = spells_zone o.zone o.from_day o.days o.offsets is.known_zone is.some_days is.offset_each }

  district_member : IsField 0 (district_field o.district)
  district_member = record { plain = refl; spells = spells_district o.district (near_district o.district is.sound) }

  late_member : IsField 0 (late_field o.late)
  late_member = record { plain = refl; spells = spells_late o.late late_ranges }

  common_members : (version : ℕ) (rest : List Field) → version ≤ 4 → All (IsField 0) rest → All (IsField 0) (common_fields version o rest)
  common_members version rest h each =
      let zone : List Field = zone_field o.zone ∷ rest in
      let asr : List Field = text_field (codes "asr") (asr_word o.asr) ∷ zone in
      let method : List Field = text_field (codes "method") (method_word o.method) ∷ asr in
      let days : List Field = number_field (codes "days") o.days ∷ method in
      let from : List Field = text_field (codes "from") (date_text o.from_day) ∷ days in
      All-cons (IsField 0) (number_field (codes "version") version) from (version_member version h)
      (All-cons (IsField 0) (text_field (codes "from") (date_text o.from_day)) days (text_member (codes "from") (date_text o.from_day) refl (day_text_plain o.from_day first_is_day))
      (All-cons (IsField 0) (number_field (codes "days") o.days) method (number_member (codes "days") o.days refl (omega (arith, is.few_days)))
      (All-cons (IsField 0) (text_field (codes "method") (method_word o.method)) asr (text_member (codes "method") (method_word o.method) refl (method_plain o.method))
      (All-cons (IsField 0) (text_field (codes "asr") (asr_word o.asr)) zone (text_member (codes "asr") (asr_word o.asr) refl (asr_plain o.asr))
      (All-cons (IsField 0) (zone_field o.zone) rest zone_member each)))))

  sun_member : (sun : SunChoice) → IsField 0 (sun_field sun)
  sun_member sun = text_member (codes "sun") (sun_word sun) refl (sun_plain sun)

  night_member : (rule : NightRule) → IsField 0 (night_field rule)
  night_member rule = text_member (codes "night") (night_word rule) refl (night_plain rule)

  second_members : (rest : List Field) → All (IsField 0) rest → All (IsField 0) (second_fields o rest)
  second_members rest each =
      All-cons (IsField 0) (number_field (codes "height") o.height) (late_field o.late ∷ rest) (number_member (codes "height") o.height refl (omega (arith, is.low)))
      (All-cons (IsField 0) (late_field o.late) rest late_member each)

  last_member : All (IsField 0) (district_field o.district ∷ [])
  last_member = All-cons (IsField 0) (district_field o.district) [] district_member (All-nil (IsField 0))

  last_members : (plain : Bool) (sun : SunChoice) (night : Option NightRule) → All (IsField 0) (last_fields plain sun night o)
  last_members plain sun (Some rule) =
      second_members (sun_field sun ∷ night_field rule ∷ district_field o.district ∷ [])
      (All-cons (IsField 0) (sun_field sun) (night_field rule ∷ district_field o.district ∷ []) (sun_member sun)
      (All-cons (IsField 0) (night_field rule) (district_field o.district ∷ []) (night_member rule) last_member))
  last_members plain Meeus None =
      second_members (sun_field Meeus ∷ district_field o.district ∷ [])
      (All-cons (IsField 0) (sun_field Meeus) (district_field o.district ∷ []) (sun_member Meeus) last_member)
  last_members true Usno None = last_member
  last_members false Usno None = second_members (district_field o.district ∷ []) last_member

  members : (plain : Bool) (sun : SunChoice) (night : Option NightRule) → All (IsField 0) (fields_by plain sun night o)
  members plain sun night = common_members (version_by plain sun night) (last_fields plain sun night o) (at_most_four plain sun night) (last_members plain sun night)

-- The line of the members is the line.

abbrev field : List ℕ → Tree → List ℕ → Field
field name value spelled = record { name = name; value = value; spelled = spelled }

-- the members after the first, and what follows them
abbrev rest_of : List Field → List ℕ → List ℕ
rest_of [] after = after
rest_of (f ∷ fs) after = codes "," ++ (quoted f.name ++ (codes ":" ++ (f.spelled ++ rest_of fs after)))

regrouped : (name value rest after : List ℕ) → ((name ++ (codes ":" ++ value)) ++ rest) ++ after ≡ name ++ (codes ":" ++ (value ++ (rest ++ after)))
regrouped name value rest after = simp append_assoc

more_is : (fs : List Field) (after : List ℕ) → more_text field_text fs ++ after ≡ rest_of fs after
unfolding more_text
more_is [] after = refl
more_is (f ∷ fs) after =
    ap (λ x. codes "," ++ x) (regrouped (quoted f.name) f.spelled (more_text field_text fs) after
    ∙ ap (λ x. quoted f.name ++ (codes ":" ++ (f.spelled ++ x))) (more_is fs after))

object_is : (f : Field) (fs : List Field) → object_text (f ∷ fs) ≡ codes "{" ++ (quoted f.name ++ (codes ":" ++ (f.spelled ++ rest_of fs (codes "}"))))
object_is f fs =
    ap (λ x. codes "{" ++ x) (regrouped (quoted f.name) f.spelled (more_text field_text fs) (codes "}")
    ∙ ap (λ x. quoted f.name ++ (codes ":" ++ (f.spelled ++ x))) (more_is fs (codes "}")))

span_is : (version date days after : List ℕ) → (codes "{\"version\":" ++ version ++ codes ",\"from\":\"" ++ date ++ (codes "\",\"days\":" ++ days)) ++ after ≡ codes "{\"version\":" ++ (version ++ (codes ",\"from\":\"" ++ (date ++ (codes "\",\"days\":" ++ (days ++ after)))))
span_is version date days after = six (codes "{\"version\":") version (codes ",\"from\":\"") date (codes "\",\"days\":") days after
  where
    six : (a v b d c n after : List ℕ) → (a ++ v ++ b ++ d ++ (c ++ n)) ++ after ≡ a ++ (v ++ (b ++ (d ++ (c ++ (n ++ after)))))
    six a v b d c n after = simp append_assoc

words_are : (method asr zone after : List ℕ) → words_by method asr zone ++ after ≡ codes ",\"method\":\"" ++ (method ++ (codes "\",\"asr\":\"" ++ (asr ++ (codes "\",\"zone\":" ++ (zone ++ after)))))
words_are method asr zone after = simp append_assoc

body_is : (span words extras district : List ℕ) → body_text span words extras district ≡ span ++ (words ++ (extras ++ (codes ",\"district\":" ++ (district ++ codes "}"))))
body_is span words extras district = simp append_assoc

quote_text : (w after : List ℕ) → quoted w ++ after ≡ codes "\"" ++ (w ++ (codes "\"" ++ after))
quote_text w after = simp append_assoc

-- the members up to the zone, and what follows them
abbrev common : (v n z : Tree) (version date days method asr zone : List ℕ) → List Field → List Field
common v n z version date days method asr zone rest =
    field (codes "version") v version ∷ text_field (codes "from") date ∷ field (codes "days") n days
    ∷ text_field (codes "method") method ∷ text_field (codes "asr") asr ∷ field (codes "zone") z zone ∷ rest

common_line : (v n z : Tree) (version date days method asr zone : List ℕ) (rest : List Field) (extras district : List ℕ) →
    rest_of rest (codes "}") ≡ extras ++ (codes ",\"district\":" ++ (district ++ codes "}")) →
    object_text (common v n z version date days method asr zone rest)
    ≡ body_text (codes "{\"version\":" ++ version ++ codes ",\"from\":\"" ++ date ++ (codes "\",\"days\":" ++ days)) (words_by method asr zone) extras district
common_line v n z version date days method asr zone rest extras district e =
    let after : List ℕ = extras ++ (codes ",\"district\":" ++ (district ++ codes "}")) in
    let zones : List Field = field (codes "zone") z zone ∷ rest in
    let asrs : List Field = text_field (codes "asr") asr ∷ zones in
    let methods : List Field = text_field (codes "method") method ∷ asrs in
    let dayses : List Field = field (codes "days") n days ∷ methods in
    let from_zone : rest_of zones (codes "}") ≡ codes ",\"zone\":" ++ (zone ++ after) = ap (λ x. codes ",\"zone\":" ++ (zone ++ x)) e in
    let from_asr : rest_of asrs (codes "}") ≡ codes ",\"asr\":\"" ++ (asr ++ (codes "\",\"zone\":" ++ (zone ++ after))) =
    ap (λ x. codes ",\"asr\":" ++ x) (quote_text asr (rest_of zones (codes "}"))) ∙ ap (λ x. codes ",\"asr\":\"" ++ (asr ++ (codes "\"" ++ x))) from_zone in
    let from_method : rest_of methods (codes "}") ≡ codes ",\"method\":\"" ++ (method ++ (codes "\",\"asr\":\"" ++ (asr ++ (codes "\",\"zone\":" ++ (zone ++ after))))) =
    ap (λ x. codes ",\"method\":" ++ x) (quote_text method (rest_of asrs (codes "}"))) ∙ ap (λ x. codes ",\"method\":\"" ++ (method ++ (codes "\"" ++ x))) from_asr in
    let words = words_are method asr zone after in
    let from_days : rest_of dayses (codes "}") ≡ codes ",\"days\":" ++ (days ++ (words_by method asr zone ++ after)) =
    ap (λ x. codes ",\"days\":" ++ (days ++ x)) (from_method ∙ sym words) in
    object_is (field (codes "version") v version) (text_field (codes "from") date ∷ dayses)
    ∙ (ap (λ x. codes "{\"version\":" ++ (version ++ (codes ",\"from\":" ++ x))) (quote_text date (rest_of dayses (codes "}")))
    ∙ (ap (λ x. codes "{\"version\":" ++ (version ++ (codes ",\"from\":\"" ++ (date ++ (codes "\"" ++ x))))) from_days
    ∙ sym (body_is (codes "{\"version\":" ++ version ++ codes ",\"from\":\"" ++ date ++ (codes "\",\"days\":" ++ days)) (words_by method asr zone) extras district ∙ span_is version date days (words_by method asr zone ++ after))))

extras_are : (height late after : List ℕ) → codes ",\"height\":" ++ (height ++ (codes ",\"late_isha\":" ++ (late ++ after))) ≡ (codes ",\"height\":" ++ height ++ codes ",\"late_isha\":" ++ late) ++ after
extras_are height late after = sym (four (codes ",\"height\":") height (codes ",\"late_isha\":") late after)
  where
    four : (a h b l after : List ℕ) → (a ++ h ++ b ++ l) ++ after ≡ a ++ (h ++ (b ++ (l ++ after)))
    four a h b l after = simp append_assoc

word_is : (key word after : List ℕ) → key ++ (quoted word ++ after) ≡ (key ++ codes "\"" ++ word ++ codes "\"") ++ after
word_is key word after = simp append_assoc

in_front : (a b c after : List ℕ) → (a ++ (b ++ c)) ++ after ≡ a ++ (b ++ (c ++ after))
in_front a b c after = simp append_assoc

module _ (o : Asked) where
  -- the district, and the end
  abbrev end_text : List ℕ
  end_text = codes ",\"district\":" ++ (district_text o.district ++ codes "}")

  abbrev second : List ℕ
  second = height_text o.height ++ list_text range_text o.late

  abbrev last_text : Bool → SunChoice → Option NightRule → List ℕ
  last_text plain sun night = second_text (version_by plain sun night) o.height o.late ++ (third_text (version_by plain sun night) sun ++ night_text night)

  sun_is : (sun : SunChoice) (after : List ℕ) → codes ",\"sun\":" ++ (quoted (sun_word sun) ++ after) ≡ sun_text sun ++ after
  sun_is sun after = word_is (codes ",\"sun\":") (sun_word sun) after

  night_is : (rule : NightRule) (after : List ℕ) → codes ",\"night\":" ++ (quoted (night_word rule) ++ after) ≡ night_text (Some rule) ++ after
  night_is rule after = word_is (codes ",\"night\":") (night_word rule) after

  second_is : (fs : List Field) → rest_of (second_fields o fs) (codes "}") ≡ second ++ rest_of fs (codes "}")
  second_is fs = extras_are (decimal o.height) (list_text range_text o.late) (rest_of fs (codes "}"))

  last_is : (plain : Bool) (sun : SunChoice) (night : Option NightRule) → rest_of (last_fields plain sun night o) (codes "}") ≡ last_text plain sun night ++ end_text
  last_is plain sun (Some rule) =
      second_is (sun_field sun ∷ night_field rule ∷ district_field o.district ∷ [])
      ∙ (ap (λ x. second ++ x) (sun_is sun (rest_of (night_field rule ∷ district_field o.district ∷ []) (codes "}")) ∙ ap (λ x. sun_text sun ++ x) (night_is rule end_text))
      ∙ sym (in_front second (sun_text sun) (night_text (Some rule)) end_text))
  last_is plain Meeus None =
      second_is (sun_field Meeus ∷ district_field o.district ∷ [])
      ∙ (ap (λ x. second ++ x) (sun_is Meeus end_text) ∙ sym (in_front second (sun_text Meeus) [] end_text))
  last_is true Usno None = refl
  last_is false Usno None = second_is (district_field o.district ∷ []) ∙ sym (in_front second [] [] end_text)

  line_by : (plain : Bool) (sun : SunChoice) (night : Option NightRule) → object_text (fields_by plain sun night o) ≡ body_text (span_text (version_by plain sun night) o.from_day o.days) (words_text o.method o.asr o.zone) (last_text plain sun night) (district_text o.district)
  line_by plain sun night =
      common_line (number_tree (pos (version_by plain sun night))) (number_tree (pos o.days)) (zone_tree o.zone) (decimal (version_by plain sun night)) (date_text o.from_day) (decimal o.days) (method_word o.method) (asr_word o.asr) (zone_text o.zone)
      (last_fields plain sun night o) (last_text plain sun night) (district_text o.district) (last_is plain sun night)

spelled_line : (o : Asked) → IsOrder o → Spells 0 (line_tree o) (order_body o)
unfolding line_tree order_body
spelled_line o is =
    subst (Spells 0 (table_of (map entry_of (fields_of o)))) (line_by o (is_plain o.height o.late) o.sun o.night)
    (spells_object 0 (fields_of o) (omega arith) (members o is (is_plain o.height o.late) o.sun o.night))

-- the line without its LF is a JSON text with its tree
pub line_is_json : (o : Asked) → IsOrder o → IsJsonWithin (line_tree o) (order_body o)
line_is_json o is =
    inl ([], no_blanks (λ rest. Value (limits_before 0) 0 (line_tree o) rest []) (order_body o) (rw append-nil at (spelled_line o is [])), tt)
