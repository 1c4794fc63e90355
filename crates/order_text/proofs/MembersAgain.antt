-- The values of a canonical line's members are read as what they were written from.
use Rattle.std.proofs.Common.{◌≡◌, ◌∙◌, ap, refl, sym, subst, ℕ, zero, suc, ◌^◌, ◌≤◌, ℤ, pos, neg_ℤ, ◌+ℤ◌, ◌≤ℤ◌, Bool, true, cond, ◌&&◌, List, [], ◌∷◌, map, Option, Some, None, option_map, option_and_then, Ok, arith}
use Rattle.std.proofs.lemmas.Bool.{and_parts}
use Rattle.std.specs.Prelude.{int_le, length, nat_le, ◌||◌, unsigned_abs}
use Rattle.std.specs.List.{list_all}
use Rattle.std.proofs.lemmas.Int.{ints}
use Rattle.std.proofs.lemmas.Option.{cond_some, option_and_then_some}
use Rattle.json_value.specs.Tree.{text, list_of}
use Rattle.jiff_tz.specs.Year.{year_of_day}
use Rattle.method_table.specs.Method.{asr_word, method_word}
use Rattle.method_table.specs.declared.method.Asr.{Asr}
use Rattle.method_table.specs.declared.method.Asr.TheVariants.{Standard, Hanafi}
use Rattle.method_table.specs.declared.method.Method.{Method}
use Rattle.method_table.specs.declared.method.Method.TheVariants.{Mwl, Isna, Egypt, Karachi, Makkah, Tehran, Jafari}
use Rattle.night_rule.specs.Rule.{night_word}
use Rattle.night_rule.specs.declared.rule.NightRule.{NightRule}
use Rattle.night_rule.specs.declared.rule.NightRule.TheVariants.{Half, Seventh, ByAngle}
use Rattle.geo_json.proofs.LookupLemmas.{items_in_before}
use Rattle.order_member.specs.Members.{asr_in, days_in, from_in, height_in, late_in, method_in, offsets_in, pair_in, range_of, rule_in, sun_in, whole_within, zone_in}
use Rattle.order_rule.proofs.OffsetLemmas.{offset_in_range}
use Rattle.ring_survey.specs.Each.{each_of}
use Rattle.order_rule.specs.Late.{is_empty, is_makkah, is_range, may_be_late}
use Rattle.order_rule.specs.Offsets.{IsOffset, days_from, is_day, is_zone, last_day, offsets_of}
use Rattle.order_text.proofs.DateTexts.{day_read, day_text_read}
use Rattle.order_text.proofs.LineTree.{date_tree, number_tree, range_tree, zone_tree}
use Rattle.order_text.proofs.NumberLemmas.{whole_decimal, whole_of_decimal}
use Rattle.order_text.specs.LineReading.{version_in}
use Rattle.plane_edges.proofs.Truth.{le_true}
use Rattle.method_table.specs.Sun.{sun_word}
use Rattle.method_table.specs.declared.sun.SunChoice.{SunChoice}
use Rattle.method_table.specs.declared.sun.SunChoice.TheVariants.{Usno, Meeus}
use Rattle.year_table.specs.Dates.{day_of_month, month_of}
use Rattle.year_table.specs.Zones.{day_offset}
use Rattle.year_table.specs.declared.zone.Zone.{Zone}
use Rattle.year_table.specs.declared.zone.Zone.TheVariants.{Fixed, Rule}

-- a whole number in its range
whole_again : (low high z : ℤ) → low ≤ℤ z → z ≤ℤ high → unsigned_abs z ≤ 10 ^ 15 → whole_within low high (whole_decimal z) ≡ Some z
whole_again low high z l h small =
    ap (option_and_then (λ n. cond (int_le low n && int_le n high) (Some n) None)) (whole_of_decimal z small)
    ∙ ap (λ b. cond b (Some z) None) (ap (λ b. b && int_le z high) (le_true low z l) ∙ le_true z high h)

pub version_again : (n : ℕ) → 1 ≤ n → n ≤ 4 → version_in (number_tree (pos n)) ≡ Ok n
unfolding version_in
version_again n low high = rw (whole_again (pos 1) (pos 4) (pos n) (omega (arith, ints)) (omega (arith, ints)) (omega arith)) refl

pub from_again : (day : ℤ) → is_day day ≡ true → from_in (date_tree day) ≡ Ok day
unfolding from_in
from_again day h = rw (day_text_read day h, day_read day h) refl

pub days_again : (from : ℤ) (days : ℕ) → 1 ≤ days → days ≤ 366 → (from +ℤ pos days) ≤ℤ (last_day +ℤ pos 1) → days_in from (number_tree (pos days)) ≡ Ok days
unfolding days_in
days_again from days low high late =
    rw (whole_again (pos 1) (pos 366) (pos days) (omega (arith, ints)) (omega (arith, ints)) (omega arith), le_true (from +ℤ pos days) (last_day +ℤ pos 1) late) refl

pub method_again : (m : Method) → method_in (text (method_word m)) ≡ Ok m
method_again Mwl = refl
method_again Isna = refl
method_again Egypt = refl
method_again Karachi = refl
method_again Makkah = refl
method_again Tehran = refl
method_again Jafari = refl

pub asr_again : (a : Asr) → asr_in (text (asr_word a)) ≡ Ok a
asr_again Standard = refl
asr_again Hanafi = refl

-- a fixed offset of some day is in its range
fixed_range : (minutes day : ℤ) (n : ℕ) (offsets : List ℤ) → each_of (day_offset (Fixed minutes)) (days_from day (suc n)) ≡ Some offsets → IsOffset minutes
unfolding each_of
fixed_range minutes day n offsets e =
    option_and_then_some (λ y. option_map (λ ys. y ∷ ys) (each_of (day_offset (Fixed minutes)) (days_from (day +ℤ pos 1) n))) (day_offset (Fixed minutes) day) offsets e (λ y here rest.
    let same : minutes ≡ y = (cond_some (int_le (neg_ℤ (pos 720)) minutes && int_le minutes (pos 840)) minutes y here).1 in
    subst IsOffset (sym same) (offset_in_range (Fixed minutes) day y here))

pub zone_again : (zone : Zone) (from : ℤ) (days : ℕ) (offsets : List ℤ) → 1 ≤ days → is_zone zone ≡ true → offsets_of zone from days ≡ Some offsets → zone_in (zone_tree zone) ≡ Ok zone
unfolding zone_in offsets_of
zone_again (Fixed minutes) from zero offsets some known each = absurd (omega arith)
zone_again (Fixed minutes) from (suc n) offsets some known each =
    let range = fixed_range minutes from n offsets each in
    rw (whole_again (neg_ℤ (pos 720)) (pos 840) minutes range.low range.high (omega (arith, ints, range.low, range.high))) refl
zone_again (Rule rule) from days offsets some known each = rw known refl

pub offsets_again : (zone : Zone) (from : ℤ) (days : ℕ) (offsets : List ℤ) → offsets_of zone from days ≡ Some offsets → offsets_in from days zone ≡ Ok offsets
unfolding offsets_in
offsets_again zone from days offsets each = rw each refl

pub height_again : (height : ℕ) → height ≤ 9000 → height_in (number_tree (pos height)) ≡ Ok height
unfolding height_in
height_again height low = rw (whole_again (pos 0) (pos 9000) (pos height) (omega (arith, ints)) (omega (arith, ints)) (omega arith)) refl

pub sun_again : (sun : SunChoice) → sun_in (text (sun_word sun)) ≡ Ok sun
sun_again Usno = refl
sun_again Meeus = refl

pub night_again : (rule : NightRule) → rule_in (text (night_word rule)) ≡ Ok (Some rule)
night_again Half = refl
night_again Seventh = refl
night_again ByAngle = refl

-- Ranges of dates.

-- what is read of each item in two steps
both_again : {A B C : Type 0} (first : A → Option B) (second : B → Option C) (tree : C → A) (p : C → Bool) → ((x : C) → p x ≡ true → (b : B) × (first (tree x) ≡ Some b) × (second b ≡ Some x)) → (xs : List C) → list_all p xs ≡ true → (bs : List B) × (each_of first (map tree xs) ≡ Some bs) × (each_of second bs ≡ Some xs)
unfolding each_of
both_again first second tree p again [] h = ([], refl, refl)
both_again first second tree p again (x ∷ xs) h =
    let parts = and_parts (p x) (list_all p xs) h in
    let one = again x parts.0 in
    let rest = both_again first second tree p again xs parts.1 in
    (one.0 ∷ rest.0, rw (one.1, rest.1) refl, rw (one.2, rest.2) refl)

pub late_again : (method : Method) (late : List (ℤ × ℤ)) → may_be_late method late ≡ true → late_in method (list_of (map range_tree late)) ≡ Ok late
unfolding late_in
late_again method late h =
    let parts = and_parts (nat_le (length late) 8 && list_all is_range late) (is_empty late || is_makkah method) h in
    let ranges = (and_parts (nat_le (length late) 8) (list_all is_range late) parts.0).1 in
    let again = both_again pair_in range_of range_tree is_range (λ range r.
    let tests = and_parts (is_day range.0 && is_day range.1) (int_le range.0 range.1) r in
    let days = and_parts (is_day range.0) (is_day range.1) tests.0 in (
      (
        record { year = unsigned_abs (year_of_day range.0); month = month_of range.0; day = day_of_month range.0 },
        record { year = unsigned_abs (year_of_day range.1); month = month_of range.1; day = day_of_month range.1 },
      ),
      rw (day_text_read range.0 days.0, day_text_read range.1 days.1) refl,
      rw (day_read range.0 days.0, day_read range.1 days.1) refl,
    )) late ranges in
    rw (items_in_before (map range_tree late), again.1, again.2, h) refl
