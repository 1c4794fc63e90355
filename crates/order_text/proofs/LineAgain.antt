-- A canonical line's tree is read as the order that it was written from.
use Rattle.std.proofs.Common.{◌≡◌, ◌∙◌, ap, refl, sym, ℕ, ◌==◌, ℤ, pos, Bool, true, false, List, [], ◌∷◌, map, Option, Some, None, Result, Ok, All, arith}
use Rattle.std.proofs.lemmas.Bool.{and_parts}
use Rattle.std.specs.List.{AllByRecursion}
use Rattle.std.proofs.lemmas.Bool.Decides.{nat_tests}
use Rattle.std.proofs.lemmas.Int.{ints}
use Rattle.std.proofs.lemmas.List.Elements.{recursion_from_All}
use Rattle.json_value.specs.Tree.{Tree, Entry, text, list_of}
use Rattle.method_table.specs.Method.{asr_word, method_word}
use Rattle.night_rule.specs.declared.rule.NightRule.{NightRule}
use Rattle.geo_json.proofs.LookupLemmas.{entries_in_before, items_in_before}
use Rattle.geo_json.specs.Geometry.{each_in, line_district_of}
use Rattle.geo_json.specs.Lookup.{values_named}
use Rattle.order_member.specs.Standing.{needed}
use Rattle.order_reader.specs.Reading.{Basis, Extras, basis_of}
use Rattle.order_member.specs.declared.fault.Member.TheVariants as members
use Rattle.order_member.specs.declared.fault.OrderFault.{OrderFault}
use Rattle.order_rule.specs.Asked.{Asked}
use Rattle.ring_survey.specs.Each.{each_of}
use Rattle.order_rule.specs.Late.{is_empty}
use Rattle.order_rule.specs.Offsets.{first_day, is_day, last_day}
use Rattle.order_rule.specs.Rule.{IsOrder}
use Rattle.order_text.proofs.LineTree.{date_tree, district_tree, fields_by, fields_of, line_tree, number_tree, polygon_tree, position_tree, ring_tree, zone_tree}
use Rattle.order_text.proofs.MembersAgain.{asr_again, days_again, from_again, height_again, late_again, method_again, night_again, offsets_again, sun_again, version_again, zone_again}
use Rattle.order_text.proofs.NumberLemmas.{whole_of_decimal}
use Rattle.order_text.proofs.RuleLemmas.{IsNear, near_district}
use Rattle.order_text.proofs.SpelledLemmas.{entry_of}
use Rattle.order_text.specs.Line.{is_plain, version_by}
use Rattle.order_text.specs.LineReading.{line_district, line_extras_of, line_order_in, line_order_of, version_in}
use Rattle.plane_edges.proofs.Truth.{le_true}
use Rattle.ring_survey.specs.Faults.{first_fault}
use Rattle.ring_survey.specs.Polygons.{Polygon}
use Rattle.method_table.specs.declared.sun.SunChoice.{SunChoice}
use Rattle.method_table.specs.declared.sun.SunChoice.TheVariants.{Usno, Meeus}

-- Districts.

-- a list whose items are read as what they were written from
each_by : {A : Type 0} (read : Tree → Option A) (tree : A → Tree) (P : A → Type 0) → ((x : A) → P x → read (tree x) ≡ Some x) → (xs : List A) → AllByRecursion P xs → each_of read (map tree xs) ≡ Some xs
unfolding each_of
each_by read tree P again [] h = refl
each_by read tree P again (x ∷ xs) h = rw (again x h.0, each_by read tree P again xs h.1) refl

each_again : {A : Type 0} (read : Tree → Option A) (tree : A → Tree) (P : A → Type 0) → ((x : A) → P x → read (tree x) ≡ Some x) → (xs : List A) → All P xs → each_of read (map tree xs) ≡ Some xs
each_again read tree P again xs h = each_by read tree P again xs (recursion_from_All P xs h)

list_again : {A : Type 0} (read : Tree → Option A) (tree : A → Tree) (P : A → Type 0) → ((x : A) → P x → read (tree x) ≡ Some x) → (xs : List A) → All P xs → each_in read (list_of (map tree xs)) ≡ Some xs
list_again read tree P again xs h = ap (each_of read) (items_in_before (map tree xs)) ∙ each_again read tree P again xs h

polygons_again : (polygons : List Polygon) → first_fault polygons ≡ None → line_district_of (map polygon_tree polygons) ≡ Some polygons
polygons_again polygons sound =
    each_again _ polygon_tree (All (All IsNear)) (list_again _ ring_tree (All IsNear) (list_again _ position_tree IsNear (λ p near.
    rw (whole_of_decimal p.0 near.longitude, whole_of_decimal p.1 near.latitude) refl))) polygons (near_district polygons sound)

district_again : (polygons : List Polygon) → first_fault polygons ≡ None → line_district (district_tree polygons) ≡ Ok polygons
unfolding line_district
district_again polygons sound = rw (items_in_before (map polygon_tree polygons), polygons_again polygons sound, sound) refl

-- Orders.

first_is_day : (o : Asked) → IsOrder o → is_day o.from_day ≡ true
first_is_day o h = rw (le_true first_day o.from_day h.not_early, le_true o.from_day last_day (omega (arith, ints, h.not_late, h.some_days))) refl

abbrev basis_in : Asked → Basis
basis_in o = record { from_day = o.from_day; days = o.days; method = o.method; asr = o.asr; zone = o.zone; offsets = o.offsets }

-- the members of a line before its further ones
record HasBasis (o : Asked) (es : List Entry) : Type 0 where
  from : needed members.From es ≡ Ok (date_tree o.from_day)
  days : needed members.Days es ≡ Ok (number_tree (pos o.days))
  method : needed members.Method es ≡ Ok (text (method_word o.method))
  asr : needed members.Asr es ≡ Ok (text (asr_word o.asr))
  zone : needed members.Zone es ≡ Ok (zone_tree o.zone)

basis_again : (o : Asked) (es : List Entry) → IsOrder o → HasBasis o es → basis_of es ≡ Ok (basis_in o)
unfolding basis_of
basis_again o es h has =
    rw (
      has.from,
      from_again o.from_day (first_is_day o h),
      has.days,
      days_again o.from_day o.days h.some_days h.few_days h.not_late,
      has.method,
      method_again o.method,
      has.asr,
      asr_again o.asr,
      has.zone,
      zone_again o.zone o.from_day o.days o.offsets h.some_days h.known_zone h.offset_each,
      offsets_again o.zone o.from_day o.days o.offsets h.offset_each,
    ) refl

basis_stands : (plain : Bool) (sun : SunChoice) (night : Option NightRule) (o : Asked) → HasBasis o (map entry_of (fields_by plain sun night o))
unfolding values_named
basis_stands plain sun (Some rule) o = record { from = refl; days = refl; method = refl; asr = refl; zone = refl }
basis_stands plain Meeus None o = record { from = refl; days = refl; method = refl; asr = refl; zone = refl }
basis_stands true Usno None o = record { from = refl; days = refl; method = refl; asr = refl; zone = refl }
basis_stands false Usno None o = record { from = refl; days = refl; method = refl; asr = refl; zone = refl }

-- what the members after the zone say
abbrev extras_with : Asked → SunChoice → Option NightRule → Extras
extras_with o sun night = record { height = o.height; late = o.late; sun = sun; night = night }

plain_same : (height k : ℕ) (late l : List (ℤ × ℤ)) → height ≡ k → late ≡ l → ◌≡◌ {A = Result Extras OrderFault} (Ok (record { height = height; late = late; sun = Usno; night = None })) (Ok (record { height = k; late = l; sun = Usno; night = None }))
plain_same height k late l p q = rw (p, q) refl

empty_is : (late : List (ℤ × ℤ)) → is_empty late ≡ true → late ≡ []
empty_is [] h = refl
empty_is (range ∷ late) h = cc

zero_is : (height : ℕ) → (height == 0) ≡ true → height ≡ 0
zero_is height h = grind (arith, nat_tests)

extras_again : (plain : Bool) (sun : SunChoice) (night : Option NightRule) (o : Asked) → IsOrder o → is_plain o.height o.late ≡ plain → line_extras_of (version_by plain sun night) o.method (map entry_of (fields_by plain sun night o)) ≡ Ok (extras_with o sun night)
unfolding line_extras_of values_named
extras_again plain sun (Some rule) o h is = rw (height_again o.height h.low, late_again o.method o.late h.late_in_range, sun_again sun, night_again rule) refl
extras_again plain Meeus None o h is = rw (height_again o.height h.low, late_again o.method o.late h.late_in_range) refl
extras_again true Usno None o h is =
    let none = and_parts (o.height == 0) (is_empty o.late) is in
    plain_same 0 o.height [] o.late (sym (zero_is o.height none.0)) (sym (empty_is o.late none.1))
extras_again false Usno None o h is = rw (height_again o.height h.low, late_again o.method o.late h.late_in_range) refl

version_stands : (plain : Bool) (sun : SunChoice) (night : Option NightRule) (o : Asked) → needed members.Version (map entry_of (fields_by plain sun night o)) ≡ Ok (number_tree (pos (version_by plain sun night)))
unfolding values_named
version_stands plain sun (Some rule) o = refl
version_stands plain Meeus None o = refl
version_stands true Usno None o = refl
version_stands false Usno None o = refl

version_read : (plain : Bool) (sun : SunChoice) (night : Option NightRule) → version_in (number_tree (pos (version_by plain sun night))) ≡ Ok (version_by plain sun night)
version_read plain sun (Some rule) = version_again 4 (omega arith) (omega arith)
version_read plain Meeus None = version_again 3 (omega arith) (omega arith)
version_read true Usno None = version_again 1 (omega arith) (omega arith)
version_read false Usno None = version_again 2 (omega arith) (omega arith)

district_stands : (plain : Bool) (sun : SunChoice) (night : Option NightRule) (o : Asked) → needed members.District (map entry_of (fields_by plain sun night o)) ≡ Ok (district_tree o.district)
unfolding values_named
district_stands plain sun (Some rule) o = refl
district_stands plain Meeus None o = refl
district_stands true Usno None o = refl
district_stands false Usno None o = refl

order_again : (plain : Bool) (o : Asked) → IsOrder o → is_plain o.height o.late ≡ plain → line_order_of (map entry_of (fields_by plain o.sun o.night o)) ≡ Ok o
unfolding line_order_of
order_again plain o h is =
    let es = map entry_of (fields_by plain o.sun o.night o) in
    rw (
      version_stands plain o.sun o.night o,
      version_read plain o.sun o.night,
      basis_again o es h (basis_stands plain o.sun o.night o),
      extras_again plain o.sun o.night o h is,
      district_stands plain o.sun o.night o,
      district_again o.district h.sound,
    ) refl

-- the tree of an order's line is read as that order
pub read_again : (o : Asked) → IsOrder o → line_order_in (line_tree o) ≡ Ok o
unfolding line_order_in line_tree
read_again o h = ap line_order_of (entries_in_before (map entry_of (fields_of o))) ∙ order_again (is_plain o.height o.late) o h refl
