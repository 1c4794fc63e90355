-- The bytes of the examples' order are read as that order.
use Rattle.std.proofs.Common.{◌≡◌, ℕ, ℤ, pos, List, [], ◌∷◌, All, map, Ok, append-nil, arith, codes, inl, refl, subst, sym}
use Rattle.std.proofs.lemmas.List.Elements.{All-cons, All-nil}
use Rattle.std.specs.Fmt.{digits, signed_decimal}
use Rattle.exact_json.specs.Grammar.{IsJsonWithin, Value}
use Rattle.exact_json.specs.Limits.{limits_before}
use Rattle.json_value.specs.Tree.{Tree, table_of}
use Rattle.exact_decimal.specs.Digits.{leading}
use Rattle.exact_decimal.specs.Micro.{micro_of, whole_of}
use Rattle.geo_json.specs.Geometry.{form_in, geometry_of, has_doubles, member_in, shape_in}
use Rattle.geo_json.specs.Lookup.{values_named}
use Rattle.jiff_core.specs.Calendar.{day_count, days_from_civil, days_of_months, days_of_years}
use Rattle.order_member.specs.Dates.{day_of, ymd_in}
use Rattle.order_member.specs.Members.{days_in, from_in, offsets_in, zone_in}
use Rattle.order_reader.specs.Reading.{basis_of, district_in, extras_of, order_in, order_of}
use Rattle.order_rule.specs.Offsets.{offsets_of}
use Rattle.ring_survey.specs.Each.{each_of}
use Rattle.year_table.specs.Dates.{months_within}
use Rattle.order_reader.specs.Reads.{ReadsOrder}
use Rattle.order_text.specs.Line.{list_text, more_text}
use Rattle.order_text.proofs.LineTree.{number_field, number_tree, polygon_tree, position_tree, ring_tree, text_field}
use Rattle.order_text.proofs.SpelledLemmas.{Field, IsField, Spells, entry_of, no_blanks, object_text, spells_list, spells_number, spells_object, spells_text}
use Rattle.ring_survey.specs.Polygons.{Polygon, Position, Ring}
use Rattle.timetable.specs.Examples.{first_asked, first_order, first_place}

-- the text of each part

abbrev position_text : Position → List ℕ
position_text p = list_text signed_decimal (p.0 ∷ p.1 ∷ [])

abbrev ring_text : Ring → List ℕ
ring_text = list_text position_text

abbrev polygon_text : Polygon → List ℕ
polygon_text = list_text ring_text

abbrev ring : Ring
ring = first_place ∷ first_place ∷ first_place ∷ first_place ∷ []

-- each is spelled by its text

zero_spelled : (depth : ℕ) → Spells depth (number_tree (pos 0)) (signed_decimal (pos 0))
zero_spelled depth = spells_number depth (pos 0) (omega arith)

place_spelled : Spells 4 (position_tree first_place) (position_text first_place)
place_spelled =
    let P : ℤ → Type 0 = λ z. Spells 5 (number_tree z) (signed_decimal z) in
    spells_list number_tree signed_decimal 4 (pos 0 ∷ pos 0 ∷ []) (omega arith)
    (All-cons P (pos 0) (pos 0 ∷ []) (zero_spelled 5) (All-cons P (pos 0) [] (zero_spelled 5) (All-nil P)))

ring_spelled : Spells 3 (ring_tree ring) (ring_text ring)
ring_spelled =
    let P : Position → Type 0 = λ p. Spells 4 (position_tree p) (position_text p) in
    spells_list position_tree position_text 3 ring (omega arith)
    (All-cons P first_place (first_place ∷ first_place ∷ first_place ∷ []) place_spelled
    (All-cons P first_place (first_place ∷ first_place ∷ []) place_spelled
    (All-cons P first_place (first_place ∷ []) place_spelled (All-cons P first_place [] place_spelled (All-nil P)))))

polygon_spelled : Spells 2 (polygon_tree (ring ∷ [])) (polygon_text (ring ∷ []))
polygon_spelled =
    let P : Ring → Type 0 = λ r. Spells 3 (ring_tree r) (ring_text r) in
    spells_list ring_tree ring_text 2 (ring ∷ []) (omega arith) (All-cons P ring [] ring_spelled (All-nil P))

-- the members

abbrev coordinates : Field
coordinates = record { name = codes "coordinates"; value = polygon_tree (ring ∷ []); spelled = polygon_text (ring ∷ []) }

abbrev geometry : List Field
geometry = text_field (codes "type") (codes "Polygon") ∷ coordinates ∷ []

geometry_spelled : Spells 1 (table_of (map entry_of geometry)) (object_text geometry)
geometry_spelled =
    spells_object 1 geometry (omega arith)
    (All-cons (IsField 1) _ (coordinates ∷ []) (record { plain = refl; spells = spells_text 2 (codes "Polygon") refl })
    (All-cons (IsField 1) coordinates [] (record { plain = refl; spells = polygon_spelled }) (All-nil (IsField 1))))

abbrev district : List Field
district = record { name = codes "district"; value = table_of (map entry_of geometry); spelled = object_text geometry } ∷ []

abbrev zone : List Field
zone = record { name = codes "zone"; value = number_tree (pos 0); spelled = signed_decimal (pos 0) } ∷ district

abbrev asr : List Field
asr = text_field (codes "asr") (codes "standard") ∷ zone

abbrev method : List Field
method = text_field (codes "method") (codes "mwl") ∷ asr

abbrev days : List Field
days = number_field (codes "days") 1 ∷ method

abbrev members : List Field
members = text_field (codes "from") (codes "2000-01-01") ∷ days

word_member : (name word : List ℕ) (rest : List Field) → All (IsField 0) rest → IsField 0 (text_field name word) → All (IsField 0) (text_field name word ∷ rest)
word_member name word rest others here = All-cons (IsField 0) (text_field name word) rest here others

members_spelled : Spells 0 (table_of (map entry_of members)) (object_text members)
members_spelled =
    spells_object 0 members (omega arith)
    (word_member (codes "from") (codes "2000-01-01") days
    (All-cons (IsField 0) _ method
    (record { plain = refl; spells = spells_number 1 (pos 1) (omega arith) })
    (word_member (codes "method") (codes "mwl") asr
    (word_member (codes "asr") (codes "standard") zone
    (All-cons (IsField 0) _ district
    (record { plain = refl; spells = zero_spelled 1 })
    (All-cons (IsField 0) _ [] (record { plain = refl; spells = geometry_spelled }) (All-nil (IsField 0))))
    (record { plain = refl; spells = spells_text 1 (codes "standard") refl }))
    (record { plain = refl; spells = spells_text 1 (codes "mwl") refl })))
    (record { plain = refl; spells = spells_text 1 (codes "2000-01-01") refl }))

-- the text is that of the example

text_is : object_text members ≡ first_order
unfolding more_text first_order digits
text_is = refl

is_json : IsJsonWithin (table_of (map entry_of members)) first_order
is_json =
    let tree : Tree = table_of (map entry_of members) in
    let spelled = subst (Spells 0 tree) text_is members_spelled [] in
    inl (
      [],
      no_blanks (λ rest. Value (limits_before 0) 0 tree rest []) first_order
          (subst (λ xs. Value (limits_before 0) 0 tree xs []) (append-nil first_order) spelled),
      tt,
    )

-- and its tree is read as the order

tree_is : order_in (table_of (map entry_of members)) ≡ Ok first_asked
unfolding order_in order_of basis_of extras_of district_in from_in days_in zone_in offsets_in offsets_of day_of ymd_in geometry_of form_in shape_in member_in has_doubles values_named each_of months_within leading whole_of micro_of digits days_from_civil day_count days_of_years days_of_months first_asked
tree_is = refl

pub first_order_is_read : ReadsOrder first_order (Ok first_asked)
first_order_is_read = (Ok (table_of (map entry_of members)), is_json, sym tree_is)
