-- The plain tree of a canonical line, and the text of each of its members.
use Rattle.std.proofs.Common.{ℕ, ℤ, pos, Bool, true, false, List, [], ◌∷◌, Option, Some, None, map, codes}
use Rattle.std.specs.Fmt.{decimal}
use Rattle.json_value.specs.Tree.{Tree, number, text, list_of, table_of}
use Rattle.method_table.specs.Method.{asr_word, method_word}
use Rattle.night_rule.specs.Rule.{night_word}
use Rattle.night_rule.specs.declared.rule.NightRule.{NightRule}
use Rattle.order_rule.specs.Asked.{Asked}
use Rattle.order_text.specs.Line.{district_text, is_plain, list_text, range_text, version_by, zone_text}
use Rattle.order_text.proofs.NumberLemmas.{whole_decimal}
use Rattle.order_text.proofs.SpelledLemmas.{Field, entry_of, quoted}
use Rattle.ring_survey.specs.Polygons.{Position, Ring, Polygon}
use Rattle.method_table.specs.Sun.{sun_word}
use Rattle.method_table.specs.declared.sun.SunChoice.{SunChoice}
use Rattle.method_table.specs.declared.sun.SunChoice.TheVariants.{Usno, Meeus}
use Rattle.year_table.specs.Dates.{date_text}
use Rattle.year_table.specs.declared.zone.Zone.{Zone}
use Rattle.year_table.specs.declared.zone.Zone.TheVariants.{Fixed, Rule}

-- a whole number, whose digits are those of its decimal text
abbrev pub number_tree : ℤ → Tree
number_tree z = number (whole_decimal z)

abbrev pub position_tree : Position → Tree
position_tree p = list_of (map number_tree (p.0 ∷ p.1 ∷ []))

abbrev pub ring_tree : Ring → Tree
ring_tree ring = list_of (map position_tree ring)

abbrev pub polygon_tree : Polygon → Tree
polygon_tree rings = list_of (map ring_tree rings)

abbrev pub district_tree : List Polygon → Tree
district_tree polygons = list_of (map polygon_tree polygons)

abbrev pub date_tree : ℤ → Tree
date_tree day = text (date_text day)

abbrev pub range_tree : ℤ × ℤ → Tree
range_tree range = list_of (map date_tree (range.0 ∷ range.1 ∷ []))

abbrev pub zone_tree : Zone → Tree
zone_tree (Fixed minutes) = number_tree minutes
zone_tree (Rule rule) = text rule

abbrev pub number_field : List ℕ → ℕ → Field
number_field name n = record { name = name; value = number_tree (pos n); spelled = decimal n }

abbrev pub text_field : List ℕ → List ℕ → Field
text_field name word = record { name = name; value = text word; spelled = quoted word }

abbrev pub zone_field : Zone → Field
zone_field zone = record { name = codes "zone"; value = zone_tree zone; spelled = zone_text zone }

abbrev pub late_field : List (ℤ × ℤ) → Field
late_field late = record { name = codes "late_isha"; value = list_of (map range_tree late); spelled = list_text range_text late }

abbrev pub district_field : List Polygon → Field
district_field polygons = record { name = codes "district"; value = district_tree polygons; spelled = district_text polygons }

abbrev pub sun_field : SunChoice → Field
sun_field sun = text_field (codes "sun") (sun_word sun)

abbrev pub night_field : NightRule → Field
night_field rule = text_field (codes "night") (night_word rule)

abbrev pub common_fields : ℕ → Asked → List Field → List Field
common_fields version o rest =
    number_field (codes "version") version
    ∷ text_field (codes "from") (date_text o.from_day)
    ∷ number_field (codes "days") o.days
    ∷ text_field (codes "method") (method_word o.method)
    ∷ text_field (codes "asr") (asr_word o.asr)
    ∷ zone_field o.zone
    ∷ rest

-- the members since the second version, before others
abbrev pub second_fields : Asked → List Field → List Field
second_fields o rest = number_field (codes "height") o.height ∷ late_field o.late ∷ rest

-- those after the zone, by whether there is neither a height nor a range, by the sun and by the rule
abbrev pub last_fields : Bool → SunChoice → Option NightRule → Asked → List Field
last_fields plain sun (Some rule) o = second_fields o (sun_field sun ∷ night_field rule ∷ district_field o.district ∷ [])
last_fields plain Meeus None o = second_fields o (sun_field Meeus ∷ district_field o.district ∷ [])
last_fields true Usno None o = district_field o.district ∷ []
last_fields false Usno None o = second_fields o (district_field o.district ∷ [])

abbrev pub fields_by : Bool → SunChoice → Option NightRule → Asked → List Field
fields_by plain sun night o = common_fields (version_by plain sun night) o (last_fields plain sun night o)

abbrev pub fields_of : Asked → List Field
fields_of o = fields_by (is_plain o.height o.late) o.sun o.night o

unfoldable pub line_tree : Asked → Tree
line_tree o = table_of (map entry_of (fields_of o))
