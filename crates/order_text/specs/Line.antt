-- The canonical line of an order: one object of JSON without blanks, its members in one order, that ends with LF.
use Rattle.std.specs.Prelude.{ℕ, zero, suc, nat_le, ◌==◌, ◌++◌, Bool, ◌&&◌, if◌then◌else◌, ℤ, List, [], ◌∷◌, Option, Some, None, codes, decimal}
use Rattle.std.specs.Fmt.{signed_decimal}
use Rattle.method_table.specs.Method.{asr_word, method_word}
use Rattle.method_table.specs.declared.method.Asr.{Asr}
use Rattle.method_table.specs.declared.method.Method.{Method}
use Rattle.night_rule.specs.Rule.{night_word}
use Rattle.night_rule.specs.declared.rule.NightRule.{NightRule}
use Rattle.order_rule.specs.Asked.{Asked}
use Rattle.order_rule.specs.Late.{is_empty}
use Rattle.ring_survey.specs.Polygons.{Position, Ring, Polygon}
use Rattle.method_table.specs.Sun.{sun_word}
use Rattle.method_table.specs.declared.sun.SunChoice.{SunChoice}
use Rattle.method_table.specs.declared.sun.SunChoice.TheVariants.{Usno, Meeus}
use Rattle.year_table.specs.Dates.{date_text}
use Rattle.year_table.specs.declared.zone.Zone.{Zone}
use Rattle.year_table.specs.declared.zone.Zone.TheVariants.{Fixed, Rule}

-- Lists.

-- the items after the first
unfoldable pub more_text : {A : Type 0} → (A → List ℕ) → List A → List ℕ
more_text text [] = []
more_text text (x ∷ xs) = codes "," ++ (text x ++ more_text text xs)

abbrev pub items_text : {A : Type 0} → (A → List ℕ) → List A → List ℕ
items_text text [] = []
items_text text (x ∷ xs) = text x ++ more_text text xs

abbrev pub list_text : {A : Type 0} → (A → List ℕ) → List A → List ℕ
list_text text xs = codes "[" ++ (items_text text xs ++ codes "]")

-- no comma stands before the first item
abbrev pub comma_before : ℕ → List ℕ
comma_before zero = []
comma_before (suc i) = codes ","

-- The parts of a line.

-- the least version whose members can say it: the first has neither a height nor ranges of dates, and no version before the third a
-- sun, none before the fourth a rule for nights
abbrev pub version_by : Bool → SunChoice → Option NightRule → ℕ
version_by plain sun (Some rule) = 4
version_by plain Meeus None = 3
version_by plain Usno None = if plain then 1 else 2

abbrev pub is_plain : ℕ → List (ℤ × ℤ) → Bool
is_plain height late = (height == 0) && is_empty late

abbrev pub version_of : Asked → ℕ
version_of o = version_by (is_plain o.height o.late) o.sun o.night

abbrev pub version_text : ℕ → List ℕ
version_text version = codes "{\"version\":" ++ decimal version ++ codes ",\"from\":\""

abbrev pub days_text : ℕ → List ℕ
days_text days = codes "\",\"days\":" ++ decimal days

abbrev pub span_text : ℕ → ℤ → ℕ → List ℕ
span_text version from days = version_text version ++ date_text from ++ days_text days

-- a fixed offset in minutes, or the text of a rule in quotes
abbrev pub zone_text : Zone → List ℕ
zone_text (Fixed minutes) = signed_decimal minutes
zone_text (Rule text) = codes "\"" ++ text ++ codes "\""

abbrev pub words_by : List ℕ → List ℕ → List ℕ → List ℕ
words_by method asr zone =
    codes ",\"method\":\"" ++ method ++ codes "\",\"asr\":\"" ++ asr ++ codes "\",\"zone\":" ++ zone

abbrev pub words_text : Method → Asr → Zone → List ℕ
words_text method asr zone = words_by (method_word method) (asr_word asr) (zone_text zone)

-- the first and the last date of a range
abbrev pub range_text : ℤ × ℤ → List ℕ
range_text range = codes "[\"" ++ date_text range.0 ++ codes "\",\"" ++ date_text range.1 ++ codes "\"]"

abbrev pub height_text : ℕ → List ℕ
height_text height = codes ",\"height\":" ++ decimal height ++ codes ",\"late_isha\":"

abbrev pub sun_text : SunChoice → List ℕ
sun_text sun = codes ",\"sun\":\"" ++ sun_word sun ++ codes "\""

abbrev pub night_text : Option NightRule → List ℕ
night_text None = []
night_text (Some rule) = codes ",\"night\":\"" ++ night_word rule ++ codes "\""

-- what the first version lacks, and what the second one lacks
abbrev pub second_text : ℕ → ℕ → List (ℤ × ℤ) → List ℕ
second_text version height late = if nat_le 2 version then height_text height ++ list_text range_text late else []

abbrev pub third_text : ℕ → SunChoice → List ℕ
third_text version sun = if nat_le 3 version then sun_text sun else []

abbrev pub extras_by : ℕ → Asked → List ℕ
extras_by version o = second_text version o.height o.late ++ (third_text version o.sun ++ night_text o.night)

-- longitude and latitude in microdegrees
abbrev pub position_text : Position → List ℕ
position_text p = codes "[" ++ signed_decimal p.0 ++ codes "," ++ signed_decimal p.1 ++ codes "]"

abbrev pub ring_text : Ring → List ℕ
ring_text = list_text position_text

abbrev pub polygon_text : Polygon → List ℕ
polygon_text = list_text ring_text

abbrev pub district_text : List Polygon → List ℕ
district_text = list_text polygon_text

abbrev pub body_text : List ℕ → List ℕ → List ℕ → List ℕ → List ℕ
body_text span words extras district = span ++ words ++ extras ++ codes ",\"district\":" ++ district ++ codes "}"

-- the line without its LF
unfoldable pub order_body : Asked → List ℕ
order_body o =
    body_text (span_text (version_of o) o.from_day o.days) (words_text o.method o.asr o.zone) (extras_by (version_of o) o) (district_text o.district)

abbrev pub order_line : Asked → List ℕ
order_line o = order_body o ++ codes "\n"
