-- What each member of an order says, by the plain tree of its value, or why it is refused: first its kind, and then its range.
use Rattle.std.specs.Prelude.{ℕ, ℤ, pos, neg_ℤ, ◌+ℤ◌, int_le, unsigned_abs, ◌&&◌, if◌then◌else◌, List, [], ◌∷◌, Option, Some, None, option_map, option_and_then, Result, Ok, Err, find, bytes_eq}
use Rattle.std.specs.Option.{ok_or, option_zip}
use Rattle.json_value.specs.Tree.{Tree}
use Rattle.exact_decimal.specs.declared.decimal.Decimal.{Decimal}
use Rattle.method_table.specs.Method.{asr_word, method_of}
use Rattle.method_table.specs.declared.method.Asr.{Asr}
use Rattle.method_table.specs.declared.method.Asr.TheVariants.{Standard, Hanafi}
use Rattle.method_table.specs.declared.method.Method.{Method}
use Rattle.night_rule.specs.Rule.{night_rule_of}
use Rattle.night_rule.specs.declared.rule.NightRule.{NightRule}
use Rattle.order_member.specs.Dates.{day_of, ymd_in}
use Rattle.order_member.specs.declared.date.Ymd.{Ymd}
use Rattle.order_member.specs.Gives.{◌>>=◌}
use Rattle.geo_json.specs.Lookup.{list_in, number_in, text_in}
use Rattle.ring_survey.specs.Each.{each_of}
use Rattle.order_rule.specs.Late.{may_be_late}
use Rattle.order_rule.specs.Offsets.{last_day, offsets_of}
use Rattle.exact_decimal.specs.Micro.{whole_of}
use Rattle.order_member.specs.declared.fault.Member.{Member}
use Rattle.order_member.specs.declared.fault.Member.TheVariants.{From, Days, Method as MethodName, Asr as AsrName, Zone as ZoneName, Height, LateIsha, Sun, Night}
use Rattle.order_member.specs.declared.fault.OrderFault.{OrderFault}
use Rattle.order_member.specs.declared.fault.OrderFault.TheVariants.{Kind, Range}
use Rattle.method_table.specs.Sun.{sun_of}
use Rattle.year_table.specs.Rules.{is_rule}
use Rattle.method_table.specs.declared.sun.SunChoice.{SunChoice}
use Rattle.year_table.specs.declared.zone.Zone.{Zone}
use Rattle.year_table.specs.declared.zone.Zone.TheVariants.{Fixed, Rule}

-- a whole number from low to high
abbrev pub whole_within : ℤ → ℤ → Decimal → Option ℤ
whole_within low high d = option_and_then (λ n. if int_le low n && int_le n high then Some n else None) (whole_of d)

-- a word is one of a list's
abbrev pub word_in : {A : Type 0} → Member → (List ℕ → Option A) → Tree → Result A OrderFault
word_in m of_word t = do
  word ← ok_or (text_in t) (Kind m)
  ok_or (of_word word) (Range m)

-- the first day
unfoldable pub from_in : Tree → Result ℤ OrderFault
from_in t = do
  ymd ← ok_or (option_and_then ymd_in (text_in t)) (Kind From)
  ok_or (day_of ymd) (Range From)

-- so many days from a day on, of which the last is no later than the last day
abbrev pub days_of : ℤ → ℤ → Option ℕ
days_of from n = if int_le (from +ℤ n) (last_day +ℤ pos 1) then Some (unsigned_abs n) else None

unfoldable pub days_in : ℤ → Tree → Result ℕ OrderFault
days_in from t = do
  number ← ok_or (number_in t) (Kind Days)
  ok_or (option_and_then (days_of from) (whole_within (pos 1) (pos 366) number)) (Range Days)

abbrev pub method_in : Tree → Result Method OrderFault
method_in t = word_in MethodName method_of t

abbrev pub asr_of : List ℕ → Option Asr
asr_of word = find (λ a. bytes_eq (asr_word a) word) (Standard ∷ Hanafi ∷ [])

abbrev pub asr_in : Tree → Result Asr OrderFault
asr_in t = word_in AsrName asr_of t

-- a fixed zone, or that of a rule
abbrev pub zone_of_number : Decimal → Result Zone OrderFault
zone_of_number d = ok_or (option_map (λ minutes. Fixed minutes) (whole_within (neg_ℤ (pos 720)) (pos 840) d)) (Range ZoneName)

abbrev pub zone_of_text : List ℕ → Result Zone OrderFault
zone_of_text text = if is_rule text then Ok (Rule text) else Err (Kind ZoneName)

abbrev pub zone_by : Option Decimal → Option (List ℕ) → Result Zone OrderFault
zone_by (Some d) _ = zone_of_number d
zone_by None (Some text) = zone_of_text text
zone_by None None = Err (Kind ZoneName)

unfoldable pub zone_in : Tree → Result Zone OrderFault
zone_in t = zone_by (number_in t) (text_in t)

-- a zone with the offset of each of so many days from a day on
unfoldable pub offsets_in : ℤ → ℕ → Zone → Result (List ℤ) OrderFault
offsets_in from days zone = ok_or (offsets_of zone from days) (Range ZoneName)

unfoldable pub height_in : Tree → Result ℕ OrderFault
height_in t = do
  number ← ok_or (number_in t) (Kind Height)
  ok_or (option_map unsigned_abs (whole_within (pos 0) (pos 9000) number)) (Range Height)

-- two dates as they are written
abbrev pub two_ymds : List Tree → Option (Ymd × Ymd)
two_ymds (first ∷ last ∷ []) =
    option_zip (option_and_then ymd_in (text_in first)) (option_and_then ymd_in (text_in last))
two_ymds _ = None

abbrev pub pair_in : Tree → Option (Ymd × Ymd)
pair_in t = option_and_then two_ymds (list_in t)

abbrev pub range_of : Ymd × Ymd → Option (ℤ × ℤ)
range_of pair = option_zip (day_of pair.0) (day_of pair.1)

abbrev pub late_of : Method → List (ℤ × ℤ) → Option (List (ℤ × ℤ))
late_of method late = if may_be_late method late then Some late else None

unfoldable pub late_in : Method → Tree → Result (List (ℤ × ℤ)) OrderFault
late_in method t = do
  pairs ← ok_or (option_and_then (each_of pair_in) (list_in t)) (Kind LateIsha)
  ok_or (option_and_then (late_of method) (each_of range_of pairs)) (Range LateIsha)

abbrev pub sun_in : Tree → Result SunChoice OrderFault
sun_in t = word_in Sun sun_of t

abbrev pub night_in : Tree → Result NightRule OrderFault
night_in t = word_in Night night_rule_of t

-- the same, where a rule may be lacking
abbrev pub rule_in : Tree → Result (Option NightRule) OrderFault
rule_in t = night_in t >>= λ rule. Ok (Some rule)
