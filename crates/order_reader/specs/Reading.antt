-- The order of a plain tree, or its first refusal: the members one after another, of each whether it is missing, whether it stands
-- twice, its kind and its range. Other members are passed over.
use Rattle.std.specs.Prelude.{ℕ, ℤ, List, [], Option, Some, None, Result, Ok, Err}
use Rattle.std.specs.Option.{ok_or}
use Rattle.json_value.specs.Tree.{Tree, Entry}
use Rattle.method_table.specs.declared.method.Asr.{Asr}
use Rattle.method_table.specs.declared.method.Method.{Method}
use Rattle.night_rule.specs.declared.rule.NightRule.{NightRule}
use Rattle.geo_json.specs.Geometry.{geometry_of}
use Rattle.order_member.specs.Gives.{◌>>=◌}
use Rattle.geo_json.specs.Lookup.{object_in}
use Rattle.order_member.specs.Members.{asr_in, days_in, from_in, height_in, late_in, method_in, offsets_in, rule_in, sun_in, zone_in}
use Rattle.order_member.specs.Standing.{needed, optional}
use Rattle.order_member.specs.declared.fault.Member.TheVariants as members
use Rattle.order_member.specs.declared.fault.OrderFault.{OrderFault}
use Rattle.order_member.specs.declared.fault.OrderFault.TheVariants.{Kind, Geometry, Region}
use Rattle.order_rule.specs.Asked.{Asked}
use Rattle.ring_survey.specs.Faults.{first_fault}
use Rattle.ring_survey.specs.Polygons.{Polygon}
use Rattle.ring_survey.specs.declared.faults.RegionFault.{RegionFault}
use Rattle.method_table.specs.declared.sun.SunChoice.{SunChoice}
use Rattle.method_table.specs.declared.sun.SunChoice.TheVariants.{Usno}
use Rattle.year_table.specs.declared.zone.Zone.{Zone}

-- what the value says, or what is taken where there is none
abbrev pub or_absent : {A : Type 0} → A → (Tree → Result A OrderFault) → Option Tree → Result A OrderFault
or_absent a read None = Ok a
or_absent a read (Some t) = read t

-- what every order says of its days, its words and its clock
pub record Basis : Type 0 where
  pub from_day : ℤ
  pub days : ℕ
  pub method : Method
  pub asr : Asr
  pub zone : Zone
  pub offsets : List ℤ

unfoldable pub basis_of : List Entry → Result Basis OrderFault
basis_of es = do
  from_day ← needed members.From es >>= from_in
  days ← needed members.Days es >>= days_in from_day
  method ← needed members.Method es >>= method_in
  asr ← needed members.Asr es >>= asr_in
  zone ← needed members.Zone es >>= zone_in
  offsets ← offsets_in from_day days zone
  Ok (record { from_day = from_day; days = days; method = method; asr = asr; zone = zone; offsets = offsets })

-- what an order may say beside
abbrev pub height_of : List Entry → Result ℕ OrderFault
height_of es = optional members.Height es >>= or_absent 0 height_in

abbrev pub late_of : Method → List Entry → Result (List (ℤ × ℤ)) OrderFault
late_of method es = optional members.LateIsha es >>= or_absent [] (late_in method)

abbrev pub sun_of : List Entry → Result SunChoice OrderFault
sun_of es = optional members.Sun es >>= or_absent Usno sun_in

abbrev pub night_of : List Entry → Result (Option NightRule) OrderFault
night_of es = optional members.Night es >>= or_absent None rule_in

pub record Extras : Type 0 where
  pub height : ℕ
  pub late : List (ℤ × ℤ)
  pub sun : SunChoice
  pub night : Option NightRule

unfoldable pub extras_of : Method → List Entry → Result Extras OrderFault
extras_of method es = do
  height ← height_of es
  late ← late_of method es
  sun ← sun_of es
  night ← night_of es
  Ok (record { height = height; late = late; sun = sun; night = night })

-- polygons that are a district
abbrev pub unless_refused : List Polygon → Option RegionFault → Result (List Polygon) OrderFault
unless_refused polygons None = Ok polygons
unless_refused polygons (Some fault) = Err (Region fault)

abbrev pub district_of : List Polygon → Result (List Polygon) OrderFault
district_of polygons = unless_refused polygons (first_fault polygons)

-- the district of an object of GeoJSON
unfoldable pub district_in : Tree → Result (List Polygon) OrderFault
district_in t = do
  es ← ok_or (object_in t) (Kind members.District)
  polygons ← ok_or (geometry_of es) Geometry
  district_of polygons

abbrev pub asked_by : Basis → Extras → List Polygon → Asked
asked_by b x polygons =
    record {
      from_day = b.from_day;
      days = b.days;
      method = b.method;
      asr = b.asr;
      zone = b.zone;
      offsets = b.offsets;
      height = x.height;
      late = x.late;
      sun = x.sun;
      night = x.night;
      district = polygons;
    }

unfoldable pub order_of : List Entry → Result Asked OrderFault
order_of es = do
  basis ← basis_of es
  extras ← extras_of basis.method es
  polygons ← needed members.District es >>= district_in
  Ok (asked_by basis extras polygons)

-- the order of a JSON text
unfoldable pub order_in : Tree → Result Asked OrderFault
order_in t = do
  es ← ok_or (object_in t) (Kind members.Order)
  order_of es
