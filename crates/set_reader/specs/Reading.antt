-- The set of a plain tree, or its first refusal: the members as those of an order, of which only the rule for nights and the
-- district are looked at otherwise.
use Rattle.std.specs.Prelude.{List, Option, Some, None, Result, Ok, Err}
use Rattle.std.specs.Option.{ok_or}
use Rattle.json_value.specs.Tree.{Tree, Entry}
use Rattle.night_rule.specs.declared.rule.NightRule.{NightRule}
use Rattle.order_member.specs.Gives.{◌>>=◌}
use Rattle.geo_json.specs.Lookup.{object_in}
use Rattle.order_member.specs.Standing.{needed}
use Rattle.order_reader.specs.Reading.{asked_by, basis_of, district_of, extras_of}
use Rattle.order_member.specs.declared.fault.Member.TheVariants as members
use Rattle.order_member.specs.declared.fault.OrderFault.{OrderFault}
use Rattle.order_member.specs.declared.fault.OrderFault.TheVariants.{Geometry, Kind, Range, Region}
use Rattle.ring_survey.specs.Polygons.{Polygon}
use Rattle.ring_survey.specs.declared.faults.RegionFault.{RegionFault}
use Rattle.set_reader.specs.Asked.{SetAsked}
use Rattle.set_reader.specs.Features.{features_of, polygons_of}
use Rattle.set_reader.specs.Together.{parts_fault}

-- no word of a rule is in range
abbrev pub without_rule : Option NightRule → Result (Unit {0}) OrderFault
without_rule None = Ok tt
without_rule (Some rule) = Err (Range members.Night)

-- the Features, if each is a district
abbrev pub unless_one_refused : List (List Polygon) → Option RegionFault → Result (List (List Polygon)) OrderFault
unless_one_refused features None = Ok features
unless_one_refused features (Some fault) = Err (Region fault)

abbrev pub parts_of : List (List Polygon) → Result (List (List Polygon)) OrderFault
parts_of features = unless_one_refused features (parts_fault features)

-- the district of all polygons, and that of each Feature
pub record Districts : Type 0 where
  pub whole : List Polygon
  pub parts : List (List Polygon)

-- each Feature is looked at before all of them together
unfoldable pub districts_in : Tree → Result Districts OrderFault
districts_in t = do
  es ← ok_or (object_in t) (Kind members.District)
  features ← ok_or (features_of es) Geometry
  parts ← parts_of features
  whole ← district_of (polygons_of features)
  Ok (record { whole = whole; parts = parts })

unfoldable pub set_of : List Entry → Result SetAsked OrderFault
set_of es = do
  basis ← basis_of es
  extras ← extras_of basis.method es
  _ ← without_rule extras.night
  districts ← needed members.District es >>= districts_in
  Ok (record { whole = asked_by basis extras districts.whole; parts = districts.parts })

-- the set of a JSON text
unfoldable pub set_in : Tree → Result SetAsked OrderFault
set_in t = do
  es ← ok_or (object_in t) (Kind members.Order)
  set_of es
