-- The order of a canonical line's tree, or its first refusal: its version first, and then all members of that version, as those of
-- an order are read. Other members are passed over.
use Rattle.std.specs.Prelude.{ℕ, nat_le, pos, unsigned_abs, if◌then◌else◌, List, [], None, option_map, Result, Ok}
use Rattle.std.specs.Option.{ok_or}
use Rattle.json_value.specs.Tree.{Tree, Entry}
use Rattle.method_table.specs.declared.method.Method.{Method}
use Rattle.geo_json.specs.Geometry.{line_district_of}
use Rattle.order_member.specs.Gives.{◌>>=◌}
use Rattle.geo_json.specs.Lookup.{list_in, number_in, object_in}
use Rattle.order_member.specs.Members.{height_in, late_in, rule_in, sun_in, whole_within}
use Rattle.order_member.specs.Standing.{needed}
use Rattle.order_reader.specs.Reading.{Extras, asked_by, basis_of, district_of}
use Rattle.order_reader.specs.Reads.{ReadsBy}
use Rattle.order_member.specs.declared.fault.Member.{Member}
use Rattle.order_member.specs.declared.fault.Member.TheVariants as members
use Rattle.order_member.specs.declared.fault.OrderFault.{OrderFault}
use Rattle.order_member.specs.declared.fault.OrderFault.TheVariants.{Kind, Range, Geometry}
use Rattle.order_rule.specs.Asked.{Asked}
use Rattle.ring_survey.specs.Polygons.{Polygon}
use Rattle.method_table.specs.declared.sun.SunChoice.TheVariants.{Usno}

-- 1 to 4
unfoldable pub version_in : Tree → Result ℕ OrderFault
version_in t = do
  number ← ok_or (number_in t) (Kind members.Version)
  ok_or (option_map unsigned_abs (whole_within (pos 1) (pos 4) number)) (Range members.Version)

-- what a member says that each line has from some version on, or what is taken in an earlier one
abbrev pub since : {A : Type 0} → ℕ → Member → A → (Tree → Result A OrderFault) → ℕ → List Entry → Result A OrderFault
since first m absent read version es = if nat_le first version then needed m es >>= read else Ok absent

unfoldable pub line_extras_of : ℕ → Method → List Entry → Result Extras OrderFault
line_extras_of version method es = do
  height ← since 2 members.Height 0 height_in version es
  late ← since 2 members.LateIsha [] (late_in method) version es
  sun ← since 3 members.Sun Usno sun_in version es
  night ← since 4 members.Night None rule_in version es
  Ok (record { height = height; late = late; sun = sun; night = night })

-- the district of lists of positions
unfoldable pub line_district : Tree → Result (List Polygon) OrderFault
line_district t = do
  items ← ok_or (list_in t) (Kind members.District)
  polygons ← ok_or (line_district_of items) Geometry
  district_of polygons

unfoldable pub line_order_of : List Entry → Result Asked OrderFault
line_order_of es = do
  version ← needed members.Version es >>= version_in
  basis ← basis_of es
  extras ← line_extras_of version basis.method es
  polygons ← needed members.District es >>= line_district
  Ok (asked_by basis extras polygons)

-- the order of a JSON text
unfoldable pub line_order_in : Tree → Result Asked OrderFault
line_order_in t = do
  es ← ok_or (object_in t) (Kind members.Order)
  line_order_of es

-- what reading bytes as a canonical line without its LF answers
abbrev pub ReadsLine : List ℕ → Result Asked OrderFault → Type 0
ReadsLine = ReadsBy line_order_in
