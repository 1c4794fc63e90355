-- The order and the border of a plain tree, or the first refusal.
use Rattle.std.specs.Prelude.{List, Option, Some, None, Result, Ok, Err, codes}
use Rattle.std.specs.Option.{ok_or}
use Rattle.json_value.specs.Tree.{Tree, Entry}
use Rattle.ring_survey.specs.Polygons.{Polygon}
use Rattle.ring_survey.specs.declared.faults.RegionFault.{RegionFault}
use Rattle.geo_json.specs.Geometry.{geometry_of}
use Rattle.geo_json.specs.Lookup.{Found, absent, once, again, find_member, object_in}
use Rattle.order_member.specs.Standing.{needed}
use Rattle.order_reader.specs.Reading.{order_in}
use Rattle.order_member.specs.declared.fault.Member.TheVariants as members
use Rattle.order_member.specs.declared.fault.OrderFault.{OrderFault}
use Rattle.order_member.specs.declared.fault.OrderFault.TheVariants as orders
use Rattle.order_rule.specs.Asked.{Asked}
use Rattle.border_check.specs.Borders.{border_fault}
use Rattle.border_input.specs.Gives.{◌>>=◌}
use Rattle.border_input.specs.Requests.{Requested}
use Rattle.border_input.specs.declared.fault.BorderFault.TheVariants as borders
use Rattle.border_input.specs.declared.fault.RequestFault.{RequestFault}
use Rattle.border_input.specs.declared.fault.RequestFault.TheVariants.{Order, Border}

-- what is read of the order, or its refusal
abbrev pub of_order : {A : Type 0} → Result A OrderFault → Result A RequestFault
of_order (Ok x) = Ok x
of_order (Err fault) = Err (Order fault)

abbrev pub order_value : List Entry → Result Tree RequestFault
order_value es = of_order (needed members.Order es)

abbrev pub order_part : Tree → Result Asked RequestFault
order_part t = of_order (order_in t)

-- the value of the member `border`, which must stand once
abbrev pub border_value_by : Found → Result Tree RequestFault
border_value_by absent = Err (Border borders.Missing)
border_value_by (once t) = Ok t
border_value_by again = Err (Border borders.Twice)

abbrev pub border_value : List Entry → Result Tree RequestFault
border_value es = border_value_by (find_member (codes "border") es)

-- polygons that are a border
abbrev pub unless_refused : List Polygon → Option RegionFault → Result (List Polygon) RequestFault
unless_refused polygons None = Ok polygons
unless_refused polygons (Some fault) = Err (Border (borders.Region fault))

abbrev pub border_of : List Polygon → Result (List Polygon) RequestFault
border_of polygons = unless_refused polygons (border_fault polygons)

unfoldable pub border_in : Tree → Result (List Polygon) RequestFault
border_in t = do
  es ← ok_or (object_in t) (Border borders.Kind)
  polygons ← ok_or (geometry_of es) (Border borders.Geometry)
  border_of polygons

unfoldable pub request_of : List Entry → Result Requested RequestFault
request_of es = do
  order ← order_value es >>= order_part
  border ← border_value es >>= border_in
  Ok (record { order = order; border = border })

-- an object with both
unfoldable pub request_in : Tree → Result Requested RequestFault
request_in t = do
  es ← ok_or (object_in t) (Order (orders.Kind members.Order))
  request_of es
