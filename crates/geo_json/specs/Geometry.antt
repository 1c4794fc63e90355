-- The polygons of a district: in the forms of GeoJSON (RFC 7946, section 3) that are read, and as lists of positions alone.
use Rattle.std.specs.Prelude.{◌≡◌, ℤ, ℕ, Bool, true, false, if◌then◌else◌, List, [], ◌∷◌, Option, Some, None, option_map, option_and_then, Result, Ok, Err, codes, bytes_eq, find}
use Rattle.std.specs.List.{list_any}
use Rattle.exact_decimal.specs.Micro.{micro_of, whole_of}
use Rattle.json_value.specs.Tree.{Tree, Entry}
use Rattle.geo_json.specs.Lookup.{number_in, text_in, list_in, object_in, Found, once, again, find_member}
use Rattle.geo_json.specs.declared.geometry.Form.{Form}
use Rattle.geo_json.specs.declared.geometry.Form.TheVariants.{Polygon as polygon_form, MultiPolygon as multi_polygon_form, Feature as feature_form, FeatureCollection as collection_form}
use Rattle.geo_json.specs.declared.positions.Notation.{Notation}
use Rattle.geo_json.specs.declared.positions.Notation.TheVariants.{Degrees, Microdegrees}
use Rattle.geo_json.specs.declared.positions.GeometryFault.{GeometryFault}
use Rattle.geo_json.specs.declared.positions.GeometryFault.TheVariants.{NotGeometry, NoMemory}
use Rattle.ring_survey.specs.Each.{each_of}
use Rattle.ring_survey.specs.Polygons.{Position, Ring, Polygon}

-- what was found, as view sees it, is what is to be read, unless memory ran out
abbrev pub Refuses : {Y : Type 0} → GeometryFault → Option Y → Type 0
Refuses NotGeometry read = read ≡ None
Refuses NoMemory read = Unit {0}

abbrev pub Answers : {X Y : Type 0} → (X → Y) → Result X GeometryFault → Option Y → Type 0
Answers view (Ok x) read = read ≡ Some (view x)
Answers view (Err fault) read = Refuses fault read

-- Lists of positions.

-- what is read of each item of a list; nothing where it is no list, or where one of them is not of the form
abbrev pub each_in : {A : Type 0} → (Tree → Option A) → Tree → Option (List A)
each_in read t = option_and_then (each_of read) (list_in t)

-- degrees as microdegrees, to the nearest
abbrev pub micro_in : Tree → Option ℤ
micro_in t = option_map micro_of (number_in t)

abbrev pub whole_in : Tree → Option ℤ
whole_in t = option_and_then whole_of (number_in t)

abbrev pub both : Option ℤ → Option ℤ → Option Position
both x y = option_and_then (λ a. option_map (λ b. (a, b)) y) x

-- longitude and latitude: two numbers, after which others may stand; or exactly two whole numbers
abbrev pub position_of : Notation → List Tree → Option Position
position_of Degrees (x ∷ y ∷ more) = both (micro_in x) (micro_in y)
position_of Microdegrees (x ∷ y ∷ []) = both (whole_in x) (whole_in y)
position_of _ _ = None

abbrev pub position_in : Notation → Tree → Option Position
position_in notation t = option_and_then (position_of notation) (list_in t)

abbrev pub ring_in : Notation → Tree → Option Ring
ring_in notation = each_in (position_in notation)

abbrev pub polygon_in : Notation → Tree → Option Polygon
polygon_in notation = each_in (ring_in notation)

abbrev pub multi_polygon_in : Notation → Tree → Option (List Polygon)
multi_polygon_in notation = each_in (polygon_in notation)

-- the district of a canonical line, by the items of its list
abbrev pub line_district_of : List Tree → Option (List Polygon)
line_district_of = each_of (polygon_in Microdegrees)

abbrev pub line_district_in : Tree → Option (List Polygon)
line_district_in t = option_and_then line_district_of (list_in t)

-- GeoJSON.

abbrev pub form_word : Form → List ℕ
form_word polygon_form = codes "Polygon"
form_word multi_polygon_form = codes "MultiPolygon"
form_word feature_form = codes "Feature"
form_word collection_form = codes "FeatureCollection"

abbrev pub form_named : List ℕ → Option Form
form_named word = find (λ form. bytes_eq (form_word form) word) (polygon_form ∷ multi_polygon_form ∷ feature_form ∷ collection_form ∷ [])

abbrev pub is_again : Found → Bool
is_again again = true
is_again _ = false

abbrev pub single : Found → Option Tree
single (once t) = Some t
single _ = None

-- whether a name that plays a part in one of the forms stands twice
unfoldable pub has_doubles : List Entry → Bool
has_doubles es = list_any (λ name. is_again (find_member name es)) (codes "type" ∷ codes "coordinates" ∷ codes "geometry" ∷ codes "features" ∷ [])

-- the value of the one member with a name
unfoldable pub member_in : List ℕ → List Entry → Option Tree
member_in name es = single (find_member name es)

-- the form of an object
unfoldable pub form_in : List Entry → Option Form
form_in es = if has_doubles es then None else option_and_then form_named (option_and_then text_in (member_in (codes "type") es))

abbrev pub one_polygon_in : Tree → Option (List Polygon)
one_polygon_in t = option_map (λ polygon. polygon ∷ []) (polygon_in Degrees t)

abbrev pub shape_by : Option Form → List Entry → Option (List Polygon)
shape_by (Some polygon_form) es = option_and_then one_polygon_in (member_in (codes "coordinates") es)
shape_by (Some multi_polygon_form) es = option_and_then (multi_polygon_in Degrees) (member_in (codes "coordinates") es)
shape_by _ es = None

-- a Polygon or a MultiPolygon
unfoldable pub shape_in : List Entry → Option (List Polygon)
shape_in es = shape_by (form_in es) es

abbrev pub feature_by : Option Form → List Entry → Option (List Polygon)
feature_by (Some feature_form) es = option_and_then shape_in (option_and_then object_in (member_in (codes "geometry") es))
feature_by _ es = None

-- a Feature with one of these two
unfoldable pub feature_in : List Entry → Option (List Polygon)
feature_in es = feature_by (form_in es) es

abbrev pub features_by : Option Form → List Entry → Option (List Tree)
features_by (Some collection_form) es = option_and_then list_in (member_in (codes "features") es)
features_by _ es = None

-- what a FeatureCollection has for its Features
abbrev pub features_list : List Entry → Option (List Tree)
features_list es = features_by (form_in es) es

-- the item of a list of exactly one
abbrev pub only_item : List Tree → Option Tree
only_item (t ∷ []) = Some t
only_item _ = None

abbrev pub only_feature : List Entry → Option (List Entry)
only_feature es = option_and_then object_in (option_and_then only_item (option_and_then list_in (member_in (codes "features") es)))

abbrev pub geometry_by : Option Form → List Entry → Option (List Polygon)
geometry_by (Some collection_form) es = option_and_then feature_in (only_feature es)
geometry_by (Some feature_form) es = feature_in es
geometry_by _ es = shape_in es

-- the polygons of an object in one of the four forms, by its members
unfoldable pub geometry_of : List Entry → Option (List Polygon)
geometry_of es = geometry_by (form_in es) es

abbrev pub geometry_in : Tree → Option (List Polygon)
geometry_in t = option_and_then geometry_of (object_in t)
