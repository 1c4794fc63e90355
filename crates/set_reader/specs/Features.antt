-- The Features of a collection, each by its polygons.
use Rattle.std.specs.Prelude.{nat_le, ◌&&◌, if◌then◌else◌, List, length, Option, None, option_and_then}
use Rattle.std.specs.List.{flat_map}
use Rattle.json_value.specs.Tree.{Tree, Entry}
use Rattle.geo_json.specs.Geometry.{feature_in, features_list}
use Rattle.geo_json.specs.Lookup.{object_in}
use Rattle.ring_survey.specs.Each.{each_of}
use Rattle.ring_survey.specs.Polygons.{Polygon}

-- a Feature with a Polygon or a MultiPolygon
abbrev pub feature_of : Tree → Option (List Polygon)
feature_of t = option_and_then feature_in (object_in t)

-- 1 to 64 of them
abbrev pub each_feature : List Tree → Option (List (List Polygon))
each_feature ts = if nat_le 1 (length ts) && nat_le (length ts) 64 then each_of feature_of ts else None

-- the Features of a FeatureCollection, by its members
unfoldable pub features_of : List Entry → Option (List (List Polygon))
features_of es = option_and_then each_feature (features_list es)

-- all polygons of Features
abbrev pub polygons_of : List (List Polygon) → List Polygon
polygons_of features = flat_map (λ polygons. polygons) features
