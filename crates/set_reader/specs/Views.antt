-- What the code's values stand for.
use Rattle.std.specs.Prelude.{ℤ, List, map}
use Rattle.std.specs.declared.vec.Vec.{Vec}
use Rattle.ring_survey.specs.Polygons.{Polygon}
use Rattle.ring_survey.specs.Vectors.{polygons_in}
use Rattle.set_reader.specs.Reading as reading
use Rattle.set_reader.specs.declared.districts.Districts.{Districts}

abbrev pub features_in : {Z : Type 0} → List (Vec (Vec (Vec (ℤ × ℤ) Z) Z) Z) → List (List Polygon)
features_in features = map (λ polygons. polygons_in polygons.items) features

abbrev pub districts_view : Districts → reading.Districts
districts_view d = record { whole = d.whole; parts = d.parts }
