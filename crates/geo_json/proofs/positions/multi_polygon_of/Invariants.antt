use Rattle.std.proofs.Common.{◌≡◌, drop}
use Rattle.json_value.specs.View.{items_of}
use Rattle.geo_json.specs.Geometry.{polygon_in}
use Rattle.geo_json.proofs.positions.multi_polygon_of.Given as goal
use Rattle.ring_survey.specs.Each.{each_of}
use Rattle.ring_survey.proofs.EachLemmas.{with_front}
use Rattle.ring_survey.specs.Vectors.{polygons_in}

abbrev pub invariant-loop-i : goal.invariant-loop-i
invariant-loop-i l = with_front (polygons_in l.all.items) (each_of (polygon_in l.notation) (drop l.i (items_of l.polygons))) ≡ each_of (polygon_in l.notation) (items_of l.polygons)
