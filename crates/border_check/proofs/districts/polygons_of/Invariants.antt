use Rattle.std.proofs.Common.{◌≡◌, take}
use Rattle.ring_survey.specs.Vectors.{polygons_in}
use Rattle.border_check.proofs.districts.polygons_of.Given as goal

abbrev pub invariant-loop-polygon : goal.invariant-loop-polygon
invariant-loop-polygon l = polygons_in l.polygons.items ≡ take l.polygon l.district
