use Rattle.std.proofs.Common.{drop}
use Rattle.ring_survey.specs.Vectors.{polygons_in}
use Rattle.border_check.specs.Views.{box_of}
use Rattle.border_check.proofs.Growing.{PolygonsShared}
use Rattle.border_check.proofs.shares.Share.of_polygons.Given as goal

abbrev pub invariant-loop-rings : goal.invariant-loop-rings
invariant-loop-rings l = PolygonsShared (box_of l.r) (polygons_in l.polygons) l.share (polygons_in (drop l.rings-index l.polygons))
