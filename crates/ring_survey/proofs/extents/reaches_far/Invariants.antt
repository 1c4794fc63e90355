use Rattle.std.proofs.Common.{◌≡◌, drop}
use Rattle.std.specs.List.{list_any}
use Rattle.ring_survey.specs.Extent.{is_far, positions_of}
use Rattle.ring_survey.specs.Vectors.{polygons_in}
use Rattle.ring_survey.proofs.extents.reaches_far.Given as goal

abbrev pub invariant-loop-rings : goal.invariant-loop-rings
invariant-loop-rings l =
    list_any is_far (positions_of (polygons_in (drop l.rings-index l.polygons)))
    ≡ list_any is_far (positions_of (polygons_in l.polygons))
