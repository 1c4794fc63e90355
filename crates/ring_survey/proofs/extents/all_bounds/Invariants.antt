use Rattle.std.proofs.Common.{◌≡◌, drop, None}
use Rattle.std.specs.Prelude.{fold}
use Rattle.ring_survey.specs.Bounds.{widened}
use Rattle.ring_survey.specs.Extent.{positions_of}
use Rattle.ring_survey.specs.Vectors.{polygons_in}
use Rattle.ring_survey.proofs.extents.all_bounds.Given as goal

abbrev pub invariant-loop-rings : goal.invariant-loop-rings
invariant-loop-rings l =
    fold widened l.grown (positions_of (polygons_in (drop l.rings-index l.polygons)))
    ≡ fold widened None (positions_of (polygons_in l.polygons))
