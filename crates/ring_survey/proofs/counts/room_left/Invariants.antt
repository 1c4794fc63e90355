use Rattle.std.proofs.Common.{◌≡◌, ◌+◌, drop, length}
use Rattle.ring_survey.specs.Extent.{positions_of}
use Rattle.ring_survey.specs.Vectors.{polygons_in}
use Rattle.ring_survey.proofs.counts.room_left.Given as goal

abbrev pub invariant-loop-rings : goal.invariant-loop-rings
invariant-loop-rings l =
    l.left + length (positions_of (polygons_in l.polygons))
    ≡ l.fn.room + length (positions_of (polygons_in (drop l.rings-index l.polygons)))
