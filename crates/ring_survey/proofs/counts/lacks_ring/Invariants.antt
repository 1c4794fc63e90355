use Rattle.std.proofs.Common.{◌≡◌, drop}
use Rattle.std.specs.List.{list_any}
use Rattle.ring_survey.specs.Faults.{is_empty}
use Rattle.ring_survey.specs.Vectors.{polygons_in}
use Rattle.ring_survey.proofs.counts.lacks_ring.Given as goal

abbrev pub invariant-loop-rings : goal.invariant-loop-rings
invariant-loop-rings l =
    list_any is_empty (polygons_in (drop l.rings-index l.polygons)) ≡ list_any is_empty (polygons_in l.polygons)
