use Rattle.std.proofs.Common.{drop}
use Rattle.ring_survey.specs.Vectors.{polygons_in}
use Rattle.ring_survey.proofs.Counting.{Checked}
use Rattle.ring_survey.proofs.counts.check_rings.Given as goal

abbrev pub invariant-loop-rings : goal.invariant-loop-rings
invariant-loop-rings l = Checked (polygons_in l.polygons) (polygons_in (drop l.rings-index l.polygons)) l.number
