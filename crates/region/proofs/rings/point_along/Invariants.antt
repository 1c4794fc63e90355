use Rattle.std.proofs.Common.{drop}
use Rattle.plane_edges.specs.Views.{box_of}
use Rattle.region.proofs.Along.{Passed}
use Rattle.region.proofs.rings.point_along.Given as goal

abbrev pub invariant-loop-next : goal.invariant-loop-next
invariant-loop-next l = Passed (box_of l.r) l.fn.first l.rest l.previous (drop l.next-index l.rest)
