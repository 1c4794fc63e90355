use Rattle.std.proofs.Common.{drop}
use Rattle.plane_edges.specs.Views.{place_of}
use Rattle.region.proofs.Along.{Touched}
use Rattle.region.proofs.rings.touch_along.Given as goal

abbrev pub invariant-loop-next : goal.invariant-loop-next
invariant-loop-next l =
    Touched (place_of l.p) l.fn.first l.rest l.previous (drop l.next-index l.rest) l.seen.on l.seen.odd
