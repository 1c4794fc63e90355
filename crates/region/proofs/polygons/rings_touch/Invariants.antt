use Rattle.std.proofs.Common.{drop}
use Rattle.plane_edges.specs.Views.{place_of}
use Rattle.region.proofs.Along.{RingsTouched}
use Rattle.region.proofs.polygons.rings_touch.Given as goal

abbrev pub invariant-loop-ring : goal.invariant-loop-ring
invariant-loop-ring l = RingsTouched (place_of l.p) l.rings (drop l.ring-index l.rings) l.seen.on l.seen.odd
