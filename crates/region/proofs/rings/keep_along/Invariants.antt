use Rattle.std.proofs.Common.{drop}
use Rattle.region.proofs.Keeping.{KeptAlong}
use Rattle.region.proofs.rings.keep_along.Given as goal

abbrev pub invariant-loop-next : goal.invariant-loop-next
invariant-loop-next l =
    KeptAlong l.polygon l.low l.high l.initial.edges.items l.fn.first l.rest l.edges.items l.previous (drop l.next-index l.rest)
