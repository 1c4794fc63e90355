use Rattle.std.proofs.Common.{drop}
use Rattle.region.proofs.Along.{short_start, short_next}
use Rattle.region.proofs.rings.point_along.Goals as goal

pub edge_between-requires-clause-start : goal.edge_between-requires-clause-start
edge_between-requires-clause-start c = short_start c.loop-next.previous (drop c.loop-next.next-index c.args.rest.now) c.loop-next.invariant.short

pub edge_between-requires-clause-end : goal.edge_between-requires-clause-end
edge_between-requires-clause-end c =
    short_next c.loop-next.previous c.args.rest.now c.loop-next.next-index c.loop-next-test.true c.loop-next.invariant.short
