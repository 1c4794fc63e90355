use Rattle.std.proofs.Common.{◌≡◌, [], drop, arith, sym, ◌∙◌}
use Rattle.std.proofs.lemmas.Grind.{common_steps}
use Rattle.plane_edges.specs.Plane.{crosses}
use Rattle.region.specs.Rings.{edges_from}
use Rattle.plane_edges.specs.Views.{place_of}
use Rattle.region.proofs.Along.{short_start, short_next}
use Rattle.region.proofs.Odd.{xor_false, is_odd-count_by}
use Rattle.region.proofs.rings.touch_along.Goals as goal

pub edge_between-requires-clause-start : goal.edge_between-requires-clause-start
edge_between-requires-clause-start c = short_start c.loop-next.previous (drop c.loop-next.next-index c.args.rest.now) c.loop-next.invariant.short

pub edge_between-requires-clause-end : goal.edge_between-requires-clause-end
edge_between-requires-clause-end c =
    short_next c.loop-next.previous c.args.rest.now c.loop-next.next-index c.loop-next-test.true c.loop-next.invariant.short

pub returns-clause-odd : goal.returns-clause-odd
returns-clause-odd c =
    let none : drop c.loop-next.next-index c.args.rest.now ≡ [] = grind (arith, common_steps) in
    sym (xor_false c.loop-next.seen.odd)
    ∙ (rw none at c.loop-next.invariant.odd_is)
    ∙ sym (is_odd-count_by (crosses (place_of c.args.p.now)) (edges_from c.args.first c.args.rest.now))
