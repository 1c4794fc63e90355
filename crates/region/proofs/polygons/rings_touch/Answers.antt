use Rattle.std.proofs.Common.{◌≡◌, ◌+◌, [], drop, arith, sym, ◌∙◌}
use Rattle.std.proofs.lemmas.Grind.{common_steps}
use Rattle.plane_edges.specs.Plane.{crosses}
use Rattle.region.specs.Rings.{ring_edges, polygon_edges}
use Rattle.plane_edges.specs.Views.{place_of}
use Rattle.ring_survey.proofs.Counting.{next_left}
use Rattle.region.proofs.Along.{ring_touched}
use Rattle.region.proofs.Odd.{xor_false, is_odd-count_by}
use Rattle.region.proofs.polygons.rings_touch.Goals as goal

pub loop-ring-preserved : goal.loop-ring-preserved
loop-ring-preserved c =
    let left = next_left c.args.rings.now c.loop-ring.ring-index c.ring-item.result c.loop-ring-test.true c.ring-item.is in
    rw (
      c.joined-seen.ensures.on,
      c.joined-seen.ensures.odd,
      c.touch.ensures.on,
      c.touch.ensures.odd,
      is_odd-count_by (crosses (place_of c.args.p.now)) (ring_edges c.ring-item.result),
    )
    (ring_touched (place_of c.args.p.now) c.args.rings.now c.ring-item.result
    (drop (c.loop-ring.ring-index + 1) c.args.rings.now) c.loop-ring.seen.on c.loop-ring.seen.odd
    (rw left at c.loop-ring.invariant))

pub returns-clause-odd : goal.returns-clause-odd
returns-clause-odd c =
    let none : drop c.loop-ring.ring-index c.args.rings.now ≡ [] = grind (arith, common_steps) in
    sym (xor_false c.loop-ring.seen.odd)
    ∙ (rw none at c.loop-ring.invariant.odd_is)
    ∙ sym (is_odd-count_by (crosses (place_of c.args.p.now)) (polygon_edges c.args.rings.now))
