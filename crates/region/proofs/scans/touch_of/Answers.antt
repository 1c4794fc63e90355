use Rattle.std.proofs.Common.{◌≡◌, [], drop, map, arith, sym, ◌∙◌}
use Rattle.std.proofs.lemmas.Grind.{common_steps}
use Rattle.plane_edges.specs.Plane.{crosses}
use Rattle.plane_edges.specs.Views.{place_of, segment_of}
use Rattle.region.proofs.Odd.{xor_false, is_odd-count_by}
use Rattle.region.proofs.scans.touch_of.Goals as goal

pub returns-clause-odd : goal.returns-clause-odd
returns-clause-odd c =
    let none : drop c.loop-edge.edge-index c.args.edges.now ≡ [] = grind (arith, common_steps) in
    sym (xor_false c.loop-edge.seen.odd)
    ∙ (rw none at c.loop-edge.invariant.1)
    ∙ sym (is_odd-count_by (crosses (place_of c.args.p.now)) (map segment_of c.args.edges.now))
