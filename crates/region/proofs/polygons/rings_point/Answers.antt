use Rattle.std.proofs.Common.{◌+◌, drop, ap, sym, ◌∙◌}
use Rattle.ring_survey.specs.Polygons.{Polygon}
use Rattle.region.specs.Rings.{ring_edges, polygon_edges}
use Rattle.plane_edges.specs.EdgePoints.{first_point}
use Rattle.plane_edges.specs.Views.{place_of, box_of}
use Rattle.ring_survey.proofs.Counting.{next_left}
use Rattle.region.proofs.Along.{first_here, first_later}
use Rattle.region.proofs.polygons.rings_point.Goals as goal

pub returns-in-Some : goal.returns-in-Some
returns-in-Some c =
    let left = next_left c.args.rings.now c.loop-ring.ring-index c.ring-item.result c.loop-ring-test.true c.ring-item.is in
    first_here (box_of c.args.r.now) (ring_edges c.ring-item.result)
    (polygon_edges (drop (c.loop-ring.ring-index + 1) c.args.rings.now)) (place_of c.in-Some.p) c.in-Some.ensures
    ∙ ap (λ (xs : Polygon). first_point (box_of c.args.r.now) (polygon_edges xs)) (sym left)
    ∙ c.loop-ring.invariant

pub loop-ring-preserved : goal.loop-ring-preserved
loop-ring-preserved c =
    let left = next_left c.args.rings.now c.loop-ring.ring-index c.ring-item.result c.loop-ring-test.true c.ring-item.is in
    first_later (box_of c.args.r.now) (ring_edges c.ring-item.result)
    (polygon_edges (drop (c.loop-ring.ring-index + 1) c.args.rings.now)) c.in_default.ensures
    ∙ ap (λ (xs : Polygon). first_point (box_of c.args.r.now) (polygon_edges xs)) (sym left)
    ∙ c.loop-ring.invariant
