use Rattle.std.proofs.Common.{List, ◌+◌, drop, ap, sym, ◌∙◌}
use Rattle.std.specs.List.{flat_map}
use Rattle.ring_survey.specs.Polygons.{Polygon}
use Rattle.region.specs.Rings.{polygon_edges}
use Rattle.plane_edges.specs.EdgePoints.{first_point}
use Rattle.plane_edges.specs.Views.{place_of, box_of}
use Rattle.ring_survey.proofs.Counting.{next_left}
use Rattle.region.proofs.Along.{first_here, first_later}
use Rattle.region.proofs.polygons.first_point.Goals as goal

pub returns-in-Some : goal.returns-in-Some
returns-in-Some c =
    let left = next_left c.args.polygons.now c.loop-polygon.polygon-index c.polygon-item.result c.loop-polygon-test.true c.polygon-item.is in
    first_here (box_of c.args.r.now) (polygon_edges c.polygon-item.result)
    (flat_map polygon_edges (drop (c.loop-polygon.polygon-index + 1) c.args.polygons.now)) (place_of c.in-Some.p) c.in-Some.ensures
    ∙ ap (λ (xs : List Polygon). first_point (box_of c.args.r.now) (flat_map polygon_edges xs)) (sym left)
    ∙ c.loop-polygon.invariant

pub loop-polygon-preserved : goal.loop-polygon-preserved
loop-polygon-preserved c =
    let left = next_left c.args.polygons.now c.loop-polygon.polygon-index c.polygon-item.result c.loop-polygon-test.true c.polygon-item.is in
    first_later (box_of c.args.r.now) (polygon_edges c.polygon-item.result)
    (flat_map polygon_edges (drop (c.loop-polygon.polygon-index + 1) c.args.polygons.now)) c.in_default.ensures
    ∙ ap (λ (xs : List Polygon). first_point (box_of c.args.r.now) (flat_map polygon_edges xs)) (sym left)
    ∙ c.loop-polygon.invariant
