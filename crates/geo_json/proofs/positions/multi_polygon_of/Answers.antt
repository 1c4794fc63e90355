use Rattle.std.proofs.Common.{◌≤◌, length, arith}
use Rattle.std.proofs.lemmas.List.{map-append}
use Rattle.json_value.specs.View.{tree_of, items_of}
use Rattle.geo_json.specs.Geometry.{polygon_in}
use Rattle.geo_json.proofs.GeometryLemmas.{one_more, refused_here, no_more}
use Rattle.geo_json.proofs.positions.multi_polygon_of.Goals as goal
use Rattle.ring_survey.specs.Vectors.{rings_in, polygons_in}

pub returns-in-Err : goal.returns-in-Err
returns-in-Err c =
    refused_here (polygon_in c.args.notation) (polygons_in c.loop-i.all.items) (items_of c.args.polygons.now) c.loop-i.i _ c.loop-i.invariant
    (tree_of c.item.result.now) c.in-Err.fault c.item.ensures c.in-Err.ensures

pub loop-i-preserved : goal.loop-i-preserved
loop-i-preserved c =
    rw (c.in_ok-push-in-Ok.ensures.items, map-append)
    (one_more (polygon_in c.args.notation) (polygons_in c.loop-i.all.items) (items_of c.args.polygons.now) c.loop-i.i _ c.loop-i.invariant
    (tree_of c.item.result.now) (rings_in c.in-Ok.polygon.items) c.item.ensures c.in-Ok.ensures)

pub returns : goal.returns
returns c =
    let past : length (items_of c.args.polygons.now) ≤ c.loop-i.i = omega arith in
    no_more (polygon_in c.args.notation) (polygons_in c.loop-i.all.items) (items_of c.args.polygons.now) c.loop-i.i _ c.loop-i.invariant past
