use Rattle.std.proofs.Common.{◌≤◌, length, arith}
use Rattle.std.proofs.lemmas.List.{map-append}
use Rattle.json_value.specs.View.{tree_of, items_of}
use Rattle.geo_json.specs.Geometry.{ring_in}
use Rattle.geo_json.proofs.GeometryLemmas.{one_more, refused_here, no_more}
use Rattle.geo_json.proofs.positions.polygon_of.Goals as goal
use Rattle.ring_survey.specs.Vectors.{rings_in}

pub returns-in-Err : goal.returns-in-Err
returns-in-Err c =
    refused_here (ring_in c.args.notation) (rings_in c.loop-i.polygon.items) (items_of c.args.rings.now) c.loop-i.i _ c.loop-i.invariant
    (tree_of c.item.result.now) c.in-Err.fault c.item.ensures c.in-Err.ensures

pub loop-i-preserved : goal.loop-i-preserved
loop-i-preserved c =
    rw (c.in_ok-push-in-Ok.ensures.items, map-append)
    (one_more (ring_in c.args.notation) (rings_in c.loop-i.polygon.items) (items_of c.args.rings.now) c.loop-i.i _ c.loop-i.invariant
    (tree_of c.item.result.now) c.in-Ok.ring.items c.item.ensures c.in-Ok.ensures)

pub returns : goal.returns
returns c =
    let past : length (items_of c.args.rings.now) ≤ c.loop-i.i = omega arith in
    no_more (ring_in c.args.notation) (rings_in c.loop-i.polygon.items) (items_of c.args.rings.now) c.loop-i.i _ c.loop-i.invariant past
