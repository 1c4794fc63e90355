use Rattle.std.proofs.Common.{◌≤◌, length, arith}
use Rattle.std.proofs.lemmas.List.{map-append}
use Rattle.json_value.specs.View.{tree_of, items_of}
use Rattle.geo_json.proofs.GeometryLemmas.{one_more, refused_here, no_more}
use Rattle.ring_survey.specs.Vectors.{polygons_in}
use Rattle.set_reader.proofs.features.each_feature.Goals as goal
use Rattle.set_reader.specs.Features.{feature_of}
use Rattle.set_reader.specs.Views.{features_in}

pub returns-in-Err : goal.returns-in-Err
returns-in-Err c =
    refused_here feature_of (features_in c.loop-i.all.items) (items_of c.args.features.now) c.loop-i.i _ c.loop-i.invariant
    (tree_of c.item.result.now) c.in-Err.fault c.item.ensures c.in-Err.ensures

pub loop-i-preserved : goal.loop-i-preserved
loop-i-preserved c =
    rw (c.in_ok-push-in-Ok.ensures.items, map-append)
    (one_more feature_of (features_in c.loop-i.all.items) (items_of c.args.features.now) c.loop-i.i _ c.loop-i.invariant
    (tree_of c.item.result.now) (polygons_in c.in-Ok.polygons.items) c.item.ensures c.in-Ok.ensures)

pub returns : goal.returns
returns c =
    let past : length (items_of c.args.features.now) ≤ c.loop-i.i = omega arith in
    no_more feature_of (features_in c.loop-i.all.items) (items_of c.args.features.now) c.loop-i.i _ c.loop-i.invariant past
