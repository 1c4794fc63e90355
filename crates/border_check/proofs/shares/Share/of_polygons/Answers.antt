use Rattle.std.proofs.Common.{◌+◌, drop}
use Rattle.ring_survey.specs.Vectors.{rings_in, polygons_in}
use Rattle.border_check.specs.Views.{box_of}
use Rattle.ring_survey.proofs.Counting.{next_left}
use Rattle.border_check.proofs.Growing.{polygon_near, polygon_shared}
use Rattle.border_check.proofs.shares.Share.of_polygons.Goals as goal

pub of_polygon-requires : goal.of_polygon-requires
of_polygon-requires c =
    let left = next_left c.args.polygons.now c.loop-rings.rings-index c.rings-item.result c.loop-rings-test.true c.rings-item.is in
    rw c.as_slice.ensures.value (polygon_near (box_of c.args.r.now) (polygons_in c.args.polygons.now) c.loop-rings.share
    (rings_in c.rings-item.result.items) (polygons_in (drop (c.loop-rings.rings-index + 1) c.args.polygons.now)) (rw left at c.loop-rings.invariant))

pub loop-rings-preserved : goal.loop-rings-preserved
loop-rings-preserved c =
    let left = next_left c.args.polygons.now c.loop-rings.rings-index c.rings-item.result c.loop-rings-test.true c.rings-item.is in
    let part = rw c.as_slice.ensures.value at c.in_ok-of_polygon.ensures in
    polygon_shared (box_of c.args.r.now) (polygons_in c.args.polygons.now) c.loop-rings.share c.add.new.self c.in_ok-of_polygon.field-0
    (rings_in c.rings-item.result.items) (polygons_in (drop (c.loop-rings.rings-index + 1) c.args.polygons.now))
    (rw left at c.loop-rings.invariant) part c.in_ok-add.ensures
