use Rattle.std.proofs.Common.{◌+◌, drop}
use Rattle.ring_survey.specs.Vectors.{rings_in, polygons_in}
use Rattle.ring_survey.proofs.Counting.{next_left, checked_more, checked_fault}
use Rattle.ring_survey.proofs.counts.check_rings.Goals as goal

pub returns-in-Err : goal.returns-in-Err
returns-in-Err c =
    let left = next_left c.args.polygons.now c.loop-rings.rings-index c.rings-item.result c.loop-rings-test.true c.rings-item.is in
    let e = rw c.as_slice.ensures.value at c.in-Err.ensures in
    checked_fault (polygons_in c.args.polygons.now) (polygons_in (drop (c.loop-rings.rings-index + 1) c.args.polygons.now))
    (rings_in c.rings-item.result.items) c.loop-rings.number c.in-Err.fault (rw left at c.loop-rings.invariant) e

pub loop-rings-preserved : goal.loop-rings-preserved
loop-rings-preserved c =
    let left = next_left c.args.polygons.now c.loop-rings.rings-index c.rings-item.result c.loop-rings-test.true c.rings-item.is in
    let e = rw c.as_slice.ensures.value at c.in-Ok.ensures in
    checked_more (polygons_in c.args.polygons.now) (polygons_in (drop (c.loop-rings.rings-index + 1) c.args.polygons.now))
    (rings_in c.rings-item.result.items) c.loop-rings.number c.in-Ok.next (rw left at c.loop-rings.invariant) e.0 e.1 e.2
