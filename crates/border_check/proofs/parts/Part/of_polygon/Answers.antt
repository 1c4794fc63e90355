use Rattle.std.proofs.Common.{◌+◌, drop}
use Rattle.plane_edges.specs.EdgePoints.{corner}
use Rattle.plane_edges.specs.Plane.{crosses}
use Rattle.ring_survey.specs.Vectors.{rings_in}
use Rattle.border_check.specs.Views.{box_of}
use Rattle.ring_survey.proofs.Counting.{next_left}
use Rattle.border_check.specs.Shares.{meets}
use Rattle.border_check.proofs.Growing.{ring_near, ring_taken}
use Rattle.border_check.proofs.parts.Part.of_polygon.Goals as goal

pub take_ring-requires : goal.take_ring-requires
take_ring-requires c =
    let box = box_of c.args.r.now in
    let left = next_left c.args.rings.now c.loop-ring.ring-index c.ring-item.result c.loop-ring-test.true c.ring-item.is in
    rw c.as_slice.ensures.value (ring_near (meets box) (crosses (corner box)) (rings_in c.args.rings.now) c.loop-ring.part
    c.ring-item.result.items (rings_in (drop (c.loop-ring.ring-index + 1) c.args.rings.now)) (rw left at c.loop-ring.invariant))

pub loop-ring-preserved : goal.loop-ring-preserved
loop-ring-preserved c =
    let box = box_of c.args.r.now in
    let left = next_left c.args.rings.now c.loop-ring.ring-index c.ring-item.result c.loop-ring-test.true c.ring-item.is in
    let more = rw c.as_slice.ensures.value at c.in_ok-take_ring.ensures in
    ring_taken (meets box) (crosses (corner box)) (rings_in c.args.rings.now) c.loop-ring.part c.take_ring.new.self
    c.ring-item.result.items (rings_in (drop (c.loop-ring.ring-index + 1) c.args.rings.now)) (rw left at c.loop-ring.invariant) more
