use Rattle.std.proofs.Common.{◌+◌, ◌∷◌, [], drop, get_or, pos, ap, ◌∙◌}
use Rattle.std.specs.List.{list_any}
use Rattle.ring_survey.specs.Extent.{is_far}
use Rattle.plane_edges.specs.EdgePoints.{corner}
use Rattle.plane_edges.specs.Plane.{Segment, crosses}
use Rattle.border_check.specs.Views.{box_of}
use Rattle.region.proofs.Along.{next_position}
use Rattle.plane_edges.proofs.Truth.{neither}
use Rattle.border_check.specs.Shares.{grown, meets}
use Rattle.border_check.proofs.Growing.{taken_more}
use Rattle.border_check.proofs.parts.Part.take_along.Goals as goal

pub edge_between-requires-clause-start : goal.edge_between-requires-clause-start
edge_between-requires-clause-start c = c.loop-next.invariant.start_near

pub edge_between-requires-clause-end : goal.edge_between-requires-clause-end
edge_between-requires-clause-end c =
    let left = next_position c.args.rest.now c.loop-next.next-index c.loop-next-test.true in
    let q = get_or c.args.rest.now c.loop-next.next-index (pos 0, pos 0) in
    let near = rw left at c.loop-next.invariant.near in
    (neither (is_far q) (list_any is_far (drop (c.loop-next.next-index + 1) c.args.rest.now)) near).0

pub loop-next-preserved : goal.loop-next-preserved
loop-next-preserved c =
    let box = box_of c.args.r.now in
    let left = next_position c.args.rest.now c.loop-next.next-index c.loop-next-test.true in
    let q = get_or c.args.rest.now c.loop-next.next-index (pos 0, pos 0) in
    taken_more (meets box) (crosses (corner box)) c.args.self.now c.args.first c.args.rest.now c.loop-next.self c.take.new.self c.loop-next.previous q
    (drop (c.loop-next.next-index + 1) c.args.rest.now) (rw left at c.loop-next.invariant)
    (c.in_ok-take.ensures ∙ ap (λ (e : Segment). grown (meets box) (crosses (corner box)) c.loop-next.self (e ∷ [])) c.edge_between.ensures)
