use Rattle.std.specs.List.{list_all}
use Rattle.ring_survey.specs.Extent.{is_compact}
use Rattle.ring_survey.specs.Vectors.{rings_in}
use Rattle.plane_edges.proofs.Truth.{and_left}
use Rattle.region.proofs.districts.ring_list.Goals as goal

pub new-requires : goal.new-requires
new-requires c =
    let steps = c.in-Some.ensures.steps in
    and_left (is_compact c.in-Some.ring.items) (list_all is_compact (rings_in c.next.new.self.rest.items))
    (rw steps.0 at c.loop-ring.invariant.1)
