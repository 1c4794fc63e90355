use Rattle.std.specs.List.{list_all}
use Rattle.ring_survey.specs.Extent.{is_compact}
use Rattle.ring_survey.specs.Vectors.{rings_in, polygons_in}
use Rattle.plane_edges.proofs.Truth.{and_left}
use Rattle.region.proofs.districts.polygon_list.Goals as goal

pub ring_list-requires : goal.ring_list-requires
ring_list-requires c =
    let steps = c.in-Some.ensures.steps in
    and_left (list_all is_compact (rings_in c.in-Some.rings.items)) (list_all (list_all is_compact) (polygons_in c.next.new.self.rest.items))
    (rw steps.0 at c.loop-rings.invariant.1)
