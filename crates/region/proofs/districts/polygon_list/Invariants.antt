use Rattle.std.proofs.Common.{◌≡◌, true}
use Rattle.std.specs.List.{list_all}
use Rattle.ring_survey.specs.Extent.{is_compact}
use Rattle.ring_survey.specs.Vectors.{polygons_in}
use Rattle.region.proofs.districts.polygon_list.Given as goal

abbrev pub invariant-loop-rings : goal.invariant-loop-rings
invariant-loop-rings l =
    (l.list.items ≡ polygons_in l.yielded) × (list_all (list_all is_compact) (polygons_in l.rings-iterator.rest.items) ≡ true)
