use Rattle.std.proofs.Common.{◌≡◌, true}
use Rattle.std.specs.List.{list_all}
use Rattle.ring_survey.specs.Extent.{is_compact}
use Rattle.ring_survey.specs.Vectors.{rings_in}
use Rattle.region.proofs.districts.ring_list.Given as goal

abbrev pub invariant-loop-ring : goal.invariant-loop-ring
invariant-loop-ring l =
    (l.list.items ≡ rings_in l.yielded) × (list_all is_compact (rings_in l.ring-iterator.rest.items) ≡ true)
