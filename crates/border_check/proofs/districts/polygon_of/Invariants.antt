use Rattle.std.proofs.Common.{◌≡◌, [], take, slice_index_or}
use Rattle.ring_survey.specs.Vectors.{rings_in}
use Rattle.border_check.proofs.districts.polygon_of.Given as goal

abbrev pub invariant-loop-ring : goal.invariant-loop-ring
invariant-loop-ring l = rings_in l.rings.items ≡ take l.ring (slice_index_or l.district l.polygon [])
