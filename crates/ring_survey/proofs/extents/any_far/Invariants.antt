use Rattle.std.proofs.Common.{◌≡◌, drop}
use Rattle.std.specs.List.{list_any}
use Rattle.ring_survey.specs.Extent.{is_far}
use Rattle.ring_survey.proofs.extents.any_far.Given as goal

abbrev pub invariant-loop-p : goal.invariant-loop-p
invariant-loop-p l = list_any is_far (drop l.p-index l.ring) ≡ list_any is_far l.ring
