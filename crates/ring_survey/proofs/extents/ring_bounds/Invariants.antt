use Rattle.std.proofs.Common.{◌≡◌, drop}
use Rattle.std.specs.Prelude.{fold}
use Rattle.ring_survey.specs.Bounds.{widened}
use Rattle.ring_survey.proofs.extents.ring_bounds.Given as goal

abbrev pub invariant-loop-p : goal.invariant-loop-p
invariant-loop-p l = fold widened l.grown (drop l.p-index l.ring) ≡ fold widened l.fn.bounds l.ring
