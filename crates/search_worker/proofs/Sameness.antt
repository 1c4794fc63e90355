-- A worker stays the same from step to step.
use Rattle.std.proofs.Common.{refl, ◌∙◌, arith}
use Rattle.bound_word.specs.declared.words.Bound.{Bound}
use Rattle.search_worker.specs.declared.refutes.Refutes.{Refutes}
use Rattle.search_worker.specs.declared.worker.Worker.{Worker}
use Rattle.search_worker.specs.Workers.{IsSameWorker, IsWorkerOf}

module _ {C S : Type 0} (b : Bound (Refutes C)) where
  pub same_itself : (w : Worker C S) → IsWorkerOf b w → IsSameWorker b w w
  same_itself w is = record { seat = is.seat; owner = refl; parts = refl }

  pub same_further : (old mid new : Worker C S) → IsSameWorker b old mid → IsSameWorker b mid new → IsSameWorker b old new
  same_further old mid new first second = record { seat = second.seat; owner = second.owner ∙ first.owner; parts = second.parts ∙ first.parts }

  pub still_worker : (old new : Worker C S) → IsWorkerOf b old → IsSameWorker b old new → IsWorkerOf b new
  still_worker old new is same = record { seat = same.seat; part = omega (arith, is.part, same.parts) }
