use Rattle.search_worker.specs.Workers.{IsSameWorker, OwesAsBefore}
use Rattle.search_worker.proofs.worker.Worker.is_over_soon.Given as goal

abbrev pub invariant-loop : goal.invariant-loop
invariant-loop g l = record {
  same : IsSameWorker l.bound l.initial.self l.self;
  owes : OwesAsBefore g.C.Case.case (g.S.Store.keeps g.C.Case.case.problems) l.initial.self l.self;
}
