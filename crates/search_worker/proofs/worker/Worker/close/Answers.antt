use Rattle.std.proofs.Common.{[], ◌∷◌, ap}
use Rattle.task_deque.specs.declared.rule.Log.{Log}
use Rattle.search_worker.proofs.Law.{owes-taken, takes-first}
use Rattle.search_worker.proofs.Sameness.{same_further}
use Rattle.search_worker.proofs.worker.Worker.close.Goals as goal

pub loop-preserved : goal.loop-preserved
loop-preserved g c =
    let before = c.loop.invariant in
    let popped = c.in-Some-pop.ensures.popped.1 in
    record {
      next = tt;
      finite = tt;
      same = same_further c.args.bound.now c.args.self.now c.loop.self c.work.new.self before.same
          (same_further c.args.bound.now c.loop.self _ c.work.new.self (record { seat = before.same.seat; owner = c.in-Some-pop.ensures.same; parts = ap (λ (v : Log). v.parts) popped }) c.in_ok-work-in-Some-pop.ensures.same);
      owes = λ logs given hand owes. c.in_ok-work-in-Some-pop.ensures.owes logs given hand c.in-Some-pop.job.splits
          (owes-taken g.C.Case.case _ given _ _ _ hand (c.in-Some-pop.job ∷ []) (takes-first _ _ logs c.in-Some-pop.job popped) (before.owes logs given hand owes));
    }
