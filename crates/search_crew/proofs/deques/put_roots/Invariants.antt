use Rattle.std.proofs.Common.{◌≡◌, ℕ, ◌≤◌, All, length, sum_by}
use Rattle.search_worker.specs.Owing.{pushed_by}
use Rattle.search_crew.specs.Crews.{IsShared, SameOwners, owner_logs, roots_to}
use Rattle.task_deque.specs.declared.job.Job.{Job}
use Rattle.search_crew.proofs.deques.put_roots.Given as goal

-- the roots of the problems before this one stand in the deques
abbrev pub invariant-loop-problem : goal.invariant-loop-problem
invariant-loop-problem g l = record {
  end : l.problem ≤ l.problems;
  same : SameOwners l.initial.owners.items l.owners.items;
  shared : All (IsShared (length l.initial.owners.items)) l.owners.items;
  pushed : (weight : Job → ℕ) → pushed_by (owner_logs l.owners.items) weight ≡ sum_by weight (roots_to l.problem g.C.Case.case);
}
