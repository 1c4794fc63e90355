use Rattle.std.proofs.Common.{◌≡◌, List, All, length}
use Rattle.std.specs.Vec.Iter.{into_iter_items, into_iter_len}
use Rattle.bound_word.specs.Bounds.{IsSeatOf}
use Rattle.search_crew.specs.Crews.{owner_logs}
use Rattle.search_crew.specs.Endings.{JoinedOwes, ended_logs}
use Rattle.task_deque.specs.declared.job.Job.{Job}
use Rattle.task_deque.specs.Ends.{owner_log}
use Rattle.task_deque.specs.Rule.{all_parts}
use Rattle.search_crew.proofs.ending.close_all.Given as goal

-- the deques before this one are empty
abbrev pub invariant-loop-owner : goal.invariant-loop-owner
invariant-loop-owner g l =
    let case = g.C.Case.case in
    let keeps = g.S.Store.keeps case.problems in
    let left = into_iter_items l.owner-iterator in
    record {
      counted : into_iter_len l.owner-iterator ≡ length left;
      parts : All (λ o. (owner_log o).parts ≡ all_parts) left;
      seat : IsSeatOf l.bound l.joined.seat;
      owes : (given : List Job) → JoinedOwes case keeps l.fn.ended.joined (ended_logs l.fn.ended) given → JoinedOwes case keeps l.joined (owner_logs left) given;
    }
