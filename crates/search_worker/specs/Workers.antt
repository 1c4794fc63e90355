-- What a contract says of a worker, and of one with its handles on the deques of all.
use Rattle.std.specs.Prelude.{◌≡◌, ℕ, ◌<◌, Bool, List, [], ◌∷◌, ◌++◌, map, All}
use Rattle.bound_word.specs.Bounds.{IsSeatOf, seen}
use Rattle.bound_word.specs.declared.words.Bound.{Bound}
use Rattle.cell_split.specs.declared.cell.Cell.{Cell}
use Rattle.cell_split.specs.declared.cell.Task.{Task}
use Rattle.cell_split.specs.declared.verdict.Leaf.{Leaf}
use Rattle.cell_split.specs.Judges.{Content}
use Rattle.crossbeam_deque.specs.Handles.{stealer_deque}
use Rattle.search_worker.specs.declared.member.Member.{Member}
use Rattle.search_worker.specs.declared.refutes.Refutes.{Refutes}
use Rattle.search_worker.specs.declared.worker.Worker.{Worker}
use Rattle.search_worker.specs.Owing.{Owes, job_of, jobs_of}
use Rattle.task_deque.specs.declared.handles.Thief.{Thief}
use Rattle.task_deque.specs.declared.job.Job.{Job}
use Rattle.task_deque.specs.declared.rule.Log.{Log}
use Rattle.task_deque.specs.Ends.{SameOwner, owner_log, thief_log}

module _ {C : Type 0} where
  abbrev pub logs_of : List (Thief C) → List Log
  logs_of thieves = map (λ t. thief_log t) thieves

  abbrev pub parts_of : List (Thief C) → List ℕ
  parts_of thieves = map (λ t. (thief_log t).parts) thieves

module _ {C S : Type 0} where
  -- it has a seat of this bound, and can push and take
  pub record IsWorkerOf (b : Bound (Refutes C)) (w : Worker C S) : Type 0 where
    pub seat : IsSeatOf b w.seat
    pub part : 0 < (owner_log w.owner).parts

  -- it has a seat of this bound, and the same deque with as many parts as before
  pub record IsSameWorker (b : Bound (Refutes C)) (old new : Worker C S) : Type 0 where
    pub seat : IsSeatOf b new.seat
    pub owner : SameOwner old.owner new.owner
    pub parts : (owner_log new.owner).parts ≡ (owner_log old.owner).parts

  -- what it owes, beside what other handles pushed and took
  abbrev pub WorkerOwes : Content → (S → List Leaf → Type 0) → Worker C S → List Log → List Job → List Job → Type 0
  WorkerOwes c keeps w logs given hand = Owes c (keeps w.store) (seen w.seat) (owner_log w.owner ∷ logs) given hand

  -- what it owed it owes
  abbrev pub OwesAsBefore : Content → (S → List Leaf → Type 0) → Worker C S → Worker C S → Type 0
  OwesAsBefore c keeps old new = (logs : List Log) (given hand : List Job) → WorkerOwes c keeps old logs given hand → WorkerOwes c keeps new logs given hand

  -- where it owed the task, it owes these cells of the task's problem
  abbrev pub HasLeft : Content → (S → List Leaf → Type 0) → Worker C S → Worker C S → Task → List Cell → Type 0
  HasLeft c keeps old new task cells =
      (logs : List Log) (given hand : List Job) (splits : Bool) → WorkerOwes c keeps old logs given (job_of task splits ∷ hand) → WorkerOwes c keeps new logs given (jobs_of task.problem cells ++ hand)

  -- it owes the task no longer
  abbrev pub HasDone : Content → (S → List Leaf → Type 0) → Worker C S → Worker C S → Task → Type 0
  HasDone c keeps old new task = HasLeft c keeps old new task []

  pub record IsMemberOf (b : Bound (Refutes C)) (m : Member C S) : Type 0 where
    pub worker : IsWorkerOf b m.worker
    pub parts : All (λ n. 0 < n) (parts_of m.thieves.items)

  pub record IsSameMember (b : Bound (Refutes C)) (old new : Member C S) : Type 0 where
    pub worker : IsSameWorker b old.worker new.worker
    pub deques : map (λ t. stealer_deque t.stealer) new.thieves.items ≡ map (λ t. stealer_deque t.stealer) old.thieves.items
    pub parts : parts_of new.thieves.items ≡ parts_of old.thieves.items

  abbrev pub MemberOwes : Content → (S → List Leaf → Type 0) → Member C S → List Job → List Job → Type 0
  MemberOwes c keeps m given hand = WorkerOwes c keeps m.worker (logs_of m.thieves.items) given hand

  -- where it had nothing in hand, it has these jobs in hand
  abbrev pub HasInHand : Content → (S → List Leaf → Type 0) → Member C S → Member C S → List Job → Type 0
  HasInHand c keeps old new hand = (given : List Job) → MemberOwes c keeps old given [] → MemberOwes c keeps new given hand
