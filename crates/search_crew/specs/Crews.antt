-- The deques and the workers of a search: what they have, and what they owe together.
use Rattle.std.specs.Prelude.{◌≡◌, ℕ, zero, suc, ◌+◌, ◌<◌, false, List, [], ◌∷◌, ◌++◌, length, map, sum_by, All, slice_index_or}
use Rattle.bound_word.specs.declared.words.Bound.{Bound}
use Rattle.cell_split.specs.declared.verdict.Leaf.{Leaf}
use Rattle.cell_split.specs.Judges.{Content}
use Rattle.cell_split.specs.Tree.{root_task}
use Rattle.crossbeam_deque.specs.Handles.{stealer_deque, worker_deque}
use Rattle.search_worker.specs.declared.member.Member.{Member}
use Rattle.search_worker.specs.declared.refutes.Refutes.{Refutes}
use Rattle.search_worker.specs.Owing.{job_of, pushed_by, taken_by}
use Rattle.search_worker.specs.Workers.{IsWorkerOf, MemberOwes}
use Rattle.task_deque.specs.declared.handles.Owner.{Owner}
use Rattle.task_deque.specs.declared.handles.Thief.{Thief}
use Rattle.task_deque.specs.declared.job.Job.{Job}
use Rattle.task_deque.specs.declared.rule.Log.{Log}
use Rattle.task_deque.specs.Ends.{owner_log, thief_log}
use Rattle.task_deque.specs.Rule.{all_parts}

-- the roots of the first n problems
abbrev pub roots_to : ℕ → Content → List Job
roots_to zero c = []
roots_to (suc n) c = roots_to n c ++ job_of (root_task c n) false ∷ []

-- the first n of these lists, one behind another
abbrev pub given_to : (ℕ → List Job) → ℕ → List Job
given_to given zero = []
given_to given (suc n) = given_to given n ++ given n

-- whatever jobs weigh, these logs have pushed and taken what the others have
pub record WeighAs (logs others : List Log) : Type 0 where
  pub pushed : (weight : Job → ℕ) → pushed_by logs weight ≡ pushed_by others weight
  pub taken : (weight : Job → ℕ) → taken_by logs weight ≡ taken_by others weight

module _ {C : Type 0} where
  abbrev pub owner_logs : List (Owner C) → List Log
  owner_logs owners = map (λ o. owner_log o) owners

  -- they are of the same deques
  abbrev pub SameOwners : List (Owner C) → List (Owner C) → Type 0
  SameOwners old new = map (λ o. worker_deque o.worker) new ≡ map (λ o. worker_deque o.worker) old

  -- one handle on each deque, in the order of the deques
  abbrev pub AreThievesOf : List (Owner C) → List (Thief C) → Type 0
  AreThievesOf owners thieves = map (λ t. stealer_deque t.stealer) thieves ≡ map (λ o. worker_deque o.worker) owners

  abbrev pub IsPartOfOne : Thief C → Type 0
  IsPartOfOne t = (thief_log t).parts ≡ 1

  -- n handles on the deque were given out, and nothing was taken from it
  pub record IsShared (n : ℕ) (o : Owner C) : Type 0 where
    pub parts : (owner_log o).parts + n ≡ all_parts
    pub untouched : (owner_log o).taken ≡ []

module _ {C S : Type 0} where
  abbrev pub owners_in : List (Member C S) → List (Owner C)
  owners_in members = map (λ m. m.worker.owner) members

  -- a worker with a handle on each of these deques
  pub record IsOfCrew (b : Bound (Refutes C)) (owners : List (Owner C)) (m : Member C S) : Type 0 where
    pub worker : IsWorkerOf b m.worker
    pub parts : (owner_log m.worker.owner).parts + length owners ≡ all_parts
    pub thieves : AreThievesOf owners m.thieves.items
    pub single : All IsPartOfOne m.thieves.items

  -- each has a handle on the deque of each
  abbrev pub IsCrew : Bound (Refutes C) → List (Member C S) → Type 0
  IsCrew b members = All (IsOfCrew b (owners_in members)) members

  -- what each owes, of what it was given
  abbrev pub EachOwes : Content → (S → List Leaf → Type 0) → List (Member C S) → (ℕ → List Job) → Type 0
  EachOwes c keeps members given = (i : ℕ) (d : Member C S) → i < length members → MemberOwes c keeps (slice_index_or members i d) (given i) []

  -- together they were given the roots of all problems, and nothing else
  pub record OweRoots (c : Content) (keeps : S → List Leaf → Type 0) (members : List (Member C S)) : Type 0 where
    pub given : ℕ → List Job
    pub each : EachOwes c keeps members given
    pub all : (weight : Job → ℕ) → sum_by weight (given_to given (length members)) ≡ sum_by weight (roots_to c.problems c)
