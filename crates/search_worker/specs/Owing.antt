-- What a worker owes: what it kept, pushed and has in hand weighs what it took and was given.
use Rattle.std.specs.Prelude.{◌≡◌, ℕ, ◌+◌, ◌<◌, ◌≤◌, true, false, Bool, List, filter, map, sum_by, All, Contains}
use Rattle.cell_split.specs.declared.cell.Cell.{Cell}
use Rattle.cell_split.specs.declared.cell.Task.{Task}
use Rattle.cell_split.specs.declared.verdict.Leaf.{Leaf}
use Rattle.cell_split.specs.Entries.{last_ordinal, refuted_ordinal}
use Rattle.cell_split.specs.Judges.{Content}
use Rattle.cell_split.specs.Tree.{all_leaves, leaves, root_task, task_of}
use Rattle.cell_split.specs.Verdicts.{is_refuted}
use Rattle.plain_search.specs.Harvests.{is_above}
use Rattle.task_deque.specs.declared.job.Job.{Job}
use Rattle.task_deque.specs.declared.rule.Log.{Log}

-- some leaf of the problem's tree is refuted at this rank or above
abbrev pub IsRefutedRank : Content → ℕ → ℕ → Type 0
IsRefutedRank c k rank = rank + 1 ≤ refuted_ordinal (leaves c (root_task c k))

abbrev pub job_of : Task → Bool → Job
job_of task splits = record { task = task; splits = splits }

-- cells of a problem, as jobs of which nothing is known
abbrev pub jobs_of : ℕ → List Cell → List Job
jobs_of problem cells = map (λ cell. job_of (task_of problem cell) false) cells

-- what the leaves below a job weigh that are above these ordinals
abbrev pub below : Content → (ℕ → ℕ) → (Leaf → ℕ) → Job → ℕ
below c ordinals weight job = sum_by weight (filter (is_above ordinals) (leaves c job.task))

-- what was pushed by all, and what was taken
abbrev pub pushed_by : List Log → (Job → ℕ) → ℕ
pushed_by logs weight = sum_by (λ v. sum_by weight v.pushed) logs

abbrev pub taken_by : List Log → (Job → ℕ) → ℕ
taken_by logs weight = sum_by (λ v. sum_by weight v.taken) logs

-- nothing was pushed, and these jobs were taken: whatever jobs weigh
pub record Takes (old new : List Log) (jobs : List Job) : Type 0 where
  pub pushed : (weight : Job → ℕ) → pushed_by new weight ≡ pushed_by old weight
  pub taken : (weight : Job → ℕ) → taken_by new weight ≡ taken_by old weight + sum_by weight jobs

-- these ordinals are at least what was seen
abbrev pub AreSeen : Content → (ℕ → ℕ) → (ℕ → ℕ) → Type 0
AreSeen c seen ordinals = (k : ℕ) → k < c.problems → seen k ≤ ordinals k

-- where the leaf is refuted, that was seen
pub record IsTold (seen : ℕ → ℕ) (l : Leaf) : Type 0 where
  pub told : is_refuted l.verdict ≡ true → last_ordinal l ≤ seen l.task.problem

-- What is kept is what is kept of some leaves of the trees. From what was seen on, these leaves, what was pushed and what is in
-- hand weigh what was taken and what was given.
pub record Owes (c : Content) (keeps : List Leaf → Type 0) (seen : ℕ → ℕ) (logs : List Log) (given hand : List Job) : Type 0 where
  pub kept : List Leaf
  pub held : keeps kept
  pub balance : (ordinals : ℕ → ℕ) → AreSeen c seen ordinals → (weight : Leaf → ℕ) →
      sum_by weight (filter (is_above ordinals) kept) + (pushed_by logs (below c ordinals weight) + sum_by (below c ordinals weight) hand)
      ≡ taken_by logs (below c ordinals weight) + sum_by (below c ordinals weight) given
  pub told : All (IsTold seen) kept
  pub part : All (Contains (all_leaves c)) kept
