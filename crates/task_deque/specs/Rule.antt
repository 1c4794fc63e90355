-- The rule of a deque: what stands in it, what its passes have pushed and taken, and their parts.
use Rattle.std.specs.Prelude.{◌≡◌, ℕ, ◌+◌, true, List, [], sum_by, All}
use mathlib.Core.Option.{some}
use lib.ListN.{get_elem?}
use Rattle.cell_split.specs.Judges.{Content}
use Rattle.cell_split.specs.Tree.{InTree}
use Rattle.cell_split.specs.Verdicts.{is_split}
use Rattle.task_deque.specs.declared.job.Job.{Job}
use Rattle.task_deque.specs.declared.rule.Log.{Log}

-- more than a deque has passes
abbrev pub all_parts : ℕ
all_parts = 64

abbrev pub log : ℕ → List Job → List Job → Log
log parts pushed taken = record { parts = parts; pushed = pushed; taken = taken }

-- a task of the tree, which is split where that is said
pub record IsJob (c : Content) (job : Job) : Type 0 where
  pub in_tree : InTree c job.task
  pub known : job.splits ≡ true → is_split (c.verdict job.task) ≡ true

-- each job was taken as often as it was pushed: whatever the jobs weigh, they weigh the same
abbrev pub IsSettled : Log → Type 0
IsSettled v = (weight : Job → ℕ) → sum_by weight v.pushed ≡ sum_by weight v.taken

-- what holds between any two steps
pub record Balanced (c : Content) (items : List Job) (views : List Log) : Type 0 where
  pub whole : sum_by (λ v. v.parts) views ≡ all_parts
  -- each job was pushed, by all passes, as often as it stands in the deque and was taken, by all passes, together
  pub sums : (weight : Job → ℕ) → sum_by (λ v. sum_by weight v.pushed) views ≡ sum_by (λ v. sum_by weight v.taken) views + sum_by weight items
  -- a pass with no part has pushed and taken nothing
  pub idle : (port : ℕ) (v : Log) → get_elem? views port ≡ some v → v.parts ≡ 0 → (v.pushed ≡ []) × (v.taken ≡ [])
  pub tree : All (IsJob c) items
