-- What workers that have ended owe together.
use Rattle.std.specs.Prelude.{◌≡◌, ◌+◌, List, [], ◌++◌, length, flat_map, All}
use Rattle.bound_word.specs.Bounds.{IsSeatOf, seen}
use Rattle.bound_word.specs.declared.words.Bound.{Bound}
use Rattle.cell_split.specs.declared.verdict.Leaf.{Leaf}
use Rattle.cell_split.specs.Judges.{Content}
use Rattle.search_worker.specs.declared.refutes.Refutes.{Refutes}
use Rattle.search_worker.specs.Owing.{Owes}
use Rattle.search_worker.specs.Workers.{logs_of}
use Rattle.search_crew.specs.declared.joined.Joined.{Joined}
use Rattle.search_crew.specs.declared.joined.Ended.{Ended}
use Rattle.search_crew.specs.Crews.{AreThievesOf, IsPartOfOne, owner_logs}
use Rattle.task_deque.specs.declared.job.Job.{Job}
use Rattle.task_deque.specs.declared.rule.Log.{Log}
use Rattle.task_deque.specs.Ends.{owner_log}
use Rattle.task_deque.specs.Rule.{all_parts}

module _ {C S : Type 0} where
  abbrev pub JoinedOwes : Content → (S → List Leaf → Type 0) → Joined C S → List Log → List Job → Type 0
  JoinedOwes c keeps j logs given = Owes c (keeps j.store) (seen j.seat) logs given []

  -- the deques with as many lists of handles on them as there are parts missing
  pub record HasEnded (b : Bound (Refutes C)) (e : Ended C S) : Type 0 where
    pub seat : IsSeatOf b e.joined.seat
    pub parts : All (λ o. (owner_log o).parts + length e.thieves.items ≡ all_parts) e.owners.items
    pub thieves : All (λ thieves. AreThievesOf e.owners.items thieves.items × All IsPartOfOne thieves.items) e.thieves.items

  -- what all their handles pushed and took
  abbrev pub ended_logs : Ended C S → List Log
  ended_logs e = owner_logs e.owners.items ++ flat_map (λ thieves. logs_of thieves.items) e.thieves.items
