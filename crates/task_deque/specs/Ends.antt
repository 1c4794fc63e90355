-- What a contract says of the two handles of a deque.
use Rattle.std.specs.Prelude.{◌≡◌}
use Rattle.crossbeam_deque.specs.Handles.{stealer_deque, view, worker_deque, worker_view}
use Rattle.task_deque.specs.declared.handles.Owner.{Owner}
use Rattle.task_deque.specs.declared.handles.Thief.{Thief}
use Rattle.task_deque.specs.declared.rule.Log.{Log}

module _ {C : Type 0} where
  -- what it has pushed and taken
  abbrev pub owner_log : Owner C → Log
  owner_log o = worker_view o.worker

  abbrev pub thief_log : Thief C → Log
  thief_log t = view t.pass

  -- the thief takes from the owner's deque
  abbrev pub IsThiefOf : Owner C → Thief C → Type 0
  IsThiefOf o t = stealer_deque t.stealer ≡ worker_deque o.worker

  -- it is of the same deque as before
  abbrev pub SameOwner : Owner C → Owner C → Type 0
  SameOwner old new = worker_deque new.worker ≡ worker_deque old.worker

  abbrev pub SameThief : Thief C → Thief C → Type 0
  SameThief old new = stealer_deque new.stealer ≡ stealer_deque old.stealer
