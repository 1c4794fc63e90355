-- One of many handles on deques has taken a job.
use Rattle.std.proofs.Common.{◌≡◌, ℕ, ◌<◌, List, [], ◌∷◌, ◌++◌, length, map, set, get_or, All, sym, ap, ◌∙◌, subst, arith}
use Rattle.std.proofs.Math.Seq.{map-set_same}
use Rattle.std.proofs.lemmas.List.{get_or-map, length-map, map-set}
use Rattle.task_deque.specs.declared.handles.Thief.{Thief}
use Rattle.task_deque.specs.declared.job.Job.{Job}
use Rattle.task_deque.specs.declared.rule.Log.{Log}
use Rattle.task_deque.specs.Ends.{thief_log}
use Rattle.task_deque.specs.Rule.{log}
use Rattle.search_worker.specs.Owing.{Takes}
use Rattle.search_worker.specs.Workers.{logs_of, parts_of}
use Rattle.search_worker.proofs.Law.{takes-at}

-- what is the same of the one is the same of all
pub same_of_all : {X Y : Type 0} (f : X → Y) (xs : List X) (i : ℕ) (old new : X) → old ≡ get_or xs i old → f new ≡ f old → map f (set xs i new) ≡ map f xs
same_of_all f xs i old new is same = map-set_same f xs i new old (same ∙ ap f is)

module _ {C : Type 0} where
  -- each has a part
  pub part_at : (thieves : List (Thief C)) (i : ℕ) (t : Thief C) → All (λ n. 0 < n) (parts_of thieves) → i < length thieves → t ≡ get_or thieves i t → 0 < (thief_log t).parts
  part_at thieves i t each inside is =
      let parts : Thief C → ℕ = λ t. (thief_log t).parts in
      let here : 0 < get_or (parts_of thieves) i 0 = each i 0 (omega (arith, inside, length-map thieves parts)) in
      let own : parts t ≡ get_or (parts_of thieves) i 0 = ap parts is ∙ sym (get_or-map parts thieves i t 0 inside) in
      omega (arith, here, own)

  pub takes_one : (thieves : List (Thief C)) (i : ℕ) (old new : Thief C) (job : Job) → i < length thieves → old ≡ get_or thieves i old
      → thief_log new ≡ log (thief_log old).parts (thief_log old).pushed ((thief_log old).taken ++ job ∷ []) → Takes (logs_of thieves) (logs_of (set thieves i new)) (job ∷ [])
  takes_one thieves i old new job inside is more =
      let logs : Thief C → Log = λ t. thief_log t in
      let v = thief_log old in
      let here : get_or (logs_of thieves) i v ≡ v = get_or-map logs thieves i old v inside ∙ ap logs (sym is) in
      let grown = subst (λ (u : Log). thief_log new ≡ log u.parts u.pushed (u.taken ++ job ∷ [])) (sym here) more in
      subst (λ (l : List Log). Takes (logs_of thieves) l (job ∷ [])) (sym (map-set logs thieves i new))
      (takes-at (logs_of thieves) i (thief_log new) v job (omega (arith, inside, length-map thieves logs)) grown)
