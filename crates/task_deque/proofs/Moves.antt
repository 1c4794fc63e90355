-- Each step keeps the rule of a deque.
use Rattle.std.proofs.Common.{◌≡◌, ℕ, ◌+◌, ◌-◌, ◌<◌, List, [], ◌∷◌, ◌++◌, All, length, sum_by, set, sym, refl, ap, ◌∙◌, subst, ⊎_elim, arith}
use Rattle.std.proofs.Math.Seq.{drop-append_seam, take-append_seam}
use Rattle.std.proofs.lemmas.List.Elements.{All-append, All-drop, All-take}
use Rattle.std.proofs.lemmas.List.Sums.{sum_by-append, sum_by_push}
use mathlib.Core.Option.{some}
use lib.ListN.{get_elem?}
use Rattle.crossbeam_deque.specs.Tasks.{Finds, Forks, Merges, Pops, Pushes, Takes}
use Rattle.crossbeam_deque.proofs.Lists.{at_set, at_snoc}
use Rattle.cell_split.specs.Judges.{Content}
use Rattle.task_deque.specs.declared.job.Job.{Job}
use Rattle.task_deque.specs.declared.rule.Log.{Log}
use Rattle.task_deque.specs.Rule.{Balanced, IsJob, IsSettled, all_parts, log}
use Rattle.task_deque.proofs.Totals.{alone, idle_set, total_set}

module _ (c : Content) where
  first_of : (xs ys : List Job) → All (IsJob c) (xs ++ ys) → All (IsJob c) xs
  first_of xs ys h = subst (All (IsJob c)) (take-append_seam xs ys) (All-take (IsJob c) (length xs) (xs ++ ys) h)

  last_of : (xs ys : List Job) → All (IsJob c) (xs ++ ys) → All (IsJob c) ys
  last_of xs ys h = subst (All (IsJob c)) (drop-append_seam xs ys) (All-drop (IsJob c) (length xs) (xs ++ ys) h)

  pub puts : (port : ℕ) (v : Log) (xs : List Job) → 0 < v.parts → All (IsJob c) xs → Pushes (Balanced c) port v xs (λ w. w ≡ log v.parts (v.pushed ++ xs) v.taken)
  puts port v xs part new items views rule at =
      let w : Log = log v.parts (v.pushed ++ xs) v.taken in (
        w,
        record {
          whole = let s = total_set (λ (u : Log). u.parts) views port v w at in let p = rule.whole in omega (arith, s, p);
          sums = λ h.
              let s = total_set (λ (u : Log). sum_by h u.pushed) views port v w at in
              let t = total_set (λ (u : Log). sum_by h u.taken) views port v w at in
              let p = rule.sums h in
              omega (arith, s, t, p, sum_by-append h v.pushed xs, sum_by-append h items xs);
          idle = idle_set views port w (λ none. absurd (omega arith)) rule.idle;
          tree = All-append (IsJob c) items xs rule.tree new;
        },
        refl,
      )

  -- some leave, at the front or at the back: what stood there weighs what is left and what left
  leaves_some : (port : ℕ) (v : Log) (xs all items : List Job) (views : List Log) → 0 < v.parts → ((h : Job → ℕ) → sum_by h all ≡ sum_by h items + sum_by h xs) → Balanced c all views → All (IsJob c) items
      → get_elem? views port ≡ some v → Balanced c items (set views port (log v.parts v.pushed (v.taken ++ xs)))
  leaves_some port v xs all items views part same rule tree at =
      let w : Log = log v.parts v.pushed (v.taken ++ xs) in
      record {
        whole = let s = total_set (λ (u : Log). u.parts) views port v w at in let p = rule.whole in omega (arith, s, p);
        sums = λ h.
            let s = total_set (λ (u : Log). sum_by h u.pushed) views port v w at in
            let t = total_set (λ (u : Log). sum_by h u.taken) views port v w at in
            let p = rule.sums h in
            omega (arith, s, t, p, same h, sum_by-append h v.taken xs);
        idle = idle_set views port w (λ none. absurd (omega arith)) rule.idle;
        tree = tree;
      }

  pub takes : (port : ℕ) (v : Log) → 0 < v.parts → Takes (Balanced c) port v 1 (λ xs w. (w ≡ log v.parts v.pushed (v.taken ++ xs)) × All (IsJob c) xs)
  takes port v part xs items views _ _ rule at = (
    log v.parts v.pushed (v.taken ++ xs),
    leaves_some port v xs (xs ++ items) items views part (λ h. omega (arith, sum_by-append h xs items)) rule (last_of xs items rule.tree) at,
    (refl, first_of xs items rule.tree),
  )

  pub pops : (port : ℕ) (v : Log) → 0 < v.parts → Pops (Balanced c) port v (λ xs w. (w ≡ log v.parts v.pushed (v.taken ++ xs)) × All (IsJob c) xs)
  pops port v part x items views rule at = (
    log v.parts v.pushed (v.taken ++ x ∷ []),
    leaves_some port v (x ∷ []) (items ++ x ∷ []) items views part (λ h. sum_by-append h items (x ∷ [])) rule (first_of items (x ∷ []) rule.tree) at,
    (refl, last_of items (x ∷ []) rule.tree),
  )

  pub finds : (port : ℕ) (v : Log) → Finds (Balanced c) port v (v.parts ≡ all_parts → IsSettled v)
  finds port v views rule at all h =
      let whole = rule.whole ∙ sym all in
      let nothing : (xs : List Job) → xs ≡ [] → sum_by h xs ≡ 0 = λ xs e. ap (sum_by h) e in
      let pushed = alone (λ (u : Log). sum_by h u.pushed) views port v (λ u none. nothing u.pushed none.0) rule.idle at whole in
      let taken = alone (λ (u : Log). sum_by h u.taken) views port v (λ u none. nothing u.taken none.1) rule.idle at whole in
      let p = rule.sums h in
      omega (arith, pushed, taken, p)

  pub forks : (port : ℕ) (v : Log) → 1 < v.parts → Forks (Balanced c) port v (log (v.parts - 1) [] []) (log 1 v.pushed v.taken)
  forks port v parts items views rule at =
      let w : Log = log (v.parts - 1) [] [] in
      let new : Log = log 1 v.pushed v.taken in
      let both : (f : Log → ℕ) → sum_by f (set views port w ++ new ∷ []) ≡ sum_by f (set views port w) + f new = λ f. sum_by_push f (set views port w) new in
      record {
        whole = let s = total_set (λ (u : Log). u.parts) views port v w at in let p = rule.whole in omega (arith, s, p, both (λ (u : Log). u.parts));
        sums = λ h.
            let s = total_set (λ (u : Log). sum_by h u.pushed) views port v w at in
            let t = total_set (λ (u : Log). sum_by h u.taken) views port v w at in
            let p = rule.sums h in
            omega (arith, s, t, p, both (λ (u : Log). sum_by h u.pushed), both (λ (u : Log). sum_by h u.taken));
        idle = λ j u here none. ⊎_elim (λ t. idle_set views port w (λ e. (refl, refl)) rule.idle j u t none)
            (λ t. absurd (let one : 1 ≡ u.parts = ap (λ (x : Log). x.parts) t in omega (arith, one, none))) (at_snoc (set views port w) new u j here);
        tree = rule.tree;
      }

  pub merges : (port : ℕ) (v : Log) (other : ℕ) (u : Log)
      → Merges (Balanced c) port v other u (log (v.parts + u.parts) (v.pushed ++ u.pushed) (v.taken ++ u.taken)) (log 0 [] [])
  merges port v other u items views rule at apart there =
      let w : Log = log (v.parts + u.parts) (v.pushed ++ u.pushed) (v.taken ++ u.taken) in
      let spent : Log = log 0 [] [] in
      let now : List Log = set views port w in
      let was : get_elem? views other ≡ some u = ⊎_elim (λ t. absurd (apart t.0)) (λ t. t.1) (at_set views port other w u there) in
      let left : w.parts ≡ 0 → (w.pushed ≡ []) × (w.taken ≡ []) = λ none.
      let a = rule.idle port v at (omega arith) in
      let b = rule.idle other u was (omega arith) in
      (ap (λ (l : List Job). l ++ u.pushed) a.0 ∙ b.0, ap (λ (l : List Job). l ++ u.taken) a.1 ∙ b.1) in
      record {
        whole =
            let s = total_set (λ (x : Log). x.parts) views port v w at in
            let t = total_set (λ (x : Log). x.parts) now other u spent there in
            let p = rule.whole in
            omega (arith, s, t, p);
        sums = λ h.
            let s = total_set (λ (x : Log). sum_by h x.pushed) views port v w at in
            let t = total_set (λ (x : Log). sum_by h x.pushed) now other u spent there in
            let s' = total_set (λ (x : Log). sum_by h x.taken) views port v w at in
            let t' = total_set (λ (x : Log). sum_by h x.taken) now other u spent there in
            let p = rule.sums h in
            omega (arith, s, t, s', t', p, sum_by-append h v.pushed u.pushed, sum_by-append h v.taken u.taken);
        idle = idle_set now other spent (λ none. (refl, refl)) (idle_set views port w left rule.idle);
        tree = rule.tree;
      }
