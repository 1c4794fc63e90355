-- What workers begin with.
use Rattle.std.proofs.Common.{◌≡◌, ℕ, zero, suc, ◌+◌, ◌-◌, ◌<◌, ◌≤◌, List, [], ◌∷◌, ◌++◌, All, length, length-append, drop, get_or, map, set, sum_by, take, refl, sym, ap, ◌∙◌, subst, arith, add-one}
use Rattle.std.proofs.Math.Seq.{get_or-append_seam, map-set_same}
use Rattle.std.proofs.lemmas.List.{drop-drop, drop-set-lt, get_or-drop, get_or-map, length-map, map-append, take_all, take_more, take_more_set}
use Rattle.std.proofs.lemmas.List.Elements.{All-get_or, All-nil, All-push, All-set}
use Rattle.std.proofs.lemmas.List.Sums.{sum_by-append, sum_by-set, sum_by_push}
use Rattle.crossbeam_deque.specs.Handles.{stealer_deque, worker_deque}
use Rattle.cell_split.proofs.Every.{Every}
use Rattle.search_worker.specs.Owing.{pushed_by}
use Rattle.search_crew.specs.Crews.{AreThievesOf, IsShared, SameOwners, given_to, owner_logs}
use Rattle.search_crew.proofs.Joining.{pushed-cons}
use Rattle.search_crew.proofs.Places.{sum_by-map}
use Rattle.task_deque.specs.declared.handles.Owner.{Owner}
use Rattle.task_deque.specs.declared.handles.Thief.{Thief}
use Rattle.task_deque.specs.declared.job.Job.{Job}
use Rattle.task_deque.specs.declared.rule.Log.{Log}
use Rattle.task_deque.specs.Ends.{IsThiefOf, SameOwner, owner_log, thief_log}
use Rattle.task_deque.specs.Rule.{log}

-- what each of these deques was given
abbrev pub pushed_at : {C : Type 0} → List (Owner C) → ℕ → List Job
pushed_at owners i = get_or (map (λ o. (owner_log o).pushed) owners) i []

module _ {C : Type 0} where
  -- one owner that stays the owner of its deque
  pub same_set : (owners : List (Owner C)) (i : ℕ) (d new : Owner C) → SameOwner (get_or owners i d) new → SameOwners owners (set owners i new)
  same_set owners i d new same = map-set_same (λ (o : Owner C). worker_deque o.worker) owners i new d same

  pub same_length : (old new : List (Owner C)) → SameOwners old new → length new ≡ length old
  same_length old new same =
      let deque : Owner C → _ = λ o. worker_deque o.worker in
      sym (length-map new deque) ∙ (ap length same ∙ length-map old deque)

  -- one owner that pushes a task
  pub shared_set : (owners : List (Owner C)) (n i : ℕ) (d new : Owner C) (job : Job) → i < length owners → owner_log new ≡ log (owner_log (get_or owners i d)).parts ((owner_log (get_or owners i d)).pushed ++ job ∷ []) (owner_log (get_or owners i d)).taken
      → All (IsShared n) owners → All (IsShared n) (set owners i new)
  shared_set owners n i d new job inside is all =
      let was = All-get_or (IsShared n) owners i d inside all in
      All-set (IsShared n) owners i new (record {
        parts = let parts = ap (λ (v : Log). v.parts) is in omega (arith, parts, was.parts);
        untouched = ap (λ (v : Log). v.taken) is ∙ was.untouched;
      }) all

  -- one owner whose log has become heavier
  pub log_set : (f : Log → ℕ) (owners : List (Owner C)) (i : ℕ) (d new : Owner C) (more : ℕ) → i < length owners → f (owner_log new) ≡ f (owner_log (get_or owners i d)) + more
      → sum_by f (owner_logs (set owners i new)) ≡ sum_by f (owner_logs owners) + more
  log_set f owners i d new more inside own =
      let here : Owner C → ℕ = λ o. f (owner_log o) in
      let sums : (l : List (Owner C)) → sum_by f (owner_logs l) ≡ sum_by here l = sum_by-map f (λ o. owner_log o) in
      let changed = sum_by-set here owners i new d inside in
      omega (arith, sums owners, sums (set owners i new), changed, own)

  pub pushed_set : (weight : Job → ℕ) (owners : List (Owner C)) (i : ℕ) (d new : Owner C) (job : Job) → i < length owners → owner_log new ≡ log (owner_log (get_or owners i d)).parts ((owner_log (get_or owners i d)).pushed ++ job ∷ []) (owner_log (get_or owners i d)).taken
      → pushed_by (owner_logs (set owners i new)) weight ≡ pushed_by (owner_logs owners) weight + weight job
  pushed_set weight owners i d new job inside is =
      let old = get_or owners i d in
      log_set (λ (v : Log). sum_by weight v.pushed) owners i d new (weight job) inside (ap (λ (v : Log). sum_by weight v.pushed) is ∙ sum_by_push weight (owner_log old).pushed job)

  abbrev IsBlank : ℕ → Owner C → Type 0
  IsBlank n o = owner_log o ≡ log n [] []

  abbrev IsNew : Thief C → Type 0
  IsNew t = thief_log t ≡ log 1 [] []

  -- of the deques, which were `first`, those before number i have given out a handle
  pub record HandsOut (first owners : List (Owner C)) (i : ℕ) (thieves : List (Thief C)) : Type 0 where
    pub rest : drop i owners ≡ drop i first
    pub same : SameOwners first owners
    pub fit : map (λ t. stealer_deque t.stealer) thieves ≡ take i (map (λ o. worker_deque o.worker) first)
    pub left : (n : ℕ) → All (IsBlank (n + 1)) first → All (IsBlank n) (take i owners)
    pub new : (n : ℕ) → All (IsBlank (n + 1)) first → All IsNew thieves

  pub hands-none : (first : List (Owner C)) → HandsOut first first 0 []
  hands-none first = record { rest = refl; same = refl; fit = refl; left = λ n h. All-nil (IsBlank n); new = λ n h. All-nil IsNew }

  -- the next one is as it was
  pub hands-next : (first owners : List (Owner C)) (i : ℕ) (thieves : List (Thief C)) (d : Owner C) → HandsOut first owners i thieves → get_or owners i d ≡ get_or first i d
  hands-next first owners i thieves d is =
      let zero : i + 0 ≡ i = omega arith in
      let at : (l : List (Owner C)) → get_or l i d ≡ get_or (drop i l) 0 d = λ l. ap (λ k. get_or l k d) (sym zero) ∙ sym (get_or-drop i l 0 d) in
      at owners ∙ (ap (λ l. get_or l 0 d) is.rest ∙ sym (at first))

  -- it gives out a handle
  pub hands-one : (first owners : List (Owner C)) (i : ℕ) (thieves : List (Thief C)) (d new : Owner C) (t : Thief C) → i < length owners → HandsOut first owners i thieves
      → SameOwner (get_or owners i d) new → owner_log new ≡ log ((owner_log (get_or owners i d)).parts - 1) [] []
      → IsThiefOf (get_or owners i d) t × (thief_log t ≡ log 1 (owner_log (get_or owners i d)).pushed (owner_log (get_or owners i d)).taken)
      → HandsOut first (set owners i new) (i + 1) (thieves ++ t ∷ [])
  hands-one first owners i thieves d new t inside is same left given =
      let old = get_or owners i d in
      let deque : Owner C → _ = λ o. worker_deque o.worker in
      let steal : Thief C → _ = λ t. stealer_deque t.stealer in
      let e = deque old in
      let long = same_length first owners is.same in
      let was : (n : ℕ) → All (IsBlank (n + 1)) first → IsBlank (n + 1) old = λ n h. subst (IsBlank (n + 1)) (sym (hands-next first owners i thieves d is)) (All-get_or (IsBlank (n + 1)) first i d (omega (arith, inside, long)) h) in
      let here : get_or (map deque first) i e ≡ e = ap (λ l. get_or l i e) (sym is.same) ∙ get_or-map deque owners i d e inside in
      record {
        rest = drop-set-lt (i + 1) owners i new (omega arith) ∙ (sym (drop-drop 1 i owners) ∙ (ap (drop 1) is.rest ∙ drop-drop 1 i first));
        same = same_set owners i d new same ∙ is.same;
        fit =
            map-append steal thieves (t ∷ [])
            ∙ (ap (λ l. l ++ steal t ∷ []) is.fit
            ∙ (ap (λ x. take i (map deque first) ++ x ∷ []) (given.0 ∙ sym here)
            ∙ sym (take_more (map deque first) i e (omega (arith, inside, long, length-map first deque)))));
        left = λ n h.
            let parts : (owner_log old).parts - 1 ≡ n = let p = ap (λ (v : Log). v.parts) (was n h) in omega (arith, p) in
            subst (All (IsBlank n)) (sym (take_more_set owners i new inside)) (All-push (IsBlank n) (take i owners) new (is.left n h) (left ∙ ap (λ k. log k [] []) parts));
        new = λ n h. All-push IsNew thieves t (is.new n h) (given.1 ∙ ap (λ (v : Log). log 1 v.pushed v.taken) (was n h));
      }

  -- all have given out a handle
  pub hands-all : (first owners : List (Owner C)) (i : ℕ) (thieves : List (Thief C)) → length first ≤ i → HandsOut first owners i thieves
      → AreThievesOf first thieves × ((n : ℕ) → All (IsBlank (n + 1)) first → All (IsBlank n) owners × All IsNew thieves)
  hands-all first owners i thieves all is =
      let deque : Owner C → _ = λ o. worker_deque o.worker in
      let long = same_length first owners is.same in (
        is.fit ∙ take_all i (map deque first) (omega (arith, all, length-map first deque)),
        λ n h. (subst (All (IsBlank n)) (take_all i owners (omega (arith, all, long))) (is.left n h), is.new n h),
      )

  -- deques into which nothing was pushed
  pub unpushed_none : (weight : Job → ℕ) (owners : List (Owner C)) → Every (λ o. (owner_log o).pushed ≡ []) owners → pushed_by (owner_logs owners) weight ≡ 0
  unpushed_none weight [] h = refl
  unpushed_none weight (o ∷ os) h =
      let rest = unpushed_none weight os h.1 in
      let none : sum_by weight (owner_log o).pushed ≡ 0 = ap (λ (l : List Job). sum_by weight l) h.0 in
      omega (arith, rest, none, pushed-cons weight (owner_log o) (owner_logs os))

-- what the deque behind these was given
pub pushed_seam : {C : Type 0} (xs : List (Owner C)) (o : Owner C) (ys all : List (Owner C)) → xs ++ o ∷ ys ≡ all → pushed_at all (length xs) ≡ (owner_log o).pushed
pushed_seam {C} xs o ys all e =
    let pushed : Owner C → List Job = λ o. (owner_log o).pushed in
    ap (λ l. pushed_at l (length xs)) (sym e) ∙ (get_or-map pushed (xs ++ o ∷ ys) (length xs) o [] (omega (arith, length-append xs (o ∷ ys))) ∙ ap pushed (get_or-append_seam xs o ys o))

-- the first n lists weigh what their jobs weigh
given_weigh : (weight : Job → ℕ) (lists : List (List Job)) (n : ℕ) → n ≤ length lists → sum_by weight (given_to (λ i. get_or lists i []) n) ≡ sum_by (λ l. sum_by weight l) (take n lists)
given_weigh weight lists zero few = refl
given_weigh weight lists (suc n) few =
    let before = given_weigh weight lists n (omega arith) in
    let here = get_or lists n [] in
    let both = sum_by-append weight (given_to (λ i. get_or lists i []) n) here in
    let more = ap (λ m. sum_by (λ l. sum_by weight l) (take m lists)) (sym (add-one n)) ∙ (ap (sum_by (λ l. sum_by weight l)) (take_more lists n [] (omega arith)) ∙ sum_by_push (λ l. sum_by weight l) (take n lists) here) in
    omega (arith, before, both, more)

-- all that the deques were given weighs what they were given together
pub given_all : {C : Type 0} (weight : Job → ℕ) (owners : List (Owner C)) → sum_by weight (given_to (pushed_at owners) (length owners)) ≡ pushed_by (owner_logs owners) weight
given_all {C} weight owners =
    let pushed : Owner C → List Job = λ o. (owner_log o).pushed in
    let lists = map pushed owners in
    let few = length-map owners pushed in
    let weighed = given_weigh weight lists (length owners) (omega (arith, few)) in
    let all : take (length owners) lists ≡ lists = take_all (length owners) lists (omega (arith, few)) in
    let total = ap (sum_by (λ l. sum_by weight l)) all in
    let left = sum_by-map (λ l. sum_by weight l) pushed owners in
    let right = sum_by-map (λ (v : Log). sum_by weight v.pushed) (λ (o : Owner C). owner_log o) owners in
    omega (arith, weighed, total, left, right)
