-- Deques that take in the handles on them.
use Rattle.std.proofs.Common.{◌≡◌, ℕ, ◌+◌, ◌<◌, ◌≤◌, List, [], ◌∷◌, ◌++◌, All, length, length-append, get_or, map, set, sum_by, take, drop, refl, sym, ap, ◌∙◌, subst, arith}
use Rattle.std.proofs.lemmas.List.{append-nil, drop-set-lt, drop_all, drop_more, get_or-map, get_or-set_same, get_or-take, get_or_append_left, get_or_push, length-map, length-set, length-take, map-append, take-set-le, take-take, take_all, take_at}
use Rattle.std.proofs.lemmas.List.Elements.{All-cons, All-get_or, All-nil, All-take}
use Rattle.std.proofs.lemmas.List.Sums.{sum_by-append, sum_by_push}
use Rattle.crossbeam_deque.specs.Handles.{stealer_deque, worker_deque}
use Rattle.search_worker.specs.Workers.{logs_of}
use Rattle.search_crew.specs.Crews.{AreThievesOf, IsPartOfOne, SameOwners, WeighAs, owner_logs}
use Rattle.search_crew.proofs.Dealing.{log_set, same_set}
use Rattle.search_crew.proofs.Joining.{pushed-append, taken-append}
use Rattle.task_deque.specs.declared.handles.Owner.{Owner}
use Rattle.task_deque.specs.declared.handles.Thief.{Thief}
use Rattle.task_deque.specs.declared.rule.Log.{Log}
use Rattle.task_deque.specs.Ends.{IsThiefOf, SameOwner, owner_log, thief_log}
use Rattle.task_deque.specs.Rule.{all_parts, log}

-- what was taken in is not pushed or taken by others
pub weigh-more : (new old here rest all : List Log) → WeighAs new (old ++ here) → WeighAs (old ++ (here ++ rest)) all → WeighAs (new ++ rest) all
weigh-more new old here rest all first second = record {
  pushed = λ w. omega (arith, first.pushed w, second.pushed w, pushed-append w new rest, pushed-append w old here, pushed-append w old (here ++ rest), pushed-append w here rest);
  taken = λ w. omega (arith, first.taken w, second.taken w, taken-append w new rest, taken-append w old here, taken-append w old (here ++ rest), taken-append w here rest);
}

module _ {C : Type 0} where
  abbrev lacks : ℕ → Owner C → Type 0
  lacks n o = (owner_log o).parts + n ≡ all_parts

  -- of the deques, which were `first`, those from the number of handles left on have taken in theirs
  pub record Absorbs (first owners : List (Owner C)) (all thieves : List (Thief C)) : Type 0 where
    pub within : length thieves ≤ length owners
    pub same : SameOwners first owners
    pub fit : map (λ t. stealer_deque t.stealer) thieves ≡ take (length thieves) (map (λ o. worker_deque o.worker) first)
    pub single : All IsPartOfOne thieves
    pub early : (n : ℕ) → All (lacks (n + 1)) first → All (lacks (n + 1)) (take (length thieves) owners)
    pub late : (n : ℕ) → All (lacks (n + 1)) first → All (lacks n) (drop (length thieves) owners)
    pub weigh : WeighAs (owner_logs owners ++ logs_of thieves) (owner_logs first ++ logs_of all)

  pub absorbs-none : (first : List (Owner C)) (all : List (Thief C)) → AreThievesOf first all → All IsPartOfOne all → Absorbs first first all all
  absorbs-none first all fit single =
      let deque : Owner C → _ = λ o. worker_deque o.worker in
      let steal : Thief C → _ = λ t. stealer_deque t.stealer in
      let long : length all ≡ length first = sym (length-map all steal) ∙ (ap length fit ∙ length-map first deque) in
      record {
        within = omega (arith, long);
        same = refl;
        fit = fit ∙ sym (take_all (length all) (map deque first) (omega (arith, long, length-map first deque)));
        single = single;
        early = λ n h. All-take (lacks (n + 1)) (length all) first h;
        late = λ n h. subst (λ (l : List (Owner C)). All (lacks n) l) (sym (drop_all (length all) first (omega (arith, long)))) (All-nil (lacks n));
        weigh = record { pushed = λ w. refl; taken = λ w. refl };
      }

  -- the last handle is on the deque of this number
  pub absorbs-fits : (first owners : List (Owner C)) (all thieves : List (Thief C)) (t : Thief C) (d : Owner C) → Absorbs first owners all (thieves ++ t ∷ []) → IsThiefOf (get_or owners (length thieves) d) t
  absorbs-fits first owners all thieves t d is =
      let n = length thieves in
      let deque : Owner C → _ = λ o. worker_deque o.worker in
      let steal : Thief C → _ = λ t. stealer_deque t.stealer in
      let long = length-append thieves (t ∷ []) in
      let e = deque (get_or owners n d) in
      let all' = thieves ++ t ∷ [] in
      let left : get_or (map steal all') n e ≡ steal t = get_or-map steal all' n t e (omega (arith, long)) ∙ ap steal (get_or_push thieves t t n refl) in
      let right : get_or (take (length all') (map deque first)) n e ≡ e =
      get_or-take (length all') (map deque first) n e (omega (arith, long)) ∙ (ap (λ l. get_or l n e) (sym is.same) ∙ get_or-map deque owners n d e (omega (arith, is.within, long))) in
      sym left ∙ (ap (λ l. get_or l n e) is.fit ∙ right)

  -- it is taken in
  pub absorbs-one : (first owners : List (Owner C)) (all thieves : List (Thief C)) (t : Thief C) (d new : Owner C) → Absorbs first owners all (thieves ++ t ∷ [])
      → SameOwner (get_or owners (length thieves) d) new
      → owner_log new ≡ log ((owner_log (get_or owners (length thieves) d)).parts + (thief_log t).parts) ((owner_log (get_or owners (length thieves) d)).pushed ++ (thief_log t).pushed) ((owner_log (get_or owners (length thieves) d)).taken ++ (thief_log t).taken)
      → Absorbs first (set owners (length thieves) new) all thieves
  absorbs-one first owners all thieves t d new is same both =
      let n = length thieves in
      let old = get_or owners n d in
      let deque : Owner C → _ = λ o. worker_deque o.worker in
      let steal : Thief C → _ = λ t. stealer_deque t.stealer in
      let long : length (thieves ++ t ∷ []) ≡ n + 1 = length-append thieves (t ∷ []) in
      let inside : n < length owners = omega (arith, is.within, long) in
      let one : (thief_log t).parts ≡ 1 = subst IsPartOfOne (get_or_push thieves t t n refl) (All-get_or IsPartOfOne (thieves ++ t ∷ []) n t (omega (arith, long)) is.single) in
      let front : (m : ℕ) → All (lacks (m + 1)) first → All (lacks (m + 1)) (take (n + 1) owners) = λ m h. subst (λ (k : ℕ). All (lacks (m + 1)) (take k owners)) long (is.early m h) in
      let back : (m : ℕ) → All (lacks (m + 1)) first → All (lacks m) (drop (n + 1) owners) = λ m h. subst (λ (k : ℕ). All (lacks m) (drop k owners)) long (is.late m h) in
      record {
        within = omega (arith, inside, length-set owners n new);
        same = same_set owners n d new same ∙ is.same;
        fit =
            sym (take_at (map steal thieves) (steal t ∷ []) n (length-map thieves steal))
            ∙ (ap (take n) (sym (map-append steal thieves (t ∷ [])) ∙ is.fit)
            ∙ take-take n (length (thieves ++ t ∷ [])) (map deque first) (omega (arith, long)));
        single = λ i e lt. subst IsPartOfOne (get_or_append_left thieves (t ∷ []) e i lt) (is.single i e (omega (arith, long)));
        early = λ m h. subst (λ (l : List (Owner C)). All (lacks (m + 1)) l) (take-take n (n + 1) owners (omega arith) ∙ sym (take-set-le n owners n new (omega arith))) (All-take (lacks (m + 1)) n (take (n + 1) owners) (front m h));
        late = λ m h.
            let was : lacks (m + 1) old = subst (lacks (m + 1)) (get_or-take (n + 1) owners n d (omega arith)) (All-get_or (lacks (m + 1)) (take (n + 1) owners) n d (omega (arith, inside, length-take (n + 1) owners)) (front m h)) in
            let parts = ap (λ (v : Log). v.parts) both in
            let here : lacks m new = omega (arith, was, parts, one) in
            let split : drop n (set owners n new) ≡ new ∷ drop (n + 1) owners =
            drop_more (set owners n new) n d (omega (arith, inside, length-set owners n new)) ∙ (ap (λ o. o ∷ drop (n + 1) (set owners n new)) (get_or-set_same owners n new d inside) ∙ ap (λ l. new ∷ l) (drop-set-lt (n + 1) owners n new (omega arith))) in
            subst (λ (l : List (Owner C)). All (lacks m) l) (sym split) (All-cons (lacks m) new (drop (n + 1) owners) here (back m h));
        weigh = record {
          pushed = λ w.
              let f : Log → ℕ = λ v. sum_by w v.pushed in
              let own = ap f both ∙ sum_by-append w (owner_log old).pushed (thief_log t).pushed in
              let set' = log_set f owners n d new (f (thief_log t)) inside own in
              omega (arith, set', is.weigh.pushed w, pushed-append w (owner_logs (set owners n new)) (logs_of thieves), pushed-append w (owner_logs owners) (logs_of (thieves ++ t ∷ [])), more f thieves t);
          taken = λ w.
              let f : Log → ℕ = λ v. sum_by w v.taken in
              let own = ap f both ∙ sum_by-append w (owner_log old).taken (thief_log t).taken in
              let set' = log_set f owners n d new (f (thief_log t)) inside own in
              omega (arith, set', is.weigh.taken w, taken-append w (owner_logs (set owners n new)) (logs_of thieves), taken-append w (owner_logs owners) (logs_of (thieves ++ t ∷ [])), more f thieves t);
        };
      }
    where
      more : (f : Log → ℕ) (thieves : List (Thief C)) (t : Thief C) → sum_by f (logs_of (thieves ++ t ∷ [])) ≡ sum_by f (logs_of thieves) + f (thief_log t)
      more f thieves t = ap (sum_by f) (map-append (λ (t : Thief C). thief_log t) thieves (t ∷ [])) ∙ sum_by_push f (logs_of thieves) (thief_log t)

  -- all are taken in
  pub absorbs-parts : (first owners : List (Owner C)) (all thieves : List (Thief C)) (n : ℕ) → Absorbs first owners all thieves → length thieves ≡ 0 → All (lacks (n + 1)) first → All (lacks n) owners
  absorbs-parts first owners all thieves n is none h = subst (λ (k : ℕ). All (lacks n) (drop k owners)) none (is.late n h)

  pub absorbs-weigh : (first owners : List (Owner C)) (all thieves : List (Thief C)) → length thieves ≡ 0 → Absorbs first owners all thieves → WeighAs (owner_logs owners) (owner_logs first ++ logs_of all)
  absorbs-weigh first owners all [] none is = subst (λ (l : List Log). WeighAs l (owner_logs first ++ logs_of all)) (append-nil (owner_logs owners)) is.weigh
  absorbs-weigh first owners all (t ∷ thieves) none is = absurd (omega (arith, none))
