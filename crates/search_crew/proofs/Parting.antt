-- Logs of workers that are taken apart.
use Rattle.std.proofs.Common.{◌≡◌, List, [], ◌∷◌, ◌++◌, length, sym, ap, ◌∙◌, subst, arith}
use Rattle.std.specs.List.{flat_map}
use Rattle.std.proofs.lemmas.Grind.{flat_map-append}
use Rattle.std.proofs.lemmas.List.{append-nil, map-append}
use Rattle.search_crew.specs.Crews.{WeighAs, owner_logs}
use Rattle.search_crew.proofs.Joining.{pushed-append, pushed-cons, taken-append, taken-cons}
use Rattle.task_deque.specs.declared.handles.Owner.{Owner}
use Rattle.task_deque.specs.declared.rule.Log.{Log}
use Rattle.task_deque.specs.Ends.{owner_log}

-- two lists of logs that both got more
weigh-both : (a b here : List Log) (v : Log) → WeighAs ((a ++ v ∷ []) ++ (b ++ here)) ((a ++ b) ++ (v ∷ here))
weigh-both a b here v = record {
  pushed = λ w.
      omega (arith, pushed-append w (a ++ v ∷ []) (b ++ here), pushed-append w a (v ∷ []), pushed-append w b here, pushed-append w (a ++ b) (v ∷ here), pushed-append w a b, pushed-cons w v here, pushed-cons w v []);
  taken = λ w.
      omega (arith, taken-append w (a ++ v ∷ []) (b ++ here), taken-append w a (v ∷ []), taken-append w b here, taken-append w (a ++ b) (v ∷ here), taken-append w a b, taken-cons w v here, taken-cons w v []);
}

module _ {X : Type 0} (logs : X → List Log) where
  -- one deque and one list of handles more
  pub weigh-part : {C : Type 0} (owners : List (Owner C)) (o : Owner C) (lists : List X) (x : X)
      → WeighAs (owner_logs (owners ++ o ∷ []) ++ flat_map logs (lists ++ x ∷ [])) ((owner_logs owners ++ flat_map logs lists) ++ (owner_log o ∷ logs x))
  weigh-part {C} owners o lists x =
      let a = owner_logs owners in
      let b = flat_map logs lists in
      let all = (a ++ b) ++ (owner_log o ∷ logs x) in
      let left : owner_logs (owners ++ o ∷ []) ≡ a ++ owner_log o ∷ [] = map-append (λ (o : Owner C). owner_log o) owners (o ∷ []) in
      let right : flat_map logs (lists ++ x ∷ []) ≡ b ++ logs x = flat_map-append logs lists (x ∷ []) ∙ ap (λ (l : List Log). b ++ l) (append-nil (logs x)) in
      subst (λ (l : List Log). WeighAs (l ++ flat_map logs (lists ++ x ∷ [])) all) (sym left)
      (subst (λ (l : List Log). WeighAs ((a ++ owner_log o ∷ []) ++ l) all) (sym right) (weigh-both a b (logs x) (owner_log o)))

  -- no list is left
  pub weigh-whole : (left : List X) (new all : List Log) → length left ≡ 0 → WeighAs (new ++ flat_map logs left) all → WeighAs new all
  weigh-whole [] new all none h = subst (λ (l : List Log). WeighAs l all) (append-nil new) h
  weigh-whole (x ∷ left) new all none h = absurd (omega (arith, none))
