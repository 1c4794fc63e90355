use Rattle.std.proofs.Common.{◌≡◌, ℕ, ◌<◌, ◌^◌, List, [], ◌∷◌, ◌++◌, All, false, Some, append_assoc, length, length-append, sum_by, sym, ap, ◌∙◌, subst, arith, rules}
use Rattle.std.specs.Vec.Iter.{into_iter_items}
use Rattle.std.specs.Vec.{vec_len}
use Rattle.std.proofs.lemmas.List.{length-map, map-append}
use Rattle.std.proofs.lemmas.List.Elements.{All-pop, All-push, All-weaker, recursion_from_All}
use Rattle.bound_word.specs.Bounds.{seen}
use Rattle.search_worker.specs.declared.member.Member.{Member}
use Rattle.search_worker.specs.Owing.{Owes, pushed_by}
use Rattle.search_worker.specs.Workers.{MemberOwes, logs_of}
use Rattle.search_crew.specs.Crews.{AreThievesOf, IsOfCrew, IsPartOfOne, IsShared, given_to, owner_logs, roots_to}
use Rattle.search_crew.proofs.Dealing.{given_all, pushed_at, pushed_seam}
use Rattle.search_crew.proofs.Joining.{owes-first}
use Rattle.search_crew.proofs.Places.{at_seam, each_push, no_more}
use Rattle.task_deque.specs.declared.handles.Owner.{Owner}
use Rattle.task_deque.specs.declared.job.Job.{Job}
use Rattle.task_deque.specs.Ends.{owner_log, thief_log}
use Rattle.task_deque.specs.Rule.{log}
use Rattle.search_crew.proofs.crew.members_of.Goals as goal

pub overflow_cast-number : goal.overflow_cast-number
overflow_cast-number g c =
    let at = c.loop-owner in
    let all = into_iter_items c.into_iter-owner-iterator.result in
    let whole = ap length c.into_iter-owner-iterator.ensures.into_iter_gives.0 in
    let found = ap length at.invariant.owners in
    let yields = ap length at.invariant.yields in
    let count : c.len-number.result ≡ length at.members.items = search rules in
    let small : c.len-number.result < 2 ^ 32 =
    omega (arith, whole, found, yields, count, c.requires.few, length-map at.members.items (λ (m : Member _ _). m.worker.owner), length-append at.yielded (into_iter_items at.owner-iterator)) in
    search rules

pub unwrap-requires : goal.unwrap-requires
unwrap-requires g c =
    let at = c.loop-owner in
    let steps = c.in-Some.ensures.steps.0 in
    let yields = ap length at.invariant.yields in
    let left = ap length steps in
    let count : vec_len at.all ≡ length at.all.items = search rules in
    c.pop.ensures.variant.1 (omega (arith, yields, left, count, at.invariant.lists, length-append at.yielded (into_iter_items at.owner-iterator)))

pub loop-owner-preserved : goal.loop-owner-preserved
loop-owner-preserved g c =
    let case = g.C.Case.case in
    let keeps = g.S.Store.keeps case.problems in
    let at = c.loop-owner in
    let o = c.in-Some.owner in
    let thieves = c.unwrap.result in
    let rest = into_iter_items c.next.new.self in
    let all = into_iter_items c.into_iter-owner-iterator.result in
    let whole : all ≡ c.args.owners.items = c.into_iter-owner-iterator.ensures.into_iter_gives.0 in
    let steps : into_iter_items at.owner-iterator ≡ o ∷ rest = c.in-Some.ensures.steps.0 in
    let seam : at.yielded ++ o ∷ rest ≡ all = rw (← steps) at.invariant.yields in
    let n = length at.yielded in
    let counted : length at.members.items ≡ n = sym (length-map at.members.items (λ (m : Member _ _). m.worker.owner)) ∙ ap length at.invariant.owners in
    let long = ap length whole in
    let shared = at_seam (IsShared (length c.args.owners.items)) at.yielded o rest all seam (subst (All (IsShared (length c.args.owners.items))) (sym whole) c.requires.shared) in
    let popped : at.all.items ≡ c.pop.new.self.items ++ thieves ∷ [] = rw c.unwrap.ensures at c.pop.ensures.items in
    let both = All-pop (λ thieves. AreThievesOf all thieves.items × All (λ t. thief_log t ≡ log 1 [] []) thieves.items) at.all.items c.pop.new.self.items (Some thieves) popped at.invariant.thieves in
    let held : keeps c.in_ok-store.store [] = subst (λ (n : ℕ). g.S.Store.keeps n c.in_ok-store.store []) c.requires.problems c.in_ok-store.ensures in
    let first = owes-first case (keeps c.in_ok-store.store) (seen c.split-seat.result) (owner_log o) thieves.items shared.untouched (recursion_from_All (λ t. thief_log t ≡ log 1 [] []) thieves.items both.1.1) held in
    let new : Member _ _ = record { worker = record { owner = o; seat = c.split-seat.result; store = c.in_ok-store.store }; thieves = thieves; number = c.len-number.result; lacks_memory = false } in
    record {
      yields = append_assoc at.yielded (o ∷ []) rest ∙ seam;
      counted = let before = at.invariant.counted in let gone = c.in-Some.ensures.steps.1 in let short = ap length steps in omega arith;
      seat = c.split-seat.ensures.seat;
      lists = let less = ap length popped in omega (arith, less, at.invariant.lists, length-append at.yielded (o ∷ []), length-append c.pop.new.self.items (thieves ∷ []));
      thieves = both.0;
      owners = rw c.in_ok-push.ensures.items (map-append (λ (m : Member _ _). m.worker.owner) at.members.items (new ∷ []) ∙ ap (λ (l : List (Owner _)). l ++ o ∷ []) at.invariant.owners);
      crew = rw c.in_ok-push.ensures.items
          (All-push (IsOfCrew c.args.bound.now all) at.members.items new at.invariant.crew (record {
            worker = record { seat = c.split-seat.ensures.other; part = let p = shared.parts in omega (arith, p, c.requires.few) };
            parts = let p = shared.parts in omega (arith, p, long);
            thieves = both.1.0;
            single = All-weaker (λ t. thief_log t ≡ log 1 [] []) IsPartOfOne (λ t e. ap (λ v. v.parts) e) thieves.items both.1.1;
          }));
      owes = rw c.in_ok-push.ensures.items
          (λ i d lt. each_push (λ i m. MemberOwes case keeps m (pushed_at all i) []) at.members.items new n counted (λ k d lt. at.invariant.owes k d (omega (arith, lt, counted)))
          (subst (λ (given : List Job). Owes case (keeps c.in_ok-store.store) (seen c.split-seat.result) (owner_log o ∷ logs_of thieves.items) given []) (sym (pushed_seam at.yielded o rest all seam)) first)
          i d (omega (arith, lt, counted, length-append at.members.items (new ∷ []))));
    }

pub returns-clause-crew : goal.returns-clause-crew
returns-clause-crew g c =
    let at = c.loop-owner in
    let all = into_iter_items c.into_iter-owner-iterator.result in
    let none = c.in-None.ensures.steps.0 in
    let yielded = no_more at.yielded (into_iter_items at.owner-iterator) all at.invariant.yields (omega (arith, none, at.invariant.counted)) in
    subst (λ l. All (IsOfCrew c.args.bound.now l) at.members.items) (sym (at.invariant.owners ∙ yielded)) at.invariant.crew

pub returns-clause-owes : goal.returns-clause-owes
returns-clause-owes g c = λ pushed.
    let case = g.C.Case.case in
    let at = c.loop-owner in
    let all = into_iter_items c.into_iter-owner-iterator.result in
    let whole : all ≡ c.args.owners.items = c.into_iter-owner-iterator.ensures.into_iter_gives.0 in
    let none = c.in-None.ensures.steps.0 in
    let yielded = no_more at.yielded (into_iter_items at.owner-iterator) all at.invariant.yields (omega (arith, none, at.invariant.counted)) in
    let counted : length at.members.items ≡ length all = sym (length-map at.members.items (λ (m : Member _ _). m.worker.owner)) ∙ ap length (at.invariant.owners ∙ yielded) in
    record {
      given = pushed_at all;
      each = at.invariant.owes;
      all = λ weight.
          ap (λ (n : ℕ). sum_by weight (given_to (pushed_at all) n)) counted
          ∙ (given_all weight all ∙ (ap (λ l. pushed_by (owner_logs l) weight) whole ∙ (pushed weight ∙ ap (λ (n : ℕ). sum_by weight (roots_to n case)) c.requires.problems)));
    }
