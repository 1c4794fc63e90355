use Rattle.std.proofs.Common.{◌≡◌, ℕ, ◌+◌, ◌<◌, [], ◌∷◌, ◌++◌, All, append_assoc, length, length-append, get_or, refl, sym, ap, ◌∙◌, subst, sum_by, add-one, arith}
use Rattle.std.specs.List.{flat_map}
use Rattle.std.specs.Vec.Iter.{into_iter_items}
use Rattle.std.proofs.Math.Seq.{get_or-append_seam}
use Rattle.std.proofs.lemmas.List.{length-map, map-append}
use Rattle.std.proofs.lemmas.List.Elements.{All-map, All-push, All-weaker}
use Rattle.search_worker.specs.declared.member.Member.{Member}
use Rattle.search_worker.specs.Workers.{MemberOwes, logs_of}
use Rattle.search_crew.specs.Crews.{AreThievesOf, IsOfCrew, IsPartOfOne, given_to, owner_logs, owners_in, roots_to}
use Rattle.search_crew.proofs.Joining.{owes-as}
use Rattle.search_crew.proofs.Parting.{weigh-part}
use Rattle.search_crew.proofs.Places.{at_seam, no_more}
use Rattle.task_deque.specs.declared.handles.Owner.{Owner}
use Rattle.task_deque.specs.Ends.{owner_log}
use Rattle.task_deque.specs.Rule.{all_parts}
use Rattle.search_crew.proofs.ending.apart.Goals as goal

pub loop-member-preserved : goal.loop-member-preserved
loop-member-preserved g c =
    let case = g.C.Case.case in
    let keeps = g.S.Store.keeps case.problems in
    let at = c.loop-member in
    let m = c.in-Some.member in
    let rest = into_iter_items c.next.new.self in
    let all = into_iter_items c.into_iter-member-iterator.result in
    let whole : all ≡ c.args.members.items = c.into_iter-member-iterator.ensures.into_iter_gives.0 in
    let steps : into_iter_items at.member-iterator ≡ m ∷ rest = c.in-Some.ensures.steps.0 in
    let seam : at.yielded ++ m ∷ rest ≡ all = rw (← steps) at.invariant.yields in
    let n = length at.yielded in
    let inside : n < length all = let long = ap length seam in omega (arith, long, length-append at.yielded (m ∷ rest)) in
    let is = at_seam (IsOfCrew c.args.bound.now (owners_in all)) at.yielded m rest all seam (rw whole c.requires.crew) in
    let owner = m.worker.owner in
    record {
      yields = append_assoc at.yielded (m ∷ []) rest ∙ seam;
      counted = let before = at.invariant.counted in let gone = c.in-Some.ensures.steps.1 in let short = ap length steps in omega arith;
      seat = c.in_ok-take_in.ensures.seat;
      owners = c.in_ok-push.ensures.items ∙ (ap (λ l. l ++ owner ∷ []) at.invariant.owners ∙ sym (map-append (λ (m : Member _ _). m.worker.owner) at.yielded (m ∷ [])));
      lists = rw c.in_ok-push-2.ensures.items (omega (arith, at.invariant.lists, length-append at.thieves.items (m.thieves ∷ []), length-append at.yielded (m ∷ [])));
      thieves = rw c.in_ok-push-2.ensures.items
          (All-push (λ thieves. AreThievesOf (owners_in all) thieves.items × All IsPartOfOne thieves.items) at.thieves.items m.thieves at.invariant.thieves (is.thieves, is.single));
      owes = λ given each.
          let before = at.invariant.owes given each in
          let element : get_or all n m ≡ m = ap (λ l. get_or l n m) (sym seam) ∙ get_or-append_seam at.yielded m rest m in
          let own = subst (λ m. MemberOwes case keeps m (given n) []) element (each n m inside) in
          let logs = owner_logs at.owners.items ++ flat_map (λ thieves. logs_of thieves.items) at.thieves.items in
          let both = c.in_ok-take_in.ensures.owes logs (owner_log owner ∷ logs_of m.thieves.items) (given_to given n) (given n) before own in
          let more : length (at.yielded ++ m ∷ []) ≡ n + 1 = length-append at.yielded (m ∷ []) in
          rw (c.in_ok-push.ensures.items, c.in_ok-push-2.ensures.items, more ∙ add-one n)
          (owes-as case (keeps _) _ _ _ _ _ (weigh-part (λ thieves. logs_of thieves.items) at.owners.items owner at.thieves.items m.thieves) (λ weight. refl) both);
    }

pub returns-clause-ended : goal.returns-clause-ended
returns-clause-ended g c =
    let at = c.loop-member in
    let all = into_iter_items c.into_iter-member-iterator.result in
    let whole : all ≡ c.args.members.items = c.into_iter-member-iterator.ensures.into_iter_gives.0 in
    let none = c.in-None.ensures.steps.0 in
    let yielded = no_more at.yielded (into_iter_items at.member-iterator) all at.invariant.yields (omega (arith, none, at.invariant.counted)) in
    let counted = ap length yielded in
    let own : Member _ _ → Owner _ = λ m. m.worker.owner in
    let owners : at.owners.items ≡ owners_in all = at.invariant.owners ∙ ap owners_in yielded in
    record {
      seat = at.invariant.seat;
      parts = rw owners
          (All-map (λ o. (owner_log o).parts + length at.thieves.items ≡ all_parts) own all
          (All-weaker (IsOfCrew c.args.bound.now (owners_in all)) (λ m. (owner_log m.worker.owner).parts + length at.thieves.items ≡ all_parts)
          (λ m is. let parts = is.parts in omega (arith, parts, at.invariant.lists, counted, length-map all own)) all (rw whole c.requires.crew)));
      thieves = rw owners at.invariant.thieves;
    }

pub returns-clause-owes : goal.returns-clause-owes
returns-clause-owes g c = λ roots.
    let case = g.C.Case.case in
    let keeps = g.S.Store.keeps case.problems in
    let at = c.loop-member in
    let all = into_iter_items c.into_iter-member-iterator.result in
    let whole : all ≡ c.args.members.items = c.into_iter-member-iterator.ensures.into_iter_gives.0 in
    let none = c.in-None.ensures.steps.0 in
    let yielded = no_more at.yielded (into_iter_items at.member-iterator) all at.invariant.yields (omega (arith, none, at.invariant.counted)) in
    let counted : length at.yielded ≡ length c.args.members.items = ap length (yielded ∙ whole) in
    owes-as case (keeps at.joined.store) _ _ _ _ _ (record { pushed = λ weight. refl; taken = λ weight. refl })
    (λ weight. ap (λ (n : ℕ). sum_by weight (roots_to n case)) c.requires.problems ∙ (sym (roots.all weight) ∙ ap (λ (n : ℕ). sum_by weight (given_to roots.given n)) (sym counted)))
    (at.invariant.owes roots.given (rw whole roots.each))
