use Rattle.std.proofs.Common.{◌≡◌, ℕ, ◌+◌, ◌-◌, [], All, ◌∙◌, subst, arith, rules}
use Rattle.std.proofs.lemmas.List.Elements.{All-push}
use Rattle.search_crew.specs.Crews.{AreThievesOf}
use Rattle.task_deque.specs.Ends.{owner_log, thief_log}
use Rattle.task_deque.specs.Rule.{all_parts, log}
use Rattle.search_crew.proofs.deques.thieves_for_all.Goals as goal

pub loop-preserved : goal.loop-preserved
loop-preserved g c =
    let at = c.loop in
    let first = c.args.owners.now.items in
    let thieves = c.in_ok-thieves_of.field-0 in
    let one : all_parts - at.counter ≡ (all_parts - (at.counter + 1)) + 1 = let lt = c.loop-test.true in let few = c.requires.few in let end = c.len-end.ensures in omega arith in
    let blank = c.in_ok-thieves_of.ensures.blank (all_parts - (at.counter + 1)) (subst (λ (n : ℕ). All (λ o. owner_log o ≡ log n [] []) at.owners.items) one at.invariant.owners) in
    record {
      few = search rules;
      counted = search rules;
      same = c.in_ok-thieves_of.ensures.same ∙ at.invariant.same;
      thieves = rw c.in_ok-push.ensures.items
          (All-push (λ thieves. AreThievesOf first thieves.items × All (λ t. thief_log t ≡ log 1 [] []) thieves.items) at.all.items thieves at.invariant.thieves (c.in_ok-thieves_of.ensures.thieves ∙ at.invariant.same, blank.1));
      owners = blank.0;
    }
