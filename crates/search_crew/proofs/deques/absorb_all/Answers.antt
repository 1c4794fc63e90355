use Rattle.std.proofs.Common.{◌≡◌, ℕ, ◌+◌, ◌++◌, All, Global, List, Vec, length, ◌∙◌, ap, subst, arith}
use Rattle.std.specs.List.{flat_map}
use Rattle.std.specs.Vec.Iter.{into_iter_items}
use Rattle.std.proofs.lemmas.List.Elements.{All-rest}
use Rattle.search_worker.specs.Workers.{logs_of}
use Rattle.search_crew.specs.Crews.{AreThievesOf, IsPartOfOne, WeighAs, owner_logs}
use Rattle.search_crew.proofs.Absorbing.{weigh-more}
use Rattle.search_crew.proofs.Parting.{weigh-whole}
use Rattle.task_deque.specs.declared.handles.Owner.{Owner}
use Rattle.task_deque.specs.declared.handles.Thief.{Thief}
use Rattle.task_deque.specs.Ends.{owner_log}
use Rattle.task_deque.specs.Rule.{all_parts}
use Rattle.search_crew.proofs.deques.absorb_all.Goals as goal

pub loop-thieves-preserved : goal.loop-thieves-preserved
loop-thieves-preserved g c =
    let first = c.args.owners.now.items in
    let before = c.loop-thieves.invariant in
    let steps = c.in-Some.ensures.steps in
    let rest = into_iter_items c.next.new.self in
    let long : length (into_iter_items c.loop-thieves.thieves-iterator) ≡ length rest + 1 = let e = ap length steps.0 in omega (arith, e) in
    let logs : Vec (Thief g.row.C.Denot) Global → List _ = λ t. logs_of t.items in
    let all = owner_logs first ++ flat_map logs (into_iter_items c.into_iter-thieves-iterator.result) in
    record {
      counted = omega (arith, before.counted, steps.1, long);
      same = c.absorb.ensures.same ∙ before.same;
      thieves = All-rest (λ (t : Vec (Thief g.row.C.Denot) Global). AreThievesOf first t.items × All IsPartOfOne t.items) c.in-Some.thieves rest (into_iter_items c.loop-thieves.thieves-iterator) steps.0 before.thieves;
      parts = c.absorb.ensures.parts (length rest) (subst (λ (n : ℕ). All (λ (o : Owner g.row.C.Denot). (owner_log o).parts + n ≡ all_parts) c.loop-thieves.owners.items) long before.parts);
      weigh = weigh-more (owner_logs c.absorb.new.owners.items) (owner_logs c.loop-thieves.owners.items) (logs_of c.in-Some.thieves.items) (flat_map logs rest) all c.absorb.ensures.weigh
          (subst (λ (l : List (Vec (Thief g.row.C.Denot) Global)). WeighAs (owner_logs c.loop-thieves.owners.items ++ flat_map logs l) all) steps.0 before.weigh);
    }

pub returns-clause-weigh : goal.returns-clause-weigh
returns-clause-weigh g c =
    let logs : Vec (Thief g.row.C.Denot) Global → List _ = λ t. logs_of t.items in
    let before = c.loop-thieves.invariant in
    subst (λ (l : List (Vec (Thief g.row.C.Denot) Global)). WeighAs (owner_logs c.loop-thieves.owners.items) (owner_logs c.args.owners.now.items ++ flat_map logs l)) c.into_iter-thieves-iterator.ensures.into_iter_gives.0
    (weigh-whole logs (into_iter_items c.loop-thieves.thieves-iterator) (owner_logs c.loop-thieves.owners.items) _ (omega (arith, before.counted, c.in-None.ensures.steps.0)) before.weigh)
