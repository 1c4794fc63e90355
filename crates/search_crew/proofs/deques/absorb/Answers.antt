use Rattle.std.proofs.Common.{◌≡◌, ℕ, ◌+◌, ◌++◌, List, length, get_or, set, sym, ap, ◌∙◌, subst, arith}
use Rattle.search_crew.proofs.Absorbing.{Absorbs, absorbs-fits, absorbs-none, absorbs-one, absorbs-parts, absorbs-weigh}
use Rattle.search_crew.proofs.deques.absorb.Goals as goal
use Rattle.task_deque.specs.declared.handles.Owner.{Owner}
use Rattle.task_deque.specs.declared.handles.Thief.{Thief}
use Rattle.task_deque.specs.Ends.{IsThiefOf, SameOwner, owner_log, thief_log}
use Rattle.task_deque.specs.Rule.{log}

pub loop-thief-init : goal.loop-thief-init
loop-thief-init g c = absorbs-none c.args.owners.now.items c.args.thieves.items c.requires.thieves c.requires.single

pub absorb-requires : goal.absorb-requires
absorb-requires g c =
    let owners = c.loop-thief.owners.items in
    let left = c.pop.new.self.items in
    let old = c.index_mut.result.now in
    let long : c.len.result ≡ length left = omega (arith, c.len.ensures) in
    let here : old ≡ get_or owners (length left) old = c.index_mut.ensures.value ∙ ap (λ (n : ℕ). get_or owners n old) long in
    let before = subst (λ (l : List (Thief g.row.C.Denot)). Absorbs c.args.owners.now.items owners c.args.thieves.items l) c.in-Some.ensures.items c.loop-thief.invariant in
    subst (λ (o : Owner g.row.C.Denot). IsThiefOf o c.in-Some.thief) (sym here) (absorbs-fits c.args.owners.now.items owners c.args.thieves.items left c.in-Some.thief old before)

pub loop-thief-preserved : goal.loop-thief-preserved
loop-thief-preserved g c =
    let owners = c.loop-thief.owners.items in
    let left = c.pop.new.self.items in
    let old = c.index_mut.result.now in
    let new = c.absorb.new.self in
    let thief = c.in-Some.thief in
    let long : c.len.result ≡ length left = omega (arith, c.len.ensures) in
    let here : old ≡ get_or owners (length left) old = c.index_mut.ensures.value ∙ ap (λ (n : ℕ). get_or owners n old) long in
    let before = subst (λ (l : List (Thief g.row.C.Denot)). Absorbs c.args.owners.now.items owners c.args.thieves.items l) c.in-Some.ensures.items c.loop-thief.invariant in
    let moved = subst
    (λ (o : Owner g.row.C.Denot). SameOwner o new × (owner_log new ≡ log ((owner_log o).parts + (thief_log thief).parts) ((owner_log o).pushed ++ (thief_log thief).pushed) ((owner_log o).taken ++ (thief_log thief).taken)))
    here (c.absorb.ensures.same, c.absorb.ensures.both) in
    subst (λ (n : ℕ). Absorbs c.args.owners.now.items (set owners n new) c.args.thieves.items left) (sym long)
    (absorbs-one c.args.owners.now.items owners c.args.thieves.items left thief old new before moved.0 moved.1)

pub returns-clause-parts : goal.returns-clause-parts
returns-clause-parts g c = λ n each.
    absorbs-parts c.args.owners.now.items c.loop-thief.owners.items c.args.thieves.items c.loop-thief.thieves.items n c.loop-thief.invariant (omega (arith, c.in_default.ensures.cases.0)) each

pub returns-clause-weigh : goal.returns-clause-weigh
returns-clause-weigh g c =
    absorbs-weigh c.args.owners.now.items c.loop-thief.owners.items c.args.thieves.items c.loop-thief.thieves.items (omega (arith, c.in_default.ensures.cases.0)) c.loop-thief.invariant
