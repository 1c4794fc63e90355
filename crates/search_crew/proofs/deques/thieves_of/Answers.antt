use Rattle.std.proofs.Common.{◌≡◌, ◌++◌, ◌<◌, drop, length, subst, sym, take, rules}
use Rattle.std.proofs.lemmas.List.Elements.{All-get_or}
use Rattle.search_crew.proofs.Dealing.{hands-all, hands-next, hands-none, hands-one}
use Rattle.search_crew.proofs.Places.{written_over}
use Rattle.task_deque.specs.Ends.{owner_log}
use Rattle.search_crew.proofs.deques.thieves_of.Goals as goal

pub thief-requires : goal.thief-requires
thief-requires g c =
    let at = c.loop-owner in
    let first = c.deref_mut-owner-items.result.now in
    let d = c.owner-item.result in
    let all = c.requires in
    subst (λ o. 1 < (owner_log o).parts) (sym (hands-next first at.owner-items at.owner-index at.thieves.items d at.invariant))
    (All-get_or (λ o. 1 < (owner_log o).parts) first at.owner-index d c.loop-owner-test.true (rw c.deref_mut-owner-items.ensures.value all))

pub loop-owner-init : goal.loop-owner-init
loop-owner-init g c = rw c.new-thieves.ensures.items (hands-none c.deref_mut-owner-items.result.now)

pub loop-owner-preserved : goal.loop-owner-preserved
loop-owner-preserved g c =
    let at = c.loop-owner in
    let first = c.deref_mut-owner-items.result.now in
    let inside : at.owner-index < length at.owner-items = search rules in
    rw c.in_ok-push.ensures.items
    (hands-one first at.owner-items at.owner-index at.thieves.items c.owner-item.result c.thief.new.self c.in_ok-thief.field-0 inside at.invariant c.in_ok-thief.ensures.same c.in_ok-thief.ensures.owner c.in_ok-thief.ensures.thief)

pub returns-clause-same : goal.returns-clause-same
returns-clause-same g c =
    let items = c.loop-owner.owner-items in
    let first = c.args.owners.now.items in
    let whole : take c.args.owners.now.len (items ++ drop (length items) first) ≡ items = written_over items first c.args.owners.now.len (search rules) (search rules) in
    rw (whole, ← c.deref_mut-owner-items.ensures.value) c.loop-owner.invariant.same

pub returns-clause-thieves : goal.returns-clause-thieves
returns-clause-thieves g c =
    let at = c.loop-owner in
    rw (← c.deref_mut-owner-items.ensures.value) (hands-all c.deref_mut-owner-items.result.now at.owner-items at.owner-index at.thieves.items c.loop-owner-test.false at.invariant).0

pub returns-clause-blank : goal.returns-clause-blank
returns-clause-blank g c =
    let at = c.loop-owner in
    let items = at.owner-items in
    let first = c.args.owners.now.items in
    let whole : take c.args.owners.now.len (items ++ drop (length items) first) ≡ items = written_over items first c.args.owners.now.len (search rules) (search rules) in
    rw whole (rw c.deref_mut-owner-items.ensures.value at (hands-all c.deref_mut-owner-items.result.now at.owner-items at.owner-index at.thieves.items c.loop-owner-test.false at.invariant).1)
