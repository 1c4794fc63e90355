use Rattle.std.proofs.Common.{◌<◌, ◌+◌, ◌%◌, ◌∙◌, ap, length, sym, arith}
use Rattle.std.proofs.Math.Nat.{mod-lt}
use Rattle.std.proofs.lemmas.List.{length-set}
use Rattle.crossbeam_deque.specs.Handles.{stealer_deque}
use Rattle.task_deque.specs.declared.handles.Thief.{Thief}
use Rattle.task_deque.specs.declared.rule.Log.{Log}
use Rattle.task_deque.specs.Ends.{thief_log}
use Rattle.search_worker.proofs.Handles.{part_at, same_of_all, takes_one}
use Rattle.search_worker.proofs.thefts.steal.Goals as goal

pub steal-requires : goal.steal-requires
steal-requires g c =
    let inside : (c.args.own + 1 + c.loop-i.i) % c.len-count.result < length c.loop-i.thieves.items = omega (arith, mod-lt (c.args.own + 1 + c.loop-i.i) {m = c.len-count.result} (omega (arith, c.loop-i-test.true)), c.loop-i.invariant.counted, c.len-count.ensures) in
    part_at c.loop-i.thieves.items _ c.index_mut.result.now (rw c.loop-i.invariant.parts c.requires) inside c.index_mut.ensures.value

pub returns-in-Some-clause-deques : goal.returns-in-Some-clause-deques
returns-in-Some-clause-deques g c =
    same_of_all (λ (t : Thief g.row.C.Denot). stealer_deque t.stealer) c.loop-i.thieves.items _ c.index_mut.result.now c.steal.new.self c.index_mut.ensures.value c.in-Some.ensures.same ∙ c.loop-i.invariant.deques

pub returns-in-Some-clause-parts : goal.returns-in-Some-clause-parts
returns-in-Some-clause-parts g c =
    same_of_all (λ (t : Thief g.row.C.Denot). (thief_log t).parts) c.loop-i.thieves.items _ c.index_mut.result.now c.steal.new.self c.index_mut.ensures.value
    (ap (λ (v : Log). v.parts) c.in-Some.ensures.stolen.1) ∙ c.loop-i.invariant.parts

pub returns-in-Some-clause-stolen : goal.returns-in-Some-clause-stolen
returns-in-Some-clause-stolen g c =
    let inside : (c.args.own + 1 + c.loop-i.i) % c.len-count.result < length c.loop-i.thieves.items = omega (arith, mod-lt (c.args.own + 1 + c.loop-i.i) {m = c.len-count.result} (omega (arith, c.loop-i-test.true)), c.loop-i.invariant.counted, c.len-count.ensures) in
    let one = takes_one c.loop-i.thieves.items _ c.index_mut.result.now c.steal.new.self c.in-Some.job inside c.index_mut.ensures.value c.in-Some.ensures.stolen.1 in
    (c.in-Some.ensures.stolen.0, rw (sym c.loop-i.invariant.logs) one)

pub loop-i-preserved : goal.loop-i-preserved
loop-i-preserved g c = record {
  counted = length-set c.loop-i.thieves.items _ c.steal.new.self ∙ c.loop-i.invariant.counted;
  deques = same_of_all (λ (t : Thief g.row.C.Denot). stealer_deque t.stealer) c.loop-i.thieves.items _ c.index_mut.result.now c.steal.new.self c.index_mut.ensures.value c.in-None.ensures.same ∙ c.loop-i.invariant.deques;
  parts = same_of_all (λ (t : Thief g.row.C.Denot). (thief_log t).parts) c.loop-i.thieves.items _ c.index_mut.result.now c.steal.new.self c.index_mut.ensures.value (ap (λ (v : Log). v.parts) c.in-None.ensures.stolen) ∙ c.loop-i.invariant.parts;
  logs = same_of_all (λ (t : Thief g.row.C.Denot). thief_log t) c.loop-i.thieves.items _ c.index_mut.result.now c.steal.new.self c.index_mut.ensures.value c.in-None.ensures.stolen ∙ c.loop-i.invariant.logs;
}
