use Rattle.std.proofs.Common.{◌≡◌, ◌<◌, ◌-◌, rules, false, length, arith}
use Rattle.std.proofs.lemmas.Bool.{false≢true}
use Rattle.std.proofs.lemmas.List.{get_or-map, get_or_default, length-map}
use Rattle.std.proofs.lemmas.List.Sorted.{IsPermutation-refl}
use Rattle.cell_split.specs.declared.cell.Cell.{Cell}
use Rattle.plain_search.specs.declared.quarters.Quarter.{Quarter}
use Rattle.plain_search.specs.Quarters.{cells_of}
use Rattle.search_worker.proofs.Law.{owes-children, owes-cut, owes-next}
use Rattle.search_worker.proofs.Sameness.{same_further, same_itself, still_worker}
use Rattle.search_worker.proofs.Trees.{asked, child_in_tree, is_cell, quarter_in_tree}
use Rattle.search_worker.proofs.worker.Worker.+works.Goals as goal

pub work-is_spared-requires-clause-problem : goal.work-is_spared-requires-clause-problem
work-is_spared-requires-clause-problem g t c =
    let is = asked c.requires.case (g.met.J.Judge.lawful c.args.judge.now) c.requires.job.in_tree in
    omega (arith, is.known, c.requires.count)

pub work-returns-then-is_spared-clause-owes : goal.work-returns-then-is_spared-clause-owes
work-returns-then-is_spared-clause-owes g t c =
    let is = asked c.requires.case (g.met.J.Judge.lawful c.args.judge.now) c.requires.job.in_tree in
    λ logs given hand splits owes. owes-cut g.C.Case.case _ given _ _ hand c.args.job.task splits is (c.is_spared.ensures.spared c.if-is_spared.true) (c.is_spared.ensures.owes logs given _ owes)

pub work-judge-requires : goal.work-judge-requires
work-judge-requires g t c =
    rw c.requires.case (asked c.requires.case (g.met.J.Judge.lawful c.args.judge.now) c.requires.job.in_tree)

pub work_judged-keep-requires-clause-task : goal.work_judged-keep-requires-clause-task
work_judged-keep-requires-clause-task g t c =
    asked c.requires.case (g.met.J.Judge.lawful c.args.judge.now) c.requires.in_tree

pub hand_on_children-children-below-requires : goal.hand_on_children-children-below-requires
hand_on_children-children-below-requires g t c =
    let content = g.J.Judge.content c.args.judge.now in
    let law = g.met.J.Judge.lawful c.args.judge.now in
    is_cell content law c.args.task (rw c.requires.case (asked c.requires.case law c.requires.in_tree))

pub hand_on_quarter-is_spared-requires-clause-problem : goal.hand_on_quarter-is_spared-requires-clause-problem
hand_on_quarter-is_spared-requires-clause-problem g t c =
    let is = asked c.requires.case (g.met.J.Judge.lawful c.args.judge.now) c.requires.in_tree in
    omega (arith, is.known, c.requires.count)

pub hand_on_quarter-returns-then-is_spared-clause-owes : goal.hand_on_quarter-returns-then-is_spared-clause-owes
hand_on_quarter-returns-then-is_spared-clause-owes g t c =
    let is = asked c.requires.case (g.met.J.Judge.lawful c.args.judge.now) c.requires.in_tree in
    λ logs given hand splits owes. owes-cut g.C.Case.case _ given _ _ hand c.args.task splits is (c.is_spared.ensures.spared c.if-is_spared.true) (c.is_spared.ensures.owes logs given _ owes)

pub hand_on_quarter-keep-requires-clause-task : goal.hand_on_quarter-keep-requires-clause-task
hand_on_quarter-keep-requires-clause-task g t c =
    asked c.requires.case (g.met.J.Judge.lawful c.args.judge.now) c.requires.in_tree

pub hand_on_quarters-quarters_from_last-quarters-requires-clause-task : goal.hand_on_quarters-quarters_from_last-quarters-requires-clause-task
hand_on_quarters-quarters_from_last-quarters-requires-clause-task g t c =
    rw c.requires.case (asked c.requires.case (g.met.J.Judge.lawful c.args.judge.now) c.requires.in_tree)

pub hand_on_quarters-loop-i-init : goal.hand_on_quarters-loop-i-init
hand_on_quarters-loop-i-init g t c =
    let items = c.quarters_from_last-quarters.result in
    let four : length items ≡ 4 = search rules in
    record {
      same = c.has_enough.ensures.same;
      left = λ logs given hand splits owes.
          owes-children g.C.Case.case _ given _ _ hand c.args.task splits (cells_of items) 4 c.requires.split c.quarters_from_last-quarters.ensures.cells
          (omega (arith, four, length-map items (λ (q : Quarter). q.cell))) (c.has_enough.ensures.owes logs given _ owes);
    }

pub hand_on_quarters-hand_on_quarter-requires : goal.hand_on_quarters-hand_on_quarter-requires
hand_on_quarters-hand_on_quarter-requires g t c κs within =
    let case = g.C.Case.case in
    let items = c.quarters_from_last-quarters.result in
    let i = c.loop-i.i - 1 in
    let four : length items ≡ 4 = search rules in
    let inside : i < length items = omega (arith, four, c.loop-i-test.true, c.loop-i.auto.i) in
    let is = asked c.requires.case (g.met.J.Judge.lawful c.args.judge.now) c.requires.in_tree in
    let child = quarter_in_tree case c.args.task items i c.index-quarters-i.result is c.requires.in_tree c.requires.split c.quarters_from_last-quarters.ensures.cells inside in
    let fewer = child.1 in
    let verdict = rw c.requires.case at (c.quarters_from_last-quarters.ensures.verdicts i c.index-quarters-i.result inside).is in
    (search (rules, fewer, c.decreases), (search (rules, within), (search (rules, within), (search (rules, within), (search (rules, within), (c.requires.case, (c.requires.count, (still_worker c.args.bound.now c.args.self.now c.loop-i.self c.requires.worker c.loop-i.invariant.same, (child.0, verdict)))))))))

pub hand_on_quarters-loop-i-preserved : goal.hand_on_quarters-loop-i-preserved
hand_on_quarters-loop-i-preserved g t c =
    let items = c.quarters_from_last-quarters.result in
    let four : length items ≡ 4 = search rules in
    let cell : Quarter → Cell = λ q. q.cell in
    record {
      same = same_further c.args.bound.now c.args.self.now c.loop-i.self c.hand_on_quarter.new.self c.loop-i.invariant.same c.in_ok-hand_on_quarter.ensures.same;
      left = λ logs given hand splits owes.
          c.in_ok-hand_on_quarter.ensures.owes logs given _ false
          (owes-next g.C.Case.case _ given _ _ hand c.args.task.problem (cells_of items) c.loop-i.i _ c.loop-i-test.true (omega (arith, four, c.loop-i.auto.i, length-map items cell))
          (get_or-map cell items (c.loop-i.i - 1) _ _ (omega (arith, four, c.loop-i.auto.i, c.loop-i-test.true))) (c.loop-i.invariant.left logs given hand splits owes));
    }

pub hand_on_halves-loop-i-init : goal.hand_on_halves-loop-i-init
hand_on_halves-loop-i-init g t c = record {
  same = same_itself c.args.bound.now c.args.self.now c.requires.worker;
  left = λ logs given hand splits owes. owes-children g.C.Case.case _ given _ _ hand c.args.task splits c.args.halves.now _ c.requires.split (rw c.requires.halves (IsPermutation-refl _)) (omega arith) owes;
}

pub hand_on_halves-hand_on-requires : goal.hand_on_halves-hand_on-requires
hand_on_halves-hand_on-requires g t c κs within =
    let case = g.C.Case.case in
    let i = c.loop-i.i - 1 in
    let inside : i < length c.args.halves.now = omega (arith, c.loop-i-test.true, c.loop-i.auto.i) in
    let is = asked c.requires.case (g.met.J.Judge.lawful c.args.judge.now) c.requires.in_tree in
    let child = child_in_tree case c.args.task c.args.halves.now i _ is c.requires.in_tree c.requires.split (rw c.requires.halves (IsPermutation-refl _)) inside in
    let fewer = child.1 in
    (search (rules, fewer, c.decreases), (search (rules, within), (search (rules, within), (search (rules, within), (search (rules, within), (c.requires.case, (c.requires.count, (still_worker c.args.bound.now c.args.self.now c.loop-i.self c.requires.worker c.loop-i.invariant.same, record { in_tree = child.0; known = λ split. absurd (false≢true split) }))))))))

pub hand_on_halves-loop-i-preserved : goal.hand_on_halves-loop-i-preserved
hand_on_halves-loop-i-preserved g t c = record {
  same = same_further c.args.bound.now c.args.self.now c.loop-i.self c.hand_on.new.self c.loop-i.invariant.same c.in_ok-hand_on.ensures.same;
  left = λ logs given hand splits owes.
      c.in_ok-hand_on.ensures.owes logs given _ false
      (owes-next g.C.Case.case _ given _ _ hand c.args.task.problem c.args.halves.now c.loop-i.i _ c.loop-i-test.true c.loop-i.auto.i (get_or_default c.args.halves.now (c.loop-i.i - 1) _ _ (omega (arith, c.loop-i.auto.i, c.loop-i-test.true)))
      (c.loop-i.invariant.left logs given hand splits owes));
}
