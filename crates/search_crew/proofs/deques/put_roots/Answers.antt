use Rattle.std.proofs.Common.{◌≡◌, ℕ, ◌<◌, ◌%◌, ◌∷◌, [], ◌++◌, false, get_or, length, sum_by, refl, sym, ap, ◌∙◌, subst, add-one, arith, rules}
use Rattle.std.proofs.Math.Nat.{mod-lt}
use Rattle.std.proofs.lemmas.Bool.{false≢true}
use Rattle.std.proofs.lemmas.List.Elements.{recursion_from_All}
use Rattle.std.proofs.lemmas.List.Sums.{sum_by_push}
use Rattle.cell_split.specs.declared.cell.Cell.{Cell}
use Rattle.cell_split.specs.Tree.{InTree, task_of, top}
use Rattle.search_worker.specs.Owing.{job_of}
use Rattle.search_crew.specs.Crews.{roots_to}
use Rattle.search_crew.proofs.Dealing.{pushed_set, same_length, same_set, shared_set, unpushed_none}
use Rattle.task_deque.specs.Ends.{SameOwner, owner_log}
use Rattle.task_deque.specs.Rule.{log}
use Rattle.search_crew.proofs.deques.put_roots.Goals as goal

pub loop-problem-init : goal.loop-problem-init
loop-problem-init g c =
    let owners = c.args.owners.now.items in
    record {
      end = omega arith;
      same = refl;
      shared = c.requires.shared;
      pushed = λ weight. unpushed_none weight owners (recursion_from_All (λ o. (owner_log o).pushed ≡ []) owners c.requires.unpushed);
    }

pub put-requires-clause-job : goal.put-requires-clause-job
put-requires-clause-job g c =
    let case = g.C.Case.case in
    let at = c.loop-problem in
    let known : at.problem < case.problems = let lt = c.loop-problem-test.true in let e = c.requires.problems in omega arith in
    record {
      in_tree = subst (λ (cell : Cell). InTree case (task_of at.problem cell)) (sym c.requires.root) (top at.problem known);
      known = λ e. absurd (false≢true e);
    }

pub loop-problem-preserved : goal.loop-problem-preserved
loop-problem-preserved g c =
    let case = g.C.Case.case in
    let at = c.loop-problem in
    let owners = at.owners.items in
    let i = at.problem % c.len.result in
    let d = c.index_mut.result.now in
    let new = c.put.new.owner in
    let job = job_of (task_of at.problem c.args.root) false in
    let count : c.len.result ≡ length owners = search rules in
    let long = same_length c.args.owners.now.items owners at.invariant.same in
    let below = mod-lt at.problem {m = c.len.result} (omega (arith, count, long, c.requires.some)) in
    let inside : i < length owners = omega (arith, below, count) in
    let same : SameOwner (get_or owners i d) new = subst (λ o. SameOwner o new) c.index_mut.ensures.value c.in_ok-put.ensures.same in
    let is = subst (λ o. owner_log new ≡ log (owner_log o).parts ((owner_log o).pushed ++ job ∷ []) (owner_log o).taken) c.index_mut.ensures.value c.in_ok-put.ensures.pushed in
    record {
      end = search rules;
      same = same_set owners i d new same ∙ at.invariant.same;
      shared = shared_set owners (length c.args.owners.now.items) i d new job inside is at.invariant.shared;
      pushed = λ weight.
          let own : weight job ≡ weight (job_of (task_of at.problem case.root) false) = ap (λ (cell : Cell). weight (job_of (task_of at.problem cell) false)) c.requires.root in
          let next = ap (λ (n : ℕ). sum_by weight (roots_to n case)) (add-one at.problem) in
          let more = sum_by_push weight (roots_to at.problem case) (job_of (task_of at.problem case.root) false) in
          omega (arith, own, next, more, at.invariant.pushed weight, pushed_set weight owners i d new job inside is);
    }
