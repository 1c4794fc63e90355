use Rattle.std.proofs.Common.{◌≡◌, ◌∙◌, arith, rules}
use Rattle.cell_split.specs.Tree.{leaves, root_task}
use Rattle.plain_search.specs.declared.ranks_alone.TopRanks.{TopRanks}
use Rattle.plain_search.specs.Harvests.{ordinal_of}
use Rattle.plain_search.specs.TopRanks.{AreTopOrdinals}
use Rattle.search_crew.proofs.Places.{each_push}
use Rattle.steal_pool.proofs.calls.ranks_in_turn.Goals as goal

pub loop-problem-preserved : goal.loop-problem-preserved
loop-problem-preserved g c =
    let content = g.J.Judge.content c.args.judge.now in
    let at = c.loop-problem in
    record {
      end = search rules;
      counted = search rules;
      each = rw c.in_ok-push.ensures.items
          (each_push (λ k (x : TopRanks). AreTopOrdinals (leaves content (root_task content k)) (ordinal_of x.refuted) (ordinal_of x.left_open)) at.found.items c.top_ranks.result at.problem at.invariant.counted at.invariant.each c.top_ranks.ensures);
    }

pub returns : goal.returns
returns g c =
    let content = g.J.Judge.content c.args.judge.now in
    let all : c.loop-problem.problem ≡ content.problems = search rules in
    record { counted = c.loop-problem.invariant.counted ∙ all; each = λ k d known. c.loop-problem.invariant.each k d (omega arith) }
