use Rattle.std.proofs.Common.{◌≡◌, ◌<◌, None, slice_index_or, ap₂, ◌∙◌, arith, rules}
use Rattle.std.proofs.lemmas.List.{get_or_default}
use Rattle.plain_search.specs.Harvests.{ordinal_of}
use Rattle.plain_search.specs.TopRanks.{above}
use Rattle.plain_search.specs.declared.ranks_alone.TopRanks.{TopRanks}
use Rattle.steal_pool.proofs.Finding.{IsTopOf, top_ordinals}
use Rattle.search_crew.proofs.Places.{each_push}
use Rattle.steal_pool.proofs.calls.top_ranks_of.Goals as goal

pub loop-problem-preserved : goal.loop-problem-preserved
loop-problem-preserved g c =
    let at = c.loop-problem in
    let found = c.args.found.now in
    let known : at.problem < (g.J.Judge.content c.args.judge.now).problems = search rules in
    let first = c.index.ensures ∙ get_or_default found.ranks.items at.problem _ None (omega (arith, known, c.requires.harvest.counted)) in
    let second = c.index-in-loop-problem.ensures ∙ get_or_default found.store.ranks.items at.problem _ None (omega (arith, known, c.requires.held.counted)) in
    record {
      end = search rules;
      counted = search rules;
      each = rw c.in_ok-push.ensures.items
          (each_push (λ k (top : TopRanks). IsTopOf (slice_index_or found.ranks.items k None) (slice_index_or found.store.ranks.items k None) top) at.tops.items c.of.result at.problem at.invariant.counted at.invariant.each
          (record {
            same = c.of.ensures.refuted ∙ first;
            left_open = c.of.ensures.left_open ∙ ap₂ (λ r o. above (ordinal_of r) (ordinal_of o)) first second;
          }));
    }

pub returns : goal.returns
returns g c =
    let content = g.J.Judge.content c.args.judge.now in
    let at = c.loop-problem in
    let all : at.problem ≡ content.problems = search rules in
    top_ordinals content c.args.found.now.ranks.items c.args.found.now.store.ranks.items at.tops.items (g.met.J.Judge.lawful c.args.judge.now) c.requires (at.invariant.counted ∙ all) (λ k d known. at.invariant.each k d (omega (arith, all, known)))
