use Rattle.std.proofs.Common.{length, ap, arith}
use Rattle.search_worker.proofs.Opened.{opened-both}
use Rattle.search_worker.proofs.open_ranks.OpenRanksStore.join.Goals as goal

pub returns : goal.returns
returns c =
    let all = ap length c.deref-rank-items.ensures.value in
    λ problems kept others one two.
    opened-both problems _ _ _ kept others c.loop-problem.invariant.counted (λ k here there. c.loop-problem.invariant.before k (omega (arith, there, all, c.loop-problem-test.false)) here) one two
