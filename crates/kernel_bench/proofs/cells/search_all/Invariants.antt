use Rattle.std.proofs.Common.{◌≡◌}
use Rattle.kernel_bench.proofs.cells.search_all.Given as goal

abbrev pub invariant-loop-k : goal.invariant-loop-k
invariant-loop-k g l = record { end : l.k-end ≡ (g.J.Judge.content l.fn.judge).problems }
