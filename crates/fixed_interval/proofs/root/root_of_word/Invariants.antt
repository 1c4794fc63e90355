use Rattle.std.proofs.Common.{◌+◌, ◌*◌, ◌^◌, ◌<◌}
use Rattle.fixed_interval.proofs.root.root_of_word.Given as goal

abbrev pub invariant-loop-root : goal.invariant-loop-root
invariant-loop-root l = record {
  above : l.fn.n < (l.root + 1) * (l.root + 1);
  in_half : l.root < 2 ^ 32;
}

abbrev pub decreases-loop-root : goal.decreases-loop-root
decreases-loop-root l = l.root
