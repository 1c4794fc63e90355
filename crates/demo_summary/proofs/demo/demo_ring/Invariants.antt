use Rattle.std.proofs.Common.{◌≡◌, ◌++◌, ◌-◌}
use Rattle.demo_summary.specs.Demo.{positions_from}
use Rattle.demo_summary.proofs.demo.demo_ring.Given as goal

-- the positions so far, with those that are left, are all
abbrev pub invariant-loop-i : goal.invariant-loop-i
invariant-loop-i l = l.ring.items ++ positions_from l.number l.i (64 - l.i) ≡ positions_from l.number 0 64
