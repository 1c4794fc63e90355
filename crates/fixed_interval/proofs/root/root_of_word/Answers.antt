use Rattle.std.proofs.Common.{sym, arith}
use Rattle.fixed_interval.proofs.RootLaws.{whole_root_unique}
use Rattle.fixed_interval.proofs.Newton.{positive, starts_above, step_above, step_falls}
use Rattle.fixed_interval.proofs.root.root_of_word.Goals as goal

pub loop-root-init : goal.loop-root-init
loop-root-init c = let start = starts_above c.args.n (omega arith) in record { above = start.0; in_half = start.1 }

pub loop-root-preserved : goal.loop-root-preserved
loop-root-preserved c = record {
  above = step_above c.args.n c.loop-root.root (positive c.args.n c.loop-root.root c.loop-root-test.true);
  in_half = omega (arith, step_falls c.args.n c.loop-root.root c.loop-root-test.true, c.loop-root.invariant.in_half);
}

pub returns-clause-value : goal.returns-clause-value
returns-clause-value c = sym (whole_root_unique c.args.n c.loop-root.root (omega (arith, c.loop-root-test.false)) c.loop-root.invariant.above)
