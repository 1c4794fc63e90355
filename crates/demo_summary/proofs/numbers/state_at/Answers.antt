use Rattle.std.proofs.Common.{arith}
use Rattle.demo_summary.proofs.NumberLemmas.{state_first, state_more}
use Rattle.demo_summary.proofs.numbers.state_at.Goals as goal

pub loop-step-init : goal.loop-step-init
loop-step-init c = record { value = state_first c.args.number; small = omega arith }

pub loop-step-preserved : goal.loop-step-preserved
loop-step-preserved c = record {
  value = state_more c.args.number c.loop-step.step c.loop-step.x c.next_state-x.result c.loop-step.invariant.value c.next_state-x.ensures.value;
  small = c.next_state-x.ensures.small;
}
