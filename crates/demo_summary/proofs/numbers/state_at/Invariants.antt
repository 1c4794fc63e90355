use Rattle.std.proofs.Common.{◌≡◌, ◌<◌}
use Rattle.demo_summary.specs.Numbers.{state_at}
use Rattle.demo_summary.proofs.numbers.state_at.Given as goal

-- the state after so many steps
abbrev pub invariant-loop-step : goal.invariant-loop-step
invariant-loop-step l = record {
  value : l.x ≡ state_at l.number l.step;
  small : l.x < 2147483648;
}
