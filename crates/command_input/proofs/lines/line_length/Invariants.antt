use Rattle.std.proofs.Common.{◌≡◌, ◌+◌, ◌-◌, ◌≤◌, length, drop}
use Rattle.command_input.specs.Lines.{line_length}
use Rattle.command_input.proofs.lines.line_length.Given as goal

-- the bytes so far are no LF
abbrev pub invariant-loop-at : goal.invariant-loop-at
invariant-loop-at l = record {
  inside : l.at ≤ length l.text;
  so_far : line_length l.text ≡ l.at + line_length (drop l.at l.text);
}

abbrev pub decreases-loop-at : goal.decreases-loop-at
decreases-loop-at l = length l.text - l.at
