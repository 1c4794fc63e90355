use Rattle.std.proofs.Common.{◌≡◌, ◌++◌, drop}
use Rattle.order_text.specs.Line.{items_text, position_text}
use Rattle.order_text.proofs.LineLemmas.{rest_text}
use Rattle.demo_summary.proofs.line.push_positions.Given as goal

abbrev pub invariant-loop-i : goal.invariant-loop-i
invariant-loop-i l = l.line.items ++ rest_text position_text l.i (drop l.i (l.ring)) ≡ l.fn.line.items ++ items_text position_text (l.ring)
