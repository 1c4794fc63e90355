use Rattle.std.proofs.Common.{◌≡◌, ◌++◌, drop}
use Rattle.order_text.specs.Line.{items_text, range_text}
use Rattle.order_text.proofs.LineLemmas.{rest_text}
use Rattle.order_text.proofs.line.push_ranges.Given as goal

abbrev pub invariant-loop-i : goal.invariant-loop-i
invariant-loop-i l = l.line.items ++ rest_text range_text l.i (drop l.i (l.ranges)) ≡ l.fn.line.items ++ items_text range_text (l.ranges)
