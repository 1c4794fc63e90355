use Rattle.std.proofs.Common.{◌≡◌, ◌++◌, drop}
use Rattle.order_text.specs.Line.{items_text, polygon_text}
use Rattle.order_text.proofs.LineLemmas.{rest_text}
use Rattle.order_text.proofs.line.push_polygons.Given as goal

abbrev pub invariant-loop-i : goal.invariant-loop-i
invariant-loop-i l = l.line.items ++ rest_text polygon_text l.i (drop l.i (l.district)) ≡ l.fn.line.items ++ items_text polygon_text (l.district)
