use Rattle.std.proofs.Common.{◌≡◌, ◌++◌, drop, []}
use Rattle.std.specs.Prelude.{slice_index_or}
use Rattle.order_text.specs.Line.{items_text, ring_text}
use Rattle.order_text.proofs.LineLemmas.{rest_text}
use Rattle.order_text.proofs.line.push_rings.Given as goal

abbrev pub invariant-loop-i : goal.invariant-loop-i
invariant-loop-i l = l.line.items ++ rest_text ring_text l.i (drop l.i (slice_index_or l.district l.polygon [])) ≡ l.fn.line.items ++ items_text ring_text (slice_index_or l.district l.polygon [])
