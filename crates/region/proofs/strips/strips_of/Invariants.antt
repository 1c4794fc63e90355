use Rattle.std.proofs.Common.{◌≡◌, length}
use Rattle.region.specs.Strips.{AreStripsFrom}
use Rattle.region.proofs.strips.strips_of.Given as goal

abbrev pub invariant-loop-i : goal.invariant-loop-i
invariant-loop-i l = (length l.strips.items ≡ l.i) × AreStripsFrom l.polygons l.south l.strips.items
