use Rattle.std.proofs.Common.{◌≡◌, [], take, slice_index_or}
use Rattle.border_check.proofs.districts.ring_of.Given as goal

abbrev pub invariant-loop-i : goal.invariant-loop-i
invariant-loop-i l = l.positions.items ≡ take l.i (slice_index_or (slice_index_or l.district l.polygon []) l.ring [])
