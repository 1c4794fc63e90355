use Rattle.std.proofs.Common.{◌≡◌}
use Rattle.order_rule.proofs.OffsetLemmas.{so_far}
use Rattle.order_rule.specs.Offsets.{offsets_of}
use Rattle.order_rule.proofs.offsets.offsets_of.Given as goal

-- the offsets so far, with those of the days that are left, are all
abbrev pub invariant-loop-i : goal.invariant-loop-i
invariant-loop-i l = so_far l.zone l.from_day l.days l.i l.offsets.items ≡ offsets_of l.zone l.from_day l.days
