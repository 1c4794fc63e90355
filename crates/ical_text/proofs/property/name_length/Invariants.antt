use Rattle.std.proofs.Common.{◌≡◌, ◌+◌, drop}
use Rattle.ical_text.specs.Properties.{name_length}
use Rattle.ical_text.proofs.property.name_length.Given as goal

-- the bytes so far are a name's
abbrev pub invariant-loop-i : goal.invariant-loop-i
invariant-loop-i l = name_length l.head ≡ l.i + name_length (drop l.i l.head)
