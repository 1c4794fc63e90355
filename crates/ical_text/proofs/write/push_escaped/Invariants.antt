use Rattle.std.proofs.Common.{◌≡◌, ◌++◌, take}
use Rattle.ical_text.specs.Calendar.{escaped}
use Rattle.ical_text.proofs.write.push_escaped.Given as goal

abbrev pub invariant-loop-b : goal.invariant-loop-b
invariant-loop-b l = l.text.items ≡ l.fn.text.items ++ escaped (take l.b-index l.zone)
