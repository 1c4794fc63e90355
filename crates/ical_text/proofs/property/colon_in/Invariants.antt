use Rattle.std.proofs.Common.{◌≡◌, false, drop}
use Rattle.ical_text.specs.Properties.{colon_in}
use Rattle.ical_text.proofs.PropertyLemmas.{further}
use Rattle.ical_text.proofs.property.colon_in.Given as goal

-- the colon is not among the bytes so far
abbrev pub invariant-loop-i : goal.invariant-loop-i
invariant-loop-i l = colon_in false l.line ≡ further l.i (colon_in l.quoted (drop l.i l.line))
