use Rattle.std.proofs.Common.{◌≡◌, ◌++◌, drop}
use Rattle.ical_text.specs.Lines.{folded_from}
use Rattle.ical_text.proofs.folded.push_folded.Given as goal

-- what is written, with what is left, is all
abbrev pub invariant-loop-b : goal.invariant-loop-b
invariant-loop-b l = l.text.items ++ folded_from l.room (drop l.b-index l.line) ≡ l.fn.text.items ++ folded_from 75 l.line
