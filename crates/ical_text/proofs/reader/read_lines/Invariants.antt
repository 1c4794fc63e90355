use Rattle.std.proofs.Common.{length}
use Rattle.ical_text.proofs.ReadingLemmas.{SoFar}
use Rattle.ical_text.proofs.reader.read_lines.Given as goal

abbrev pub decreases-loop-rest : goal.decreases-loop-rest
decreases-loop-rest l = length l.rest

-- the lines that were taken, with what is left, are all
abbrev pub invariant-loop-rest : goal.invariant-loop-rest
invariant-loop-rest l = SoFar l.fn.reader l.reader l.bytes l.line.items l.rest
