use Rattle.ical_text.proofs.LineLemmas.{IsCutFrom}
use Rattle.ical_text.proofs.pieces.first_piece.Given as goal

-- no CR LF so far
abbrev pub invariant-loop-i : goal.invariant-loop-i
invariant-loop-i l = IsCutFrom l.bytes l.i
