use Rattle.std.proofs.Common.{◌∙◌, ap, arith, sym}
use Rattle.ical_text.specs.Lines.{is_cut}
use Rattle.ical_text.proofs.LineLemmas.{cut_end, cut_here, cut_more}
use Rattle.ical_text.proofs.pieces.first_piece.Goals as goal

pub returns-then-is_cut-clause-pieces : goal.returns-then-is_cut-clause-pieces
returns-then-is_cut-clause-pieces c =
    cut_here c.args.bytes.now c.split_at.result.0.now c.split_at.result.1.now c.split_at-then-is_cut.result.1.now c.loop-i.i c.loop-i.invariant
    c.split_at.ensures.front c.split_at.ensures.back (sym c.is_cut.ensures.value ∙ c.if-is_cut.true) c.split_at-then-is_cut.ensures.back

pub loop-i-preserved : goal.loop-i-preserved
loop-i-preserved c =
    cut_more c.args.bytes.now c.loop-i.i (omega arith) (ap is_cut (sym c.split_at.ensures.back) ∙ (sym c.is_cut.ensures.value ∙ c.if-is_cut.false)) c.loop-i.invariant

pub returns-clause-pieces : goal.returns-clause-pieces
returns-clause-pieces c =
    cut_end c.args.bytes.now c.split_at-2.result.0.now c.split_at-2.result.1.now c.loop-i.i (omega arith) c.loop-i.invariant (omega arith)
    c.split_at-2.ensures.front c.split_at-2.ensures.back
