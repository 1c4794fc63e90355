use Rattle.std.proofs.Common.{Ok, ap, sym, ◌∙◌}
use Rattle.covering_check.specs.Left.{left}
use Rattle.covering_check.proofs.Showing.{shown_entry}
use Rattle.covering_check.proofs.check.check_claim.Goals as goal

pub entry_by-requires-clause-refuted : goal.entry_by-requires-clause-refuted
entry_by-requires-clause-refuted g c = rw c.rank-refuted.ensures c.requires.in_frame

pub returns : goal.returns
returns g c =
    let walked = rw (c.root.ensures, c.rank-refuted.ensures) at c.in-Ok.ensures.walks in
    let entry = rw c.rank-refuted.ensures at c.entry_by.ensures in
    ap (λ e. Ok e) entry ∙ sym (shown_entry (g.J.Judge.content c.args.judge.now) c.args.k c.args.claim (left c.args.letters.now) _ c.in-Ok.open walked.0 walked.1 (sym c.are_spent.ensures ∙ c.if-not-are_spent.false) (sym c.is_failing.ensures ∙ c.if-not-is_failing.false))
