use Rattle.std.proofs.Common.{pos, ◌∙◌}
use Rattle.ring_survey.proofs.Counting.{is_closed_by_ends}
use Rattle.ring_survey.proofs.counts.is_closed.Goals as goal

pub returns : goal.returns
returns c =
    let h = c.is_same.ensures in
    let k = is_closed_by_ends c.args.ring.now (pos 0, pos 0) c.requires in
    h ∙ k
