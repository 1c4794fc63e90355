use Rattle.std.proofs.Common.{sym, ap, ◌∙◌}
use Rattle.plain_search.specs.Harvests.{ordinal_of}
use Rattle.cell_split.specs.Tree.{leaves}
use Rattle.covering.specs.Refuted.{first_refuted}
use Rattle.covering.proofs.Refuting.{none_refuted}
use Rattle.covering.proofs.settling.first_refuted.Goals as goal

pub returns-in_err-rank : goal.returns-in_err-rank
returns-in_err-rank g c =
    let ls = leaves (g.J.Judge.content c.args.judge.now) c.args.root in
    c.from_residual.ensures ∙ (sym (none_refuted ls) ∙ ap (λ r. first_refuted (ordinal_of r) ls) (sym c.in_err-rank.was))
