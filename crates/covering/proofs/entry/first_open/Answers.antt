use Rattle.std.proofs.Common.{sym, ap, ◌∙◌}
use Rattle.cell_split.specs.Entries.{first_open}
use Rattle.plain_search.specs.Harvests.{ordinal_of}
use Rattle.covering.specs.Settles.{leaves_of}
use Rattle.covering.proofs.Entering.{none_open}
use Rattle.covering.proofs.entry.first_open.Goals as goal

pub returns-in_err-left_open : goal.returns-in_err-left_open
returns-in_err-left_open g c =
    let ls = leaves_of (g.J.Judge.content c.args.judge.now) c.args.k in
    let none = sym (ap ordinal_of c.in_err-left_open.was) ∙ c.requires.left_open in
    c.from_residual.ensures ∙ (sym (none_open ls) ∙ ap (λ ordinal. first_open ordinal ls) none)
