use Rattle.std.proofs.Common.{sym, ap, ◌∙◌, subst}
use Rattle.cell_split.specs.Entries.{entry_by}
use Rattle.cell_split.specs.Verdicts.{is_refuted}
use Rattle.plain_search.specs.Harvests.{ordinal_of}
use Rattle.covering.specs.Entries.{IsEntryIn}
use Rattle.covering.specs.Seeks.{open_of}
use Rattle.covering.specs.Settles.{leaves_of}
use Rattle.covering.proofs.Entering.{entry_in_root, open_in_frame}
use Rattle.plain_search.proofs.OpenLeaves.{greatest_in_frame}
use Rattle.covering.proofs.entry.entry_of_ranks.Goals as goal

pub entry_by-requires-clause-refuted : goal.entry_by-requires-clause-refuted
entry_by-requires-clause-refuted g c =
    rw c.requires.ranks.greatest_refuted (greatest_in_frame (λ l. is_refuted l.verdict) _ c.args.k (g.met.J.Judge.lawful c.args.judge.now) c.requires.known)

pub entry_by-requires-clause-first : goal.entry_by-requires-clause-first
entry_by-requires-clause-first g c =
    open_in_frame _ c.args.k c.first_open.result (g.met.J.Judge.lawful c.args.judge.now) c.requires.known c.first_open.ensures

pub returns-clause-value : goal.returns-clause-value
returns-clause-value g c =
    let first = open_of (leaves_of (g.J.Judge.content c.args.judge.now) c.args.k) in
    c.entry_by.ensures ∙ (ap (entry_by (ordinal_of c.args.ranks.refuted)) c.first_open.ensures ∙ ap (λ ordinal. entry_by ordinal first) c.requires.ranks.greatest_refuted)

pub returns-clause-in_root : goal.returns-clause-in_root
returns-clause-in_root g c =
    let content = g.J.Judge.content c.args.judge.now in
    let is = c.entry_by.ensures ∙ ap (λ ordinal. entry_by ordinal c.first_open.result) c.requires.ranks.greatest_refuted in
    subst (IsEntryIn content.root) (sym is) (entry_in_root content c.args.k c.first_open.result (g.met.J.Judge.lawful c.args.judge.now) c.requires.known c.first_open.ensures)
