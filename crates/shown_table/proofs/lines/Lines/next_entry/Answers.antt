use Rattle.std.proofs.Common.{◌≡◌, List, Result, ap, arith, length, subst}
use Rattle.std.proofs.lemmas.List.{length-map}
use Rattle.cell_split.specs.declared.verdict.Entry.{Entry}
use Rattle.covering_check.specs.declared.fault.CoverFault.{CoverFault}
use Rattle.method_table.specs.Row.{row_of}
use Rattle.method_table.specs.declared.problem.Problem.{Problem}
use Rattle.shown_table.specs.Came.{ShowsEntry}
use Rattle.shown_table.proofs.DayLemmas.{shown_is}
use Rattle.shown_table.proofs.lines.Lines.next_entry.Goals as goal

pub next_shown-requires-clause-known : goal.next_shown-requires-clause-known
next_shown-requires-clause-known c =
    let problems = c.args.sky.now.problems in
    let seven = c.args.day.now.seven in
    let same : length problems ≡ length c.args.day.now.problems = ap (λ (ps : List Problem). length ps) c.requires.turned in
    omega (arith, c.requires.column, seven, same, length-map problems row_of)

pub returns-clause-shows : goal.returns-clause-shows
returns-clause-shows c =
    subst (λ (s : Result Entry CoverFault). ShowsEntry c.args.self.now.number s c.next_shown.result)
    (shown_is c.args.sky.now c.args.day.now c.args.k c.column_word-column.result.now c.args.date.now _ c.index-day-k.result
    c.requires.column c.requires.turned c.column_word-column.ensures c.requires.date)
    c.next_shown.ensures.shows
