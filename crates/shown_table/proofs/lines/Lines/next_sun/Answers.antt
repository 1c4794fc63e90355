use Rattle.std.proofs.Common.{◌≡◌, List, Result, ap, arith, length, map, subst}
use Rattle.cell_split.specs.declared.verdict.Entry.{Entry}
use Rattle.covering_check.specs.declared.fault.CoverFault.{CoverFault}
use Rattle.method_table.specs.Row.{Row, row_of}
use Rattle.shown_table.specs.Came.{ShowsEntry}
use Rattle.shown_table.proofs.DayLemmas.{sun_shown_is}
use Rattle.shown_table.proofs.lines.Lines.next_sun.Goals as goal

pub next_shown-requires-clause-known : goal.next_shown-requires-clause-known
next_shown-requires-clause-known c =
    let same : length (map row_of c.args.sky.now.problems) ≡ 7 = ap (λ (rs : List Row). length rs) c.requires.turned in
    omega (arith, c.requires.which, same)

pub returns-clause-shows : goal.returns-clause-shows
returns-clause-shows c =
    subst (λ (s : Result Entry CoverFault). ShowsEntry c.args.self.now.number s c.next_shown.result)
    (sun_shown_is c.args.sky.now c.args.day.now.number (map row_of c.args.night.now.problems) c.args.which c.sun_word.result.now c.args.date.now _
    c.requires.turned c.sun_word.ensures c.requires.date)
    c.next_shown.ensures.shows
