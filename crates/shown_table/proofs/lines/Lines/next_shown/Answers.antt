use Rattle.std.proofs.Common.{◌∙◌, Err, List, ap, inl, inr, map, sym, ℕ}
use Rattle.cell_judge.specs.Skies.{sky_content}
use Rattle.covering_check.specs.Checks.{shown_of}
use Rattle.method_table.specs.Row.{row_of}
use Rattle.shown_table.proofs.lines.Lines.next_shown.Goals as goal

pub returns-in-Ok-clause-shows : goal.returns-in-Ok-clause-shows
returns-in-Ok-clause-shows c =
    let sky = c.args.sky.now in
    ap (λ (l : List ℕ). shown_of (sky_content sky.sun sky.district (map row_of sky.problems) sky.root) c.args.k c.args.column.now c.args.date.now l)
    (sym c.next-line.ensures.line) ∙ c.in-Ok.ensures.value

pub returns-in-Err-clause-shows : goal.returns-in-Err-clause-shows
returns-in-Err-clause-shows c =
    let sky = c.args.sky.now in (
      c.bad.ensures.number,
      elim c.in-Err.ensures.value [
        | inl memory ↦ inl (c.bad.ensures.fault ∙ memory)
        | inr is ↦
            inr (ap (λ (l : List ℕ). shown_of (sky_content sky.sun sky.district (map row_of sky.problems) sky.root) c.args.k c.args.column.now c.args.date.now l)
            (sym c.next-line.ensures.line) ∙ is ∙ ap Err (sym c.bad.ensures.fault))
      ],
    )
