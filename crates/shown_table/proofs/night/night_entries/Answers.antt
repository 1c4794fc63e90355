use Rattle.std.proofs.Common.{inl, inr}
use Rattle.order_covering.proofs.CoveringLemmas.{without}
use Rattle.shown_table.proofs.DayLemmas.{none_shown, some_bad, some_shown}
use Rattle.shown_table.proofs.night.night_entries.Goals as goal

pub returns-in_default-clause-shows : goal.returns-in_default-clause-shows
returns-in_default-clause-shows c =
    let sky = c.args.sky.now in
    none_shown sky.sun sky.district sky.root c.args.day.now c.args.lines.now.number c.args.lines.now.text.now
    (without c.args.day.now.night c.in_default.not-Some)

pub returns-in-Ok-clause-shows : goal.returns-in-Ok-clause-shows
returns-in-Ok-clause-shows c =
    let sky = c.args.sky.now in
    some_shown sky.sun sky.district sky.root c.args.day.now c.args.lines.now.number c.args.lines.now.text.now c.in-Some.night c.in-Some.is
    c.in-Ok.entries c.turned_entries.new.lines.text.now c.in-Ok.ensures.shows

pub returns-in-Err-clause-shows : goal.returns-in-Err-clause-shows
returns-in-Err-clause-shows c =
    let sky = c.args.sky.now in
    elim c.in-Err.ensures.shows [
      | inl memory ↦ inl memory
      | inr is ↦
          inr (some_bad sky.sun sky.district sky.root c.args.day.now c.args.lines.now.number c.args.lines.now.text.now c.in-Some.night c.in-Some.is
          c.in-Err.bad is)
    ]
