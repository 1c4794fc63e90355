use Rattle.std.proofs.Common.{Err, List, Ok, inl, inr}
use Rattle.cell_split.specs.declared.cell.Cell.{Cell}
use Rattle.ring_survey.specs.Polygons.{Polygon}
use Rattle.method_table.specs.declared.sun.SunChoice.{SunChoice}
use Rattle.order_table.specs.Made.{day_of}
use Rattle.shown_table.specs.Came.{ShowsNightEntries}
use Rattle.shown_table.specs.Shown.{night_shown}
use Rattle.shown_table.proofs.DayLemmas.{over}
use Rattle.shown_table.proofs.ShowingLemmas.{day_is_bad, day_is_whole, night_is_bad}
use Rattle.shown_table.proofs.day.day_entries.Goals as goal

pub returns-in-Err-clause-shows : goal.returns-in-Err-clause-shows
returns-in-Err-clause-shows c =
    let sky = c.args.sky.now in
    elim c.in-Err.ensures.shows [
      | inl memory ↦ inl memory
      | inr is ↦
          inr (day_is_bad sky.sun sky.district sky.root (day_of c.args.day.now) c.args.lines.now.number c.args.lines.now.text.now c.in-Err.bad is)
    ]

pub returns-in-Ok-night_entries-clause-shows : goal.returns-in-Ok-night_entries-clause-shows
returns-in-Ok-night_entries-clause-shows c =
    let sky = c.args.sky.now in
    let turned = c.turned_entries.new.sky in
    let lines = c.turned_entries.new.lines in
    let day = day_of c.args.day.now in
    let night = over (λ (s : SunChoice) (p : List Polygon) (r : Cell). ShowsNightEntries
    (night_shown s p r day.number day.night lines.number lines.text.now) (Ok c.in-Ok-night_entries.night_entries) c.night_entries.new.lines.text.now)
    turned.sun sky.sun turned.district sky.district turned.root sky.root c.in-Ok.ensures.sun c.in-Ok.ensures.district c.in-Ok.ensures.root
    c.in-Ok-night_entries.ensures.shows in
    day_is_whole sky.sun sky.district sky.root day c.args.lines.now.number lines.number c.args.lines.now.text.now lines.text.now c.in-Ok.entries
    c.in-Ok-night_entries.night_entries c.night_entries.new.lines.text.now c.in-Ok.ensures.shows c.in-Ok.ensures.number night

pub returns-in-Err-night_entries-clause-shows : goal.returns-in-Err-night_entries-clause-shows
returns-in-Err-night_entries-clause-shows c =
    let sky = c.args.sky.now in
    let turned = c.turned_entries.new.sky in
    let lines = c.turned_entries.new.lines in
    let day = day_of c.args.day.now in
    let night = over (λ (s : SunChoice) (p : List Polygon) (r : Cell). ShowsNightEntries
    (night_shown s p r day.number day.night lines.number lines.text.now) (Err c.in-Err-night_entries.bad) c.night_entries.new.lines.text.now)
    turned.sun sky.sun turned.district sky.district turned.root sky.root c.in-Ok.ensures.sun c.in-Ok.ensures.district c.in-Ok.ensures.root
    c.in-Err-night_entries.ensures.shows in
    elim night [
      | inl memory ↦ inl memory
      | inr is ↦
          inr (night_is_bad sky.sun sky.district sky.root day c.args.lines.now.number lines.number c.args.lines.now.text.now lines.text.now c.in-Ok.entries
          c.in-Err-night_entries.bad c.in-Ok.ensures.shows c.in-Ok.ensures.number is)
    ]
