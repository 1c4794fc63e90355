use Rattle.std.proofs.Common.{◌≡◌, List, subst, sym}
use Rattle.std.specs.Prelude.{None}
use Rattle.cell_split.specs.declared.cell.Cell.{Cell}
use Rattle.ring_survey.specs.Faults.{first_fault}
use Rattle.ring_survey.specs.Polygons.{Polygon}
use Rattle.method_table.specs.declared.sun.SunChoice.{SunChoice}
use Rattle.order_table.specs.Made.{day_of}
use Rattle.shown_table.specs.Came.{ShowsEntries}
use Rattle.shown_table.specs.Shown.{columns_shown}
use Rattle.shown_table.proofs.DayLemmas.{over, printable_if}
use Rattle.shown_table.proofs.day.turned_entries.Goals as goal

pub returns-clause-shows : goal.returns-clause-shows
returns-clause-shows c =
    over (λ (sun : SunChoice) (polygons : List Polygon) (root : Cell). ShowsEntries
    (columns_shown sun polygons root (day_of c.args.day.now) c.args.lines.now.number c.args.lines.now.text.now)
    c.column_entries.result c.column_entries.new.lines.text.now)
    c.turn_to.new.self.sun c.args.sky.now.sun c.turn_to.new.self.district c.args.sky.now.district c.turn_to.new.self.root c.args.sky.now.root
    c.turn_to.ensures.sun_is c.turn_to.ensures.district_is c.turn_to.ensures.root_is c.column_entries.ensures.shows

pub returns-clause-printable : goal.returns-clause-printable
returns-clause-printable c =
    printable_if c.turn_to.new.self c.args.day.now
    (subst (λ (polygons : List Polygon). first_fault polygons ≡ None) (sym c.turn_to.ensures.district_is) c.requires.sound)
    c.args.lines.now.number c.args.lines.now.text.now c.column_entries.result c.column_entries.new.lines.text.now c.column_entries.ensures.shows
